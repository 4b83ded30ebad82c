-- What a call comes to that settles: which fault it meets, what it has printed, what can be relied on.
use Rattle.std.specs.Prelude.{◌≡◌, ℕ, ◌≤◌, List, [], length, Some, None, Ok, Err, Option, Result, OnOk}
use Rattle.std.specs.Io.KnownBytes.{Appends}
use Rattle.files.specs.Faults.{SheetFault}
use Rattle.files.specs.Views.{View, Contents, contents, load_fault, load_after, load_contents}
use Rattle.files.specs.Words.{Spelling}
use Rattle.statements.specs.declared.fault.Fault.TheVariants.{Memory}
use Rattle.settlement.specs.declared.stop.Failure.{Failure}
use Rattle.settlement.specs.declared.stop.Failure.TheVariants.{Refused, Io}
use Rattle.settlement.specs.declared.stop.Stop.{Stop}
use Rattle.settlement.specs.declared.stop.Stop.TheVariants.{Unfit, Failed}
use Rattle.settlement.specs.Named.{OfKind, OfTally}
use Rattle.settlement.specs.Output.{report_as, ReliableAs, AllReliable}

-- No text is longer than two numbers with a byte between them.
abbrev pub ShortTexts : {A : Type 0} → (A → List ℕ) → Type 0
ShortTexts {A} text = (x : A) → length (text x) ≤ 129

-- What a call may fail for, whatever the file says: want of memory, or that reading or printing fails.
abbrev pub Wants : Failure → Type 0
Wants (Refused f) = f ≡ Memory
Wants (Io e) = Unit {0}

-- How a call ends that is to meet the fault o, if there is one, and to print this text behind what was printed before: it does, or it fails.
abbrev pub Ends : Result (Unit {0}) Stop → Option SheetFault → Option (List ℕ) → Option (List ℕ) → List ℕ → Type 0
Ends (Ok _) o old new text = (o ≡ None) × Appends old new text
Ends (Err (Unfit f)) o old new text = (o ≡ Some f) × Appends old new text
Ends (Err (Failed e)) o old new text = Wants e

-- the reader stands where it must, unless the call fails
abbrev pub Moves : Result (Unit {0}) Stop → View → View → Type 0
Moves (Ok _) w u = w ≡ u
Moves (Err (Unfit f)) w u = w ≡ u
Moves (Err (Failed e)) w u = Unit {0}

-- each sheet before the file's first fault is reported reliably, unless the call fails
abbrev pub EndsReliably : Result (Unit {0}) Stop → List ℕ → Type 0
EndsReliably (Ok _) file = AllReliable file
EndsReliably (Err (Unfit f)) file = AllReliable file
EndsReliably (Err (Failed e)) file = Unit {0}

-- the text, or nothing where a sheet is refused
abbrev pub unless_refused : Option SheetFault → List ℕ → List ℕ
unless_refused (Some f) text = []
unless_refused None text = text

-- what a fresh draft has
abbrev pub fresh : Contents
fresh = contents 1 []

-- What settling a sheet as the n-th of its file comes to, by a reader that is seen as v before and as w after; s says how a kind and a
-- tally are written.
pub record SettlesAs {V C : Type 0} (s : Spelling) (k : OfKind V) (t : OfTally C) (n : ℕ) (v : View) (r : Result (Unit {0}) Stop) (w : View) (old new : Option (List ℕ)) : Type 0 where
  -- The reader stands behind the sheet, or where it was if the sheet is refused.
  pub after : Moves r w (load_after s v)
  -- The report is printed, or the sheet is refused.
  pub printed : Ends r (load_fault s v) old new (unless_refused (load_fault s v) (report_as k t n (load_contents s v fresh)))
  pub reliable : OnOk r (ReliableAs k t (load_contents s v fresh))
