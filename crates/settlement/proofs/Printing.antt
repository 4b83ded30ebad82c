-- What a text does to the bytes that a writer holds.
use Rattle.std.proofs.Common.{◌≡◌, ℕ, List, ◌++◌, Some, None, Ok, Err, Option, Result, length, take, refl, ap, ◌∙◌}
use Rattle.std.proofs.Math.Seq.{take-append_seam}
use Rattle.std.specs.Io.KnownBytes.{Appends}
use Rattle.std.proofs.KnownBytes.{Appends-nil}
use Rattle.files.specs.Faults.{SheetFault, answered}
use Rattle.settlement.specs.declared.stop.Stop.{Stop}
use Rattle.settlement.specs.declared.stop.Stop.TheVariants.{Unfit}
use Rattle.settlement.specs.Ends.{Ends, unless_refused}

-- a sheet is refused, and nothing is printed
pub ends_refused : (o : Option SheetFault) (f : SheetFault) (old : Option (List ℕ)) (text : List ℕ) (r : Result (Unit {0}) Stop) → answered o (tt {0}) ≡ Err f → r ≡ Err (Unfit f)
    → Ends r o old old (unless_refused o text)
ends_refused (Some g) f old text r e s = rw s ((ap same e), Appends-nil old)
  where
    same : Result (Unit {0}) SheetFault → Option SheetFault
    same (Err h) = Some h
    same (Ok _) = None
ends_refused None f old text r e s = cc

-- or its report is
pub ends_settled : (o : Option SheetFault) (old new : Option (List ℕ)) (text : List ℕ) → answered o (tt {0}) ≡ Ok (tt {0}) → Appends old new text
    → (o ≡ None) × Appends old new (unless_refused o text)
ends_settled (Some g) old new text e a = cc
ends_settled None old new text e a = (refl, a)

-- the front of a buffer in which a text was put
pub front : (text rest buffer : List ℕ) (n : ℕ) → n ≡ length text → buffer ≡ text ++ rest → take n buffer ≡ text
front text rest buffer n e f = ap (take n) f ∙ ap (λ k. take k (text ++ rest)) e ∙ take-append_seam text rest
