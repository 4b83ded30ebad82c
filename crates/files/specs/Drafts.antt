-- A statement's line as a draft takes it: the line's own faults come first, then the draft's, each at the field that it is about.
use Rattle.std.specs.Prelude.{◌≡◌, ℕ, cond, List, [], ◌∷◌, ◌++◌, Ok, Err, Option, Result}
use Rattle.std.specs.Option.{option_map}
use Rattle.rules.specs.declared.row.Row.{Row}
use Rattle.std.specs.Int.{is_in_range}
use Rattle.statements.specs.declared.entry.Entry.{Entry}
use Rattle.statements.specs.declared.fault.Fault.{Fault}
use Rattle.statements.specs.declared.fault.Fault.TheVariants.{Size, Item, Same, Code, Weight, Person}
use Rattle.statements.specs.Drafts.{enter_checks, row_of}
use Rattle.statements.specs.Faults.{first_fault}
use Rattle.files.specs.declared.fault.At.{At}
use Rattle.files.specs.declared.fault.LineFault.{LineFault}
use Rattle.files.specs.declared.fault.LineFault.TheVariants.{Draft}
use Rattle.files.specs.Faults.{first, answered}
use Rattle.files.specs.Statements.{statement_fault, entry_of}
use Rattle.files.specs.Words.{Spelling}

-- the field of a line that a draft of so many items refuses its entry at: of two items the first that is out of range, as written; 0,
-- the line itself, where the draft is full
abbrev pub refusal_field : ℕ → Entry → Fault → ℕ
refusal_field items e Size = 2
refusal_field items e Item = cond (is_in_range 1 items e.first) 2 1
refusal_field items e Same = 2
refusal_field items e Code = 3
refusal_field items e Weight = 4
refusal_field items e Person = 5
refusal_field items e _ = 0

-- a draft's refusal with its field
abbrev pub refused_at : (Fault → ℕ) → Option Fault → Result (Unit {0}) (At ℕ Fault)
refused_at field o = answered (option_map (λ f. record { place = field f; fault = f }) o) tt

-- and as the fault of a line
abbrev pub refused_line : (Fault → ℕ) → Option Fault → Option LineFault
refused_line field o = option_map (λ f. Draft (field f) f) o

-- what a draft refuses an entry by
abbrev pub entry_refusal : Spelling → ℕ → List Row → Entry → Option Fault
entry_refusal s items rows e = first_fault (enter_checks s.codes items rows e)

-- the first fault of a statement's line, for a draft with so many items and these rows
abbrev pub line_fault : Spelling → ℕ → List Row → List ℕ → Option LineFault
line_fault s items rows line = first
    (statement_fault s.code line
    ∷ refused_line (refusal_field items (entry_of s.code line)) (entry_refusal s items rows (entry_of s.code line))
    ∷ [])

-- the row that a statement's line stands for
abbrev pub row_in : Spelling → List ℕ → Row
row_in s line = row_of s.converse s.codes (entry_of s.code line)

-- a draft after a row was to be appended: it has one row more, or is as it was
abbrev pub Entered : {F : Type 0} → Result (Unit {0}) F → Row → ℕ → List Row → ℕ → List Row → Type 0
Entered (Ok _) row items rows items' rows' = (items' ≡ items) × (rows' ≡ rows ++ (row ∷ []))
Entered (Err _) row items rows items' rows' = (items' ≡ items) × (rows' ≡ rows)
