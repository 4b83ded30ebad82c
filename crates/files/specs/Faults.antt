-- Faults: which of several comes first, the number of each, and the field that it is at.
use Rattle.std.specs.Prelude.{ℕ, Bool, cond, List, [], ◌∷◌, Some, None, Ok, Err, Option, Result}
use Rattle.std.specs.Option.{option_or}
use Rattle.statements.specs.Faults.{number}
use Rattle.files.specs.declared.fault.At.{At}
use Rattle.files.specs.declared.fault.FieldFault.TheVariants.{NotNumber, NotWord, NotMark, Unknown}
use Rattle.files.specs.declared.fault.LineFault.{LineFault}
use Rattle.files.specs.declared.fault.LineFault.TheVariants.{TooLong, NoHead, FieldCount, Field, Draft}
use Rattle.files.specs.declared.fault.Place.{Place}

-- why a file is refused, by the name that the code gives it: the fault of a line, and the place of the line
abbrev pub SheetFault : Type 0
SheetFault = At Place LineFault

-- the number of a fault; a draft's fault has its own
abbrev pub fault_number : LineFault → ℕ
fault_number NoHead = 12
fault_number FieldCount = 13
fault_number (Field k NotNumber) = 14
fault_number (Field k NotWord) = 15
fault_number (Field k NotMark) = 15
fault_number (Field k Unknown) = 16
fault_number TooLong = 17
fault_number (Draft k f) = number f

-- the field that a fault is at; 0 is the line itself
abbrev pub fault_field : LineFault → ℕ
fault_field NoHead = 0
fault_field FieldCount = 0
fault_field TooLong = 0
fault_field (Field k f) = k
fault_field (Draft k f) = k

-- the first of the faults that are there
abbrev pub first : {F : Type 0} → List (Option F) → Option F
first [] = None
first (f ∷ fs) = option_or f (first fs)

-- a fault, unless what should hold does
abbrev pub unless : {F : Type 0} → Bool → F → Option F
unless good f = cond good None (Some f)

-- a value, where there is no fault
abbrev pub answered : {F T : Type 0} → Option F → T → Result T F
answered (Some f) x = Err f
answered None x = Ok x

-- a value, where what should hold does, and else a fault
abbrev pub given : {T E : Type 0} → Bool → T → E → Result T E
given good x e = cond good (Ok x) (Err e)

-- the same answer, a fault having its place beside it
abbrev pub placed_at : {P T E : Type 0} → P → Result T E → Result T (At P E)
placed_at p (Ok x) = Ok x
placed_at p (Err e) = Err (record { place = p; fault = e })
