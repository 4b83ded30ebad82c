-- The line that is printed of a fault.
use Rattle.std.specs.Prelude.{ℕ, List, [], ◌∷◌, ◌++◌, codes}
use Rattle.std.specs.Fmt.{decimal}
use Rattle.files.specs.Faults.{SheetFault, fault_number, fault_field}

-- `fault 14 sheet 1 line 1 field 2`
abbrev pub fault_line : SheetFault → List ℕ
fault_line f =
    codes "fault " ++ decimal (fault_number f.fault) ++ codes " sheet " ++ decimal f.place.sheet ++ codes " line " ++ decimal f.place.line
    ++ codes " field " ++ decimal (fault_field f.fault) ++ (10 ∷ [])
