-- Refusals and their numbers, and which of several checks is the first to fail.
use Rattle.std.specs.Prelude.{ℕ, Bool, cond, List, [], ◌∷◌, Some, None, Option}
use Rattle.statements.specs.declared.fault.Fault.{Fault}
use Rattle.statements.specs.declared.fault.Fault.TheVariants.{Size, Item, Same, Code, Weight, Person, Full, Missing, Struck, Steps, Short, Memory}

-- the number by which a refusal is printed
abbrev pub number : Fault → ℕ
number Size = 1
number Item = 2
number Same = 3
number Code = 4
number Weight = 5
number Person = 6
number Full = 7
number Missing = 8
number Struck = 9
number Steps = 10
number Short = 11
number Memory = 0

-- what has to hold, and the refusal where it does not
abbrev pub Check : Type 0
Check = Bool × Fault

-- the refusal of the first check that fails
abbrev pub first_fault : List Check → Option Fault
first_fault [] = None
first_fault (c ∷ cs) = cond c.0 (first_fault cs) (Some c.1)
