-- What is checked in the calls of a closed sheet.
use Rattle.std.specs.Prelude.{ℕ, List, [], ◌∷◌, nat_le}
use Rattle.std.specs.Int.{is_in_range}
use Rattle.statements.specs.declared.fault.Fault.TheVariants.{Steps, Short, Person}
use Rattle.statements.specs.Faults.{Check}

-- Search: at most 1,000,000 steps.
abbrev pub search_checks : ℕ → List Check
search_checks k = (nat_le k 1000000, Steps) ∷ []

-- Show: the page has a place for each of n items.
abbrev pub show_checks : ℕ → ℕ → List Check
show_checks n places = (nat_le n places, Short) ∷ []

-- Charge: the person is 1 to 20.
abbrev pub charge_checks : ℕ → List Check
charge_checks p = (is_in_range 1 20 p, Person) ∷ []
