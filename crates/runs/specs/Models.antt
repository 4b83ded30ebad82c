-- What a script makes of a sheet, as a function of the calls alone.
use Rattle.std.specs.Prelude.{ℕ, ◌+◌, ◌-◌, List, [], ◌∷◌, ◌++◌, Some, None, Option, slice_set}
use Rattle.kinds.specs.Meaning.{Meaning}
use Rattle.rules.specs.declared.row.Row.{Row}
use Rattle.rules.specs.Rows.{with_struck, with_weight}
use Rattle.rules.specs.Steps.{Rules, Position, opening, advance, taken}
use Rattle.statements.specs.declared.fault.Fault.{Fault}
use Rattle.statements.specs.Faults.{Check, first_fault}
use Rattle.statements.specs.Drafts.{size_checks, enter_checks, row_of, numbered, strike_checks, reweigh_checks}
use Rattle.statements.specs.Searches.{search_checks}
use Rattle.runs.specs.declared.call.Call.{Call}
use Rattle.runs.specs.declared.call.Call.TheVariants.{Size, Enter, Strike, Reweigh, Close, Search, Reopen}

-- A draft of n items with its rows; or a closed sheet, where its search stands, and how many steps it has taken and been asked for since
-- it was closed.
pub data Model : Type 0 where
  drafting : ℕ → List Row → Model
  closed : ℕ → List Row → Position → ℕ → ℕ → Model

-- good where there is no fault, else bad with the fault
abbrev pub verdict : {A : Type 0} → Option Fault → A → (Fault → A) → A
verdict None good bad = good
verdict (Some f) good bad = bad f

-- good where all checks pass, else bad with the fault of the first that fails
abbrev pub by_checks : {A : Type 0} → List Check → A → (Fault → A) → A
by_checks checks good bad = verdict (first_fault checks) good bad

module _ {V C : Type 0} (m : Meaning V) (r : Rules C) where
  -- What one call makes of it. A call that is refused, or that its state does not take, changes nothing.
  abbrev pub next : Model → Call → Model
  next (drafting n rows) (Size k) = by_checks (size_checks k) (drafting k []) (λ _. drafting n rows)
  next (drafting n rows) (Enter e) = by_checks (enter_checks m.codes n rows e) (drafting n (rows ++ (row_of m.converse m.codes e ∷ []))) (λ _. drafting n rows)
  next (drafting n rows) (Strike i) = by_checks (strike_checks rows i) (drafting n (slice_set rows (i - 1) (with_struck (numbered rows i)))) (λ _. drafting n rows)
  next (drafting n rows) (Reweigh i w) = by_checks (reweigh_checks rows i w) (drafting n (slice_set rows (i - 1) (with_weight (numbered rows i) w))) (λ _. drafting n rows)
  next (drafting n rows) Close = closed n rows (opening n) 0 0
  next (closed n rows s steps asked) (Search k) = by_checks (search_checks k)
      (closed n rows (advance r n rows k s) (steps + taken r n rows k s) (asked + k)) (λ _. closed n rows s steps asked)
  next (closed n rows s steps asked) Reopen = drafting n rows
  next x c = x

  -- What a list of calls makes of it.
  abbrev pub after : Model → List Call → Model
  after x [] = x
  after x (c ∷ cs) = after (next x c) cs
