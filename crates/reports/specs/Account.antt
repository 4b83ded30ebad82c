-- What is told of a sheet that is settled: it is closed, searched and shown, and each person is charged.
use Rattle.std.specs.Prelude.{◌≡◌, ℕ, Bool, true, List, ◌∷◌, Some, length, map, vec_items, slice_index_or}
use Rattle.std.specs.List.{range_with_len}
use Rattle.points.specs.Scenarios.{entry}
use Rattle.kinds.specs.Meaning.{Meaning}
use Rattle.tallies.specs.Groups.{span}
use Rattle.rules.specs.declared.row.Row.{Row}
use Rattle.rules.specs.Costs.{charge, sheet_bound}
use Rattle.rules.specs.Steps.{Rules, Position, best_cost, finished, searched}
use Rattle.rules.specs.Soundness.{Assignment, cost_by, Settled}
use Rattle.runs.specs.declared.call.Call.{Call}
use Rattle.runs.specs.declared.call.Call.TheVariants.{Close, Search, Show, Charge}
use Rattle.runs.specs.declared.answer.Sight.{Sight}
use Rattle.runs.specs.declared.answer.Answer.{Answer}
use Rattle.reports.specs.Found.{first_sight, charges_in}
use Rattle.reports.specs.Lines.{Print, report_of}

-- The values of the items, their cost, the lower bound of the sheet, whether the search has finished, and the charges of the persons.
pub record Account (V C : Type 0) : Type 0 where
  pub values : List V
  pub cost : C
  pub floor : C
  pub finished : Bool
  pub charges : List C

-- its report
abbrev pub report_on : {V C : Type 0} → Print V C → (C → Bool) → ℕ → Account V C → List ℕ
report_on p nothing number a = report_of p nothing number a.values a.cost a.floor a.finished a.charges

-- the account of a sheet whose search stands at s: the values that its kind gives the items for the incumbent, and the charges of the
-- persons 1 to 20
abbrev pub account_at : {V C : Type 0} → (ℕ → List ℕ → ℕ → V) → Rules C → ℕ → List Row → Position → Account V C
account_at values r n rows s = record {
  values = map (values n s.incumbent) (range_with_len 0 n);
  cost = best_cost r rows s;
  floor = sheet_bound r.joining r.at_most r.codes n rows;
  finished = finished r n s;
  charges = map (charge r.joining rows (entry s.incumbent)) (range_with_len 1 20);
}

-- The account of a sheet of n items with its rows, after so many steps.
unfoldable pub account_of : {V C : Type 0} → (ℕ → List ℕ → ℕ → V) → Rules C → ℕ → ℕ → List Row → Account V C
account_of values r steps n rows = account_at values r n rows (searched r n rows steps)

-- What is promised of an account of a sheet whose search stands at s.
pub record AccountLaw {V C : Type 0} (m : Meaning V) (r : Rules C) (n : ℕ) (rows : List Row) (s : Position) (a : Account V C) : Type 0 where
  -- There is a value for each item. The values are lawful and cost exactly what the statements that they break come to; no values before
  -- the cursor cost less, and none at all once the search has finished.
  pub each : length a.values ≡ n
  pub settled : (other : V) → Settled m r n rows s (λ i. slice_index_or a.values i other) a.cost a.finished
  -- The lower bound is at most the cost of any values.
  pub below : (y : ℕ → V) → Assignment m n y → r.at_most a.floor (cost_by m r.joining rows y) ≡ true
  -- There is a charge for each of the 20 persons, and they join to the cost.
  pub persons : length a.charges ≡ 20
  pub charged : span r.joining (λ i. slice_index_or a.charges i r.joining.empty) 0 20 ≡ a.cost

-- The calls that settle a sheet.
unfoldable pub settling : ℕ → List Call
settling steps = Close ∷ Search steps ∷ Show 12 ∷ map Charge (range_with_len 1 20)

-- Answers tell an account: what they show first, and the charges.
pub record Tells {V C : Type 0} (answers : List (Answer V C)) (a : Account V C) : Type 0 where
  pub sight : Sight V C
  pub shown : first_sight answers ≡ Some sight
  pub is : record { values = vec_items sight.values; cost = sight.shown.cost; floor = sight.shown.floor; finished = sight.shown.finished; charges = charges_in answers } ≡ a
