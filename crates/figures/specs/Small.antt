-- Three small sheets of moments, and what it is to search them to the end.
use Rattle.std.specs.Prelude.{◌≡◌, ℕ, ◌^◌, ◌<◌, ◌≤◌, true, false, List, [], ◌∷◌, map, nat_le}
use Rattle.std.specs.List.{range_with_len}
use Rattle.points.specs.Scenarios.{entry}
use Rattle.kinds.specs.Layouts.{fit}
use Rattle.moments.specs.Moments.{moments, line, moment}
use Rattle.tallies.specs.Weights.{by_weight}
use Rattle.tallies.specs.Sworn.{sworn_first, sworn_order}
use Rattle.tallies.specs.declared.sworn_first.SwornCost.{SwornCost}
use Rattle.rules.specs.declared.row.Row.{Row}
use Rattle.rules.specs.Costs.{charge}
use Rattle.rules.specs.Steps.{Rules, Position, opening, finished, best_cost, taken, searched}
use Rattle.rules.specs.Soundness.{rules}

-- Moments by weight (M w), and moments sworn first (M r).
abbrev pub moments_by_weight : Rules ℕ
moments_by_weight = rules moments (fit line) by_weight nat_le

abbrev pub moments_sworn_first : Rules SwornCost
moments_sworn_first = rules moments (fit line) sworn_first sworn_order

-- The sets of one base relation, as bits: code 1 is < and code 2 is >.
abbrev pub before : ℕ
before = 2 ^ 1

abbrev pub after : ℕ
after = 2 ^ 2

-- The household: 1 < 2 with weight 3 by person 1, 2 < 3 with weight 2 by person 1, and 1 > 3 with weight 4 by person 2.
-- Rows count items from 0.
abbrev pub household : List Row
household =
    record { low = 0; high = 1; set = before; weight = 3; person = 1; sworn = false; struck = false }
    ∷ record { low = 1; high = 2; set = before; weight = 2; person = 1; sworn = false; struck = false }
    ∷ record { low = 0; high = 2; set = after; weight = 4; person = 2; sworn = false; struck = false }
    ∷ []

-- The lone moment: nothing is said of it.
abbrev pub lone : List Row
lone = []

-- The sworn pair: 1 < 2 with weight 900 by person 1, and 1 > 2 with weight 1 by person 2, sworn.
abbrev pub sworn_pair : List Row
sworn_pair =
    record { low = 0; high = 1; set = before; weight = 900; person = 1; sworn = false; struck = false }
    ∷ record { low = 0; high = 1; set = after; weight = 1; person = 2; sworn = true; struck = false }
    ∷ []

-- The values of the items there, from the first on.
abbrev pub values : ℕ → Position → List ℕ
values n s = map (λ i. (moment n s.incumbent i).at) (range_with_len 0 n)

-- The charge of a person there.
abbrev pub charged : {C : Type 0} → Rules C → List Row → Position → ℕ → C
charged r rows s person = charge r.joining rows (entry s.incumbent) person

-- The search of a sheet is finished after exactly k steps.
pub record FinishedAfter {C : Type 0} (r : Rules C) (n : ℕ) (rows : List Row) (k : ℕ) : Type 0 where
  -- asked for fewer steps, it is not finished
  pub unfinished : (asked : ℕ) → asked < k → finished r n (searched r n rows asked) ≡ false
  -- asked for k, it is
  pub ended : finished r n (searched r n rows k) ≡ true
  -- and asked for k or more, it takes k
  pub exactly : (asked : ℕ) → k ≤ asked → taken r n rows asked (opening n) ≡ k

-- The search of a sheet is finished after exactly k steps, with this cost and these values of the items.
pub record Solved {C : Type 0} (r : Rules C) (n : ℕ) (rows : List Row) (k : ℕ) (cost : C) (found : List ℕ) : Type 0 where
  pub steps : FinishedAfter r n rows k
  pub costs : best_cost r rows (searched r n rows k) ≡ cost
  pub gives : values n (searched r n rows k) ≡ found
