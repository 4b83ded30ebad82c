-- The lower bound of a pair is the least of its costs, and that of a sheet lies at or below the cost of each assignment.
use Rattle.std.proofs.Common.{◌≡◌, ℕ, ◌-◌, ◌≤◌, Bool, true, subst, arith}
use Rattle.kinds.specs.Meaning.{Meaning, Laws}
use Rattle.tallies.specs.Joins.{Joining, Monoid, Ranking}
use Rattle.tallies.specs.declared.claim.Claim.{Claim}
use Rattle.rules.specs.Costs.{sheet_bound, pair_cost}
use Rattle.rules.specs.Steps.{Rules}
use Rattle.rules.specs.Soundness.{codes_of, scenario_by, BoundBelow, BoundLeast, rules}
use Rattle.rules.proofs.Scenarios.{length_scenario_of}
use Rattle.rules.proofs.Bounds.{least_attained, pair_bound_below, sheet_bound_below}
use Rattle.rules.proofs.Assignments.{below_scenario_by, cost_scenario_by}

pub bound_below : {V C : Type 0} (m : Meaning V) → Laws m → (fit : ℕ → ℕ → ℕ → Bool) (j : Joining Claim C) → Monoid j → (at_most : C → C → Bool) → Ranking j at_most
    → BoundBelow m (rules m fit j at_most)
bound_below {C = C} m laws fit j monoid at_most ranking n rows proper y law =
    subst (λ (z : C). at_most (sheet_bound j at_most m.codes n rows) z ≡ true) (cost_scenario_by m j n rows proper y)
    (sheet_bound_below j monoid at_most n rows proper m.codes ranking (scenario_by m n y) (length_scenario_of (codes_of m y) n) (below_scenario_by m laws n y law))

pub bound_least : {C : Type 0} (r : Rules C) → Monoid r.joining → Ranking r.joining r.at_most → 1 ≤ r.codes → BoundLeast r
bound_least r monoid ranking some n rows proper s =
    let found = least_attained r.at_most (pair_cost r.joining rows s) (r.codes - 1) in (
      (found.0, omega (arith, found.1, some), found.2),
      pair_bound_below r.joining monoid r.at_most n rows proper r.codes ranking s,
    )
