-- The costs of one sheet are compared by a total order, also with the bounds of prefixes.
use Rattle.std.proofs.Common.{◌≡◌, ℕ, ◌≤◌, Bool, true, false, List, length, take, subst, arith}
use Rattle.points.specs.Scenarios.{pairs, entry}
use Rattle.tallies.specs.Joins.{Joining, Monoid, Ranking, most_penalties}
use Rattle.tallies.specs.declared.claim.Claim.{Claim}
use Rattle.tallies.proofs.Along.{monoid_along, ranking_along}
use Rattle.tallies.proofs.Orders.{reflexive}
use Rattle.rules.specs.declared.row.Row.{Row}
use Rattle.rules.specs.Rows.{claim_of, breaks, broken, Proper}
use Rattle.rules.specs.Costs.{of_rows, cost, prefix_bound}
use Rattle.rules.specs.Orders.{Below}
use Rattle.rules.proofs.Costs.{few_kept}
use Rattle.rules.proofs.Bounds.{prefix_bound_joined, prefix_bound_below}

module _ {C : Type 0} (j : Joining Claim C) (monoid : Monoid j) (at_most : C → C → Bool) (ranking : Ranking j at_most)
    (n : ℕ) (rows : List Row) (proper : Proper n rows) where
  -- At most as many rows are broken as the laws of a tally are owed for.
  few_broken : (f : ℕ → ℕ → ℕ) → length (broken f rows) ≤ most_penalties
  few_broken f = few_kept n rows proper (λ (r : Row). breaks r (f r.low r.high))

  -- Each cost is at most itself; of two costs one is at most the other; and the order is transitive.
  pub cost_reflexive : (f : ℕ → ℕ → ℕ) → at_most (cost j rows f) (cost j rows f) ≡ true
  cost_reflexive f = reflexive (of_rows j) (monoid_along claim_of j monoid) at_most (ranking_along claim_of j at_most ranking) (broken f rows) (few_broken f)

  pub cost_total : (f g : ℕ → ℕ → ℕ) → at_most (cost j rows f) (cost j rows g) ≡ false → at_most (cost j rows g) (cost j rows f) ≡ true
  cost_total f g = (ranking_along claim_of j at_most ranking).total (broken f rows) (broken g rows) (few_broken f) (few_broken g)

  pub cost_transitive : (f g h : ℕ → ℕ → ℕ) → at_most (cost j rows f) (cost j rows g) ≡ true → at_most (cost j rows g) (cost j rows h) ≡ true
      → at_most (cost j rows f) (cost j rows h) ≡ true
  cost_transitive f g h =
      (ranking_along claim_of j at_most ranking).transitive (broken f rows) (broken g rows) (broken h rows) (few_broken f) (few_broken g) (few_broken h)

  -- What is at most the bound of a prefix is at most the cost of every scenario that shares it.
  pub bound_transitive : (b : ℕ) (f : ℕ → ℕ → ℕ) (q : ℕ) (a e : List ℕ) → q ≤ pairs n → take q e ≡ take q a → length e ≡ pairs n → Below b e
      → at_most (cost j rows f) (prefix_bound j at_most b (pairs n) rows q a) ≡ true → at_most (cost j rows f) (cost j rows (entry e)) ≡ true
  bound_transitive b f q a e qp shared long low over =
      let bound = prefix_bound_joined j monoid at_most n rows proper b q a qp in
      let ps : List Row = bound.0 in
      let few : length ps ≤ most_penalties = omega (arith, bound.1, proper.few) in
      (ranking_along claim_of j at_most ranking).transitive (broken f rows) ps (broken (entry e) rows) (few_broken f) few (few_broken (entry e))
      (subst (λ (z : C). at_most (cost j rows f) z ≡ true) bound.2 over)
      (subst (λ (z : C). at_most z (cost j rows (entry e)) ≡ true) bound.2
      (prefix_bound_below j monoid at_most n rows proper b ranking q a e qp shared long low))
