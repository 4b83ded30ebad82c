-- What a scenario costs, by statements, by pairs and by persons, and the lower bounds of pairs.
use Rattle.std.specs.Prelude.{ℕ, zero, suc, ◌-◌, Bool, cond, List, filter, slice_index}
use Rattle.points.specs.Scenarios.{pairs}
use Rattle.tallies.specs.Joins.{Joining, joined, along}
use Rattle.tallies.specs.Groups.{group, span}
use Rattle.tallies.specs.declared.claim.Claim.{Claim}
use Rattle.rules.specs.declared.row.Row.{Row}
use Rattle.rules.specs.Rows.{claim_of, counting, breaks, broken, spot}

-- joining over rows
abbrev pub of_rows : {C : Type 0} → Joining Claim C → Joining Row C
of_rows j = along claim_of j

-- The cost where the pairs have the codes f: the join of the penalties of exactly the counting statements that are broken.
abbrev pub cost : {C : Type 0} → Joining Claim C → List Row → (ℕ → ℕ → ℕ) → C
cost j rows f = joined (of_rows j) (broken f rows)

-- The charge of a person: the same of that person's statements.
abbrev pub charge : {C : Type 0} → Joining Claim C → List Row → (ℕ → ℕ → ℕ) → ℕ → C
charge j rows f p = joined (of_rows j) (group (λ (r : Row). r.person) p (broken f rows))

-- The cost of one pair, by its place, under a code.
abbrev pub pair_cost : {C : Type 0} → Joining Claim C → List Row → ℕ → ℕ → C
pair_cost j rows s c = joined (of_rows j) (filter (λ (r : Row). breaks r c) (group spot s (counting rows)))

-- The least of g 0, .., g m.
abbrev pub least : {C : Type 0} → (C → C → Bool) → (ℕ → C) → ℕ → C
least at_most g zero = g zero
least at_most g (suc m) = cond (at_most (g (suc m)) (least at_most g m)) (g (suc m)) (least at_most g m)

-- The lower bound of a pair: its least cost over all codes, of which there are b.
abbrev pub pair_bound : {C : Type 0} → Joining Claim C → (C → C → Bool) → ℕ → List Row → ℕ → C
pair_bound j at_most b rows s = least at_most (pair_cost j rows s) (b - 1)

-- The lower bound of a sheet of n items: the join of those of its pairs.
abbrev pub sheet_bound : {C : Type 0} → Joining Claim C → (C → C → Bool) → ℕ → ℕ → List Row → C
sheet_bound j at_most b n rows = span (of_rows j) (pair_bound j at_most b rows) 0 (pairs n)

-- The cost of the first q pairs of a scenario.
abbrev pub spent_on : {C : Type 0} → Joining Claim C → List Row → List ℕ → ℕ → C
spent_on j rows scenario q = span (of_rows j) (λ s. pair_cost j rows s (slice_index scenario s)) 0 q

-- The join of the lower bounds of the pairs from the q-th on, of p pairs.
abbrev pub owed_from : {C : Type 0} → Joining Claim C → (C → C → Bool) → ℕ → List Row → ℕ → ℕ → C
owed_from j at_most b rows p q = span (of_rows j) (pair_bound j at_most b rows) q (p - q)

-- The lower bound of all scenarios of p pairs that share the first q codes of one: the cost of those pairs joined with the lower bounds
-- of the remaining ones.
abbrev pub prefix_bound : {C : Type 0} → Joining Claim C → (C → C → Bool) → ℕ → ℕ → List Row → ℕ → List ℕ → C
prefix_bound j at_most b p rows q scenario = j.join (spent_on j rows scenario q) (owed_from j at_most b rows p q)
