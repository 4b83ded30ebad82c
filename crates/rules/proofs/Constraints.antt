-- Rows that state a network cost as many as the constraints that are left unsatisfied, so a finished search solves MAX-QCN.
use Rattle.std.proofs.Common.{◌≡◌, ℕ, zero, suc, ◌+◌, ◌<◌, ◌≤◌, Bool, not, cond, List, [], ◌∷◌, length, get_or, filter, count_by, sym, refl, ap, ◌∙◌, inl, inr, arith}
use Rattle.std.specs.List.{AllByRecursion as Every, list_all, range_with_len}
use Rattle.rules.proofs.Elements.{all_kept_by}
use Rattle.std.proofs.lemmas.Bool.{cases_Bool, leb-true}
use Rattle.std.proofs.lemmas.List.Sums.{sum_by-cons}
use Rattle.points.specs.Scenarios.{pairs, entry}
use Rattle.points.specs.Sets.{has}
use Rattle.kinds.specs.Meaning.{Meaning}
use Rattle.tallies.specs.Joins.{Joining, Monoid, joined, most_penalties}
use Rattle.tallies.specs.Groups.{group, span}
use Rattle.tallies.specs.Weights.{by_weight}
use Rattle.tallies.proofs.Groups.{span_same, regroup}
use Rattle.rules.specs.declared.row.Row.{Row}
use Rattle.rules.specs.Rows.{counting, breaks, spot}
use Rattle.rules.specs.Costs.{of_rows}
use Rattle.rules.specs.Soundness.{codes_of, scenario_by, cost_by}
use Rattle.rules.specs.Networks.{network, unsatisfied, StatesNetwork, CostsCount, MaxQcn}
use Rattle.rules.proofs.Costs.{broken_at, pair_broken, few_kept, keys_spot, cost_depends}
use Rattle.rules.proofs.Scenarios.{entry_scenario_of}

-- Rows counted one by one.
abbrev counted : Joining Row ℕ
counted = record { empty = 0; penalty = λ r. 1; join = λ a b. a + b }

monoid_counted : Monoid counted
monoid_counted = record {
  identity = λ xs h. omega arith;
  single = λ x. refl;
  assoc = λ xs ys zs h. omega arith;
  comm = λ xs ys h. omega arith;
}

joined_counted : (xs : List Row) → joined counted xs ≡ length xs
joined_counted [] = refl
joined_counted (x ∷ xs) = let h = joined_counted xs in omega arith

-- Up to 256 rows of weight 1 cost as many as they are.
weights_counted : (xs : List Row) → length xs ≤ most_penalties → Every (λ (r : Row). r.weight ≡ 1) xs → joined (of_rows by_weight) xs ≡ length xs
weights_counted [] few ones = refl
weights_counted (x ∷ xs) few ones =
    let rest = weights_counted xs (omega arith) ones.1 in
    let here = ones.0 in
    omega arith

-- Spans of ones and zeros count.
span_counted : (p : ℕ → Bool) (k n : ℕ) → span counted (λ s. cond (p s) 1 0) k n ≡ count_by p (range_with_len k n)
span_counted p k zero = refl
span_counted p k (suc n) =
    let rest = span_counted p (suc k) n in
    let step = sum_by-cons (λ s. cond (p s) 1 0) k (range_with_len (k + 1) n) in
    let next : k + 1 ≡ suc k = omega arith in
    ap (λ (z : ℕ). cond (p k) 1 0 + z) (rest ∙ ap (λ (z : ℕ). count_by p (range_with_len z n)) (sym next)) ∙ sym step

-- Of at most one row, as many are broken by a code as there are constraints that do not allow it.
one_broken : (c : ℕ) (xs : List Row) → length xs ≤ 1
    → length (filter (λ (r : Row). breaks r c) xs) ≡ cond (not (list_all (λ (r : Row). has r.set c) xs)) 1 0
one_broken c [] few = refl
one_broken c (x ∷ []) few = elim (cases_Bool (has x.set c)) [
  | inl e ↦ simp e
  | inr e ↦ simp e
]
one_broken c (x ∷ (y ∷ ys)) few = absurd (omega arith)

pub costs_count : CostsCount
costs_count n rows scenario stated =
    let o : ℕ → ℕ = λ s. get_or scenario s 0 in
    let test : Row → Bool = λ r. breaks r (o (spot r)) in
    let bs : List Row = broken_at o (counting rows) in
    let few : length bs ≤ most_penalties = few_kept n rows stated.proper test in
    weights_counted bs few (all_kept_by test (λ (r : Row). r.weight ≡ 1) (counting rows) stated.all_one)
    ∙ sym (joined_counted bs)
    ∙ sym (regroup counted monoid_counted spot 0 (pairs n) bs few
    (all_kept_by test (λ (r : Row). (0 ≤ spot r) × (spot r < 0 + pairs n)) (counting rows) (keys_spot n rows stated.proper)))
    ∙ span_same counted (λ s. joined counted (group spot s bs)) (λ s. cond (not (network rows s (o s))) 1 0) 0 (pairs n)
    (λ s lo hi. joined_counted (group spot s bs)
    ∙ ap length (sym (pair_broken o s (counting rows)))
    ∙ one_broken (o s) (group spot s (counting rows)) (omega (arith, stated.one_a_pair s)))
    ∙ span_counted (λ s. not (network rows s (o s))) 0 (pairs n)

-- What values cost is what their scenario leaves unsatisfied.
cost_counts : {V : Type 0} (m : Meaning V) (n : ℕ) (rows : List Row) → StatesNetwork n rows → (x : ℕ → V)
    → cost_by m by_weight rows x ≡ unsatisfied n (network rows) (scenario_by m n x)
cost_counts m n rows stated x =
    cost_depends by_weight n rows stated.proper (codes_of m x) (entry (scenario_by m n x))
    (λ i j ij jn. sym (entry_scenario_of (codes_of m x) n i j ij jn))
    ∙ costs_count n rows (scenario_by m n x) stated

pub max_qcn : {V : Type 0} (m : Meaning V) (fit : ℕ → ℕ → ℕ → Bool) → MaxQcn m fit
max_qcn {V = V} m fit n rows stated s x paid done shown ended =
    let counts : (y : ℕ → V) → cost_by m by_weight rows y ≡ unsatisfied n (network rows) (scenario_by m n y) = cost_counts m n rows stated in
    let same : paid ≡ unsatisfied n (network rows) (scenario_by m n x) = shown.exact ∙ counts x in (
      record {
        lawful = shown.lawful;
        fewest = λ y h.
            let least : paid ≤ cost_by m by_weight rows y = leb-true paid (cost_by m by_weight rows y) (shown.least ended y h) in
            let other = counts y in
            omega arith;
      },
      same,
    )
