-- Costs by statements, by pairs and by persons: the parts join to the whole.
use Rattle.std.proofs.Common.{◌≡◌, ℕ, ◌+◌, ◌-◌, ◌<◌, ◌≤◌, Bool, ◌&&◌, eqb, List, [], ◌∷◌, length, get_or, filter, sym, refl, ap, ◌∙◌, inl, inr, arith}
use Rattle.std.specs.List.{AllByRecursion as Every}
use Rattle.rules.proofs.Elements.{all_kept_by, All-weaker}
use Rattle.std.proofs.lemmas.Bool.{cases_Bool, eqb-true}
use Rattle.std.proofs.Math.Bool.{and-true, and-false}
use Rattle.points.specs.Scenarios.{pairs}
use Rattle.points.proofs.Placed.{place_within}
use Rattle.tallies.specs.Joins.{Joining, Monoid, joined, most_penalties}
use Rattle.tallies.specs.Groups.{group, span, Keys}
use Rattle.tallies.specs.declared.claim.Claim.{Claim}
use Rattle.tallies.proofs.Along.{monoid_along}
use Rattle.tallies.proofs.Groups.{span_same, regroup}
use Rattle.rules.specs.declared.row.Row.{Row}
use Rattle.rules.specs.Rows.{claim_of, counts, counting, breaks, broken, spot, Proper}
use Rattle.rules.specs.Costs.{of_rows, cost, pair_cost}
use Rattle.rules.specs.Soundness.{PairsJoin, ChargesJoin}
use Rattle.rules.proofs.Filters.{length_kept_by_le, kept_by_twice}
use Rattle.rules.proofs.Groups.{span_split, span_push}

-- No more rows count than there are.
pub counting_few : (rows : List Row) → length (counting rows) ≤ length rows
counting_few rows = length_kept_by_le counts rows

-- What holds of all rows holds of those that count.
pub counting_all : (P : Row → Type 0) (rows : List Row) → Every P rows → Every P (counting rows)
counting_all P rows h = all_kept_by counts P rows h

-- The rows that are broken where the pair at the place s has the code o s.
abbrev pub broken_at : (ℕ → ℕ) → List Row → List Row
broken_at o xs = filter (λ (r : Row). breaks r (o (spot r))) xs

-- Those of one pair that its code breaks are the group of that pair among all that are broken.
pub pair_broken : (o : ℕ → ℕ) (s : ℕ) (xs : List Row) → filter (λ (r : Row). breaks r (o s)) (group spot s xs) ≡ group spot s (broken_at o xs)
pair_broken o s xs =
    let both : Row → Bool = λ r. eqb (spot r) s && breaks r (o s) in
    kept_by_twice (λ (r : Row). breaks r (o s)) (λ (r : Row). eqb (spot r) s) both (λ r. refl) xs
    ∙ sym (kept_by_twice (λ (r : Row). eqb (spot r) s) (λ (r : Row). breaks r (o (spot r))) both same xs)
  where
    same : (r : Row) → (eqb (spot r) s && breaks r (o s)) ≡ (breaks r (o (spot r)) && eqb (spot r) s)
    same r = elim (cases_Bool (eqb (spot r) s)) [
      | inl e ↦ (let at : spot r ≡ s = eqb-true (spot r) s e in
          ap (λ (v : Bool). v && breaks r (o s)) e ∙ ap (λ (z : ℕ). breaks r (o z)) (sym at)
          ∙ sym (and-true (breaks r (o (spot r)))) ∙ ap (λ (v : Bool). breaks r (o (spot r)) && v) (sym e))
      | inr e ↦ ap (λ (v : Bool). v && breaks r (o s)) e ∙ sym (and-false (breaks r (o (spot r)))) ∙ ap (λ (v : Bool). breaks r (o (spot r)) && v) (sym e)
    ]

module _ (n : ℕ) (rows : List Row) (proper : Proper n rows) where
  -- At most as many rows count as the laws of a tally are owed for.
  pub few_counting : length (counting rows) ≤ most_penalties
  few_counting = omega (arith, counting_few rows, proper.few)

  -- At most as many pass a test.
  pub few_kept : (f : Row → Bool) → length (filter f (counting rows)) ≤ most_penalties
  few_kept f = omega (arith, few_counting, length_kept_by_le f (counting rows))

  -- Each row that counts is on one of the pairs.
  pub keys_spot : Keys spot 0 (pairs n) (counting rows)
  keys_spot =
      counting_all (λ (r : Row). (0 ≤ spot r) × (spot r < 0 + pairs n)) rows
      (All-weaker (λ (r : Row). (r.low < r.high) × (r.high < n)) (λ (r : Row). (0 ≤ spot r) × (spot r < 0 + pairs n))
      (λ r h. (omega arith, omega (arith, place_within r.low r.high n h.0 h.1))) rows proper.items)

  -- Each row that counts is by a person from 1 to 20.
  pub keys_person : Keys (λ (r : Row). r.person) 1 20 (counting rows)
  keys_person =
      counting_all (λ (r : Row). (1 ≤ r.person) × (r.person < 1 + 20)) rows
      (All-weaker (λ (r : Row). (1 ≤ r.person) × (r.person ≤ 20)) (λ (r : Row). (1 ≤ r.person) × (r.person < 1 + 20))
      (λ r h. (h.0, omega (arith, h.1))) rows proper.persons)

module _ {C : Type 0} (j : Joining Claim C) (m : Monoid j) (n : ℕ) (rows : List Row) (proper : Proper n rows) (o : ℕ → ℕ) where
  -- A span of pair costs is one of groups of the broken rows.
  pub span_pairs : (k l : ℕ) → span (of_rows j) (λ s. pair_cost j rows s (o s)) k l
      ≡ span (of_rows j) (λ s. joined (of_rows j) (group spot s (broken_at o (counting rows)))) k l
  span_pairs k l =
      span_same (of_rows j) (λ s. pair_cost j rows s (o s)) (λ s. joined (of_rows j) (group spot s (broken_at o (counting rows)))) k l
      (λ s lo hi. ap (joined (of_rows j)) (pair_broken o s (counting rows)))

  -- The costs of all pairs join to the cost of what is broken.
  pub pairs_whole : span (of_rows j) (λ s. pair_cost j rows s (o s)) 0 (pairs n) ≡ joined (of_rows j) (broken_at o (counting rows))
  pairs_whole =
      span_pairs 0 (pairs n)
      ∙ regroup (of_rows j) (monoid_along claim_of j m) spot 0 (pairs n) (broken_at o (counting rows))
      (few_kept n rows proper (λ (r : Row). breaks r (o (spot r))))
      (all_kept_by (λ (r : Row). breaks r (o (spot r))) (λ (r : Row). (0 ≤ spot r) × (spot r < 0 + pairs n)) (counting rows) (keys_spot n rows proper))

  -- The costs of the first p pairs are those of the first q joined with those of the rest.
  pub pairs_split : (q p : ℕ) → q ≤ p → span (of_rows j) (λ s. pair_cost j rows s (o s)) 0 p
      ≡ j.join (span (of_rows j) (λ s. pair_cost j rows s (o s)) 0 q) (span (of_rows j) (λ s. pair_cost j rows s (o s)) q (p - q))
  pairs_split q p h =
      simp span_pairs
      (span_split (of_rows j) (monoid_along claim_of j m) spot (broken_at o (counting rows)) (few_kept n rows proper (λ (r : Row). breaks r (o (spot r)))) q p h)

  -- One more pair at the end.
  pub pairs_push : (q : ℕ) → span (of_rows j) (λ s. pair_cost j rows s (o s)) 0 (q + 1)
      ≡ j.join (span (of_rows j) (λ s. pair_cost j rows s (o s)) 0 q) (pair_cost j rows q (o q))
  pairs_push q =
      span_pairs 0 (q + 1)
      ∙ span_push (of_rows j) (monoid_along claim_of j m) spot (broken_at o (counting rows)) (few_kept n rows proper (λ (r : Row). breaks r (o (spot r)))) q
      ∙ ap (λ (z : C). j.join z (joined (of_rows j) (group spot q (broken_at o (counting rows))))) (sym (span_pairs 0 q))
      ∙ ap (λ (z : List Row). j.join (span (of_rows j) (λ s. pair_cost j rows s (o s)) 0 q) (joined (of_rows j) z)) (sym (pair_broken o q (counting rows)))

module _ {C : Type 0} (j : Joining Claim C) (m : Monoid j) where
  -- The costs of the pairs join to the cost of a scenario.
  pub pairs_join : PairsJoin j
  pairs_join n rows a proper = pairs_whole j m n rows proper (λ s. get_or a s 0)

  -- The charges of the persons join to the cost.
  pub charges_join : ChargesJoin j
  charges_join n rows f proper =
      let test : Row → Bool = λ r. breaks r (f r.low r.high) in
      regroup (of_rows j) (monoid_along claim_of j m) (λ (r : Row). r.person) 1 20 (broken f rows) (few_kept n rows proper test)
      (all_kept_by test (λ (r : Row). (1 ≤ r.person) × (r.person < 1 + 20)) (counting rows) (keys_person n rows proper))

-- Which rows are broken depends on the codes of the pairs of items alone.
broken_depends : (n : ℕ) (f g : ℕ → ℕ → ℕ) → ((i k : ℕ) → i < k → k < n → f i k ≡ g i k) → (xs : List Row) → Every (λ (r : Row). (r.low < r.high) × (r.high < n)) xs
    → filter (λ (r : Row). breaks r (f r.low r.high)) xs ≡ filter (λ (r : Row). breaks r (g r.low r.high)) xs
broken_depends n f g same [] h = refl
broken_depends n f g same (r ∷ rs) h =
    let rest = broken_depends n f g same rs h.1 in
    let here = same r.low r.high h.0.0 h.0.1 in
    simp (here, rest)

-- So does the cost.
pub cost_depends : {C : Type 0} (j : Joining Claim C) (n : ℕ) (rows : List Row) → Proper n rows → (f g : ℕ → ℕ → ℕ)
    → ((i k : ℕ) → i < k → k < n → f i k ≡ g i k) → cost j rows f ≡ cost j rows g
cost_depends j n rows proper f g same =
    ap (joined (of_rows j)) (broken_depends n f g same (counting rows) (counting_all (λ (r : Row). (r.low < r.high) × (r.high < n)) rows proper.items))
