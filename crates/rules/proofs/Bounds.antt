-- Lower bounds: the bound of a prefix is the cost of some codes that begin with it, and at most the cost of all that do.
use Rattle.std.proofs.Common.{◌≡◌, ℕ, zero, suc, ◌+◌, ◌-◌, ◌<◌, ◌≤◌, Bool, true, false, cond, eqb, ltb, List, length, get_or, take, filter, sym, refl, ap, ◌∙◌, subst, inl, inr, eq-or-lt_of_le, arith}
use Rattle.std.proofs.lemmas.List.Elements.{All-from_recursion}
use Rattle.std.proofs.lemmas.Bool.{cond_both, lt-ltb, le-ltb, ltb-true}
use Rattle.points.specs.Scenarios.{pairs, entry}
use Rattle.tallies.specs.Joins.{Joining, Monoid, Ranking, joined, most_penalties}
use Rattle.tallies.specs.Groups.{group, span}
use Rattle.tallies.specs.declared.claim.Claim.{Claim}
use Rattle.tallies.proofs.Along.{monoid_along, ranking_along}
use Rattle.tallies.proofs.Groups.{span_same}
use Rattle.tallies.proofs.Joins.{identity_right}
use Rattle.tallies.proofs.Orders.{reflexive}
use Rattle.rules.specs.declared.row.Row.{Row}
use Rattle.rules.specs.Rows.{claim_of, counting, breaks, broken, spot, Proper}
use Rattle.rules.specs.Costs.{of_rows, cost, pair_cost, least, pair_bound, sheet_bound, prefix_bound}
use Rattle.rules.specs.Orders.{Below}
use Rattle.rules.proofs.Filters.{length_kept_by_le}
use Rattle.rules.proofs.Groups.{groups_below}
use Rattle.rules.proofs.Orders.{shared_code}
use Rattle.rules.proofs.Costs.{counting_few, few_counting, few_kept, keys_spot, broken_at, pair_broken, pairs_whole, pairs_split, pairs_push}

module _ {C : Type 0} (at_most : C → C → Bool) where
  -- The least of g 0, .., g m is one of them.
  pub least_attained : (g : ℕ → C) (m : ℕ) → (c : ℕ) × (c ≤ m) × (least at_most g m ≡ g c)
  least_attained g zero = (0, omega arith, refl)
  least_attained g (suc m) =
      let r = least_attained g m in
      let l = r.1 in
      cond_both (at_most (g (suc m)) (least at_most g m)) (g (suc m)) (least at_most g m) (λ z. (c : ℕ) × (c ≤ suc m) × (z ≡ g c))
      (λ e. (suc m, omega arith, refl)) (λ e. (r.0, omega arith, r.2))

module _ {P C : Type 0} (j : Joining P C) (m : Monoid j) (at_most : C → C → Bool) (r : Ranking j at_most) (g : ℕ → List P) (few : (c : ℕ) → length (g c) ≤ most_penalties) where
  -- It is at most each of them.
  pub least_below : (k c : ℕ) → c ≤ k → at_most (least at_most (λ i. joined j (g i)) k) (joined j (g c)) ≡ true
  least_below zero c h = let e : c ≡ zero = omega arith in rw e (reflexive j m at_most r (g zero) (few zero))
  least_below (suc k) c h =
      let G : ℕ → C = λ i. joined j (g i) in
      let low : C = least at_most G k in
      let found = least_attained at_most G k in
      let d : ℕ = found.0 in
      let is : low ≡ joined j (g d) = found.2 in
      let earlier : c < suc k → at_most low (G c) ≡ true = λ l. least_below k c (omega arith) in
      cond_both (at_most (G (suc k)) low) (G (suc k)) low (λ z. at_most z (G c) ≡ true)
      (λ e. elim (eq-or-lt_of_le h) [
        | inl s ↦ subst (λ (i : ℕ). at_most (G (suc k)) (G i) ≡ true) (sym s) (reflexive j m at_most r (g (suc k)) (few (suc k)))
        | inr l ↦ r.transitive (g (suc k)) (g d) (g c) (few (suc k)) (few d) (few c)
            (rw is at e) (rw is at earlier l)
      ])
      (λ e. elim (eq-or-lt_of_le h) [
        | inl s ↦ subst (λ (i : ℕ). at_most low (G i) ≡ true) (sym s)
            (subst (λ (z : C). at_most z (G (suc k)) ≡ true) (sym is)
            (r.total (g (suc k)) (g d) (few (suc k)) (few d) (subst (λ (z : C). at_most (G (suc k)) z ≡ false) is e)))
        | inr l ↦ earlier l
      ])

-- A code under which the pair at a place costs least.
abbrev pub cheapest : {C : Type 0} → Joining Claim C → (C → C → Bool) → ℕ → List Row → ℕ → ℕ
cheapest j at_most b rows s = (least_attained at_most (pair_cost j rows s) (b - 1)).0

-- The bound of a pair is its cost under that code.
pub pair_bound_is : {C : Type 0} (j : Joining Claim C) (at_most : C → C → Bool) (b : ℕ) (rows : List Row) (s : ℕ)
    → pair_bound j at_most b rows s ≡ pair_cost j rows s (cheapest j at_most b rows s)
pair_bound_is j at_most b rows s = (least_attained at_most (pair_cost j rows s) (b - 1)).2

-- The first q codes of a scenario, and then the cheapest code of each pair.
abbrev pub completed : {C : Type 0} → Joining Claim C → (C → C → Bool) → ℕ → List Row → ℕ → List ℕ → ℕ → ℕ
completed j at_most b rows q a s = cond (ltb s q) (get_or a s 0) (cheapest j at_most b rows s)

module _ {C : Type 0} (j : Joining Claim C) (m : Monoid j) (at_most : C → C → Bool) (n : ℕ) (rows : List Row) (proper : Proper n rows) (b : ℕ) where
  -- The bounds of the first q pairs, and one more.
  pub bounds_push : (q : ℕ) → span (of_rows j) (pair_bound j at_most b rows) 0 (q + 1)
      ≡ j.join (span (of_rows j) (pair_bound j at_most b rows) 0 q) (pair_bound j at_most b rows q)
  bounds_push q =
      let o : ℕ → ℕ = cheapest j at_most b rows in
      let same : (p : ℕ) → span (of_rows j) (pair_bound j at_most b rows) 0 p ≡ span (of_rows j) (λ s. pair_cost j rows s (o s)) 0 p =
      λ p. span_same (of_rows j) (pair_bound j at_most b rows) (λ s. pair_cost j rows s (o s)) 0 p (λ s lo hi. pair_bound_is j at_most b rows s) in
      rw (same (q + 1), same q, pair_bound_is j at_most b rows q) (pairs_push j m n rows proper o q)

  module _ (q : ℕ) (a : List ℕ) where
    -- The bound of a prefix is the cost of its completion by the cheapest codes.
    pub prefix_bound_is : q ≤ pairs n
        → prefix_bound j at_most b (pairs n) rows q a ≡ joined (of_rows j) (broken_at (completed j at_most b rows q a) (counting rows))
    prefix_bound_is h =
        let o : ℕ → ℕ = completed j at_most b rows q a in
        let near : span (of_rows j) (λ s. pair_cost j rows s (get_or a s 0)) 0 q ≡ span (of_rows j) (λ s. pair_cost j rows s (o s)) 0 q =
        span_same (of_rows j) (λ s. pair_cost j rows s (get_or a s 0)) (λ s. pair_cost j rows s (o s)) 0 q
        (λ s lo hi. rw (lt-ltb s q (omega arith)) refl) in
        let far : span (of_rows j) (pair_bound j at_most b rows) q (pairs n - q) ≡ span (of_rows j) (λ s. pair_cost j rows s (o s)) q (pairs n - q) =
        span_same (of_rows j) (pair_bound j at_most b rows) (λ s. pair_cost j rows s (o s)) q (pairs n - q)
        (λ s lo hi. rw (le-ltb s q lo) (pair_bound_is j at_most b rows s)) in
        ap (λ (z : C). j.join z (span (of_rows j) (pair_bound j at_most b rows) q (pairs n - q))) near
        ∙ ap (j.join (span (of_rows j) (λ s. pair_cost j rows s (o s)) 0 q)) far
        ∙ sym (pairs_split j m n rows proper o q (pairs n) h)
        ∙ pairs_whole j m n rows proper o

    -- It is the join of at most as many penalties as there are rows.
    pub prefix_bound_joined : q ≤ pairs n
        → (ps : List Row) × (length ps ≤ length rows) × (prefix_bound j at_most b (pairs n) rows q a ≡ joined (of_rows j) ps)
    prefix_bound_joined h =
        let test : Row → Bool = λ r. breaks r (completed j at_most b rows q a (spot r)) in
        (filter test (counting rows), omega (arith, counting_few rows, length_kept_by_le test (counting rows)), prefix_bound_is h)

  -- The bound of the empty prefix is that of the sheet.
  pub prefix_bound_none : (a : List ℕ) → prefix_bound j at_most b (pairs n) rows 0 a ≡ sheet_bound j at_most b n rows
  prefix_bound_none a =
      let o : ℕ → ℕ = cheapest j at_most b rows in
      let zero_off : pairs n - 0 ≡ pairs n = omega arith in
      let whole : span (of_rows j) (pair_bound j at_most b rows) 0 (pairs n) ≡ joined (of_rows j) (broken_at o (counting rows)) =
      span_same (of_rows j) (pair_bound j at_most b rows) (λ s. pair_cost j rows s (o s)) 0 (pairs n) (λ s lo hi. pair_bound_is j at_most b rows s)
      ∙ pairs_whole j m n rows proper o in
      ap (λ (p : ℕ). j.join j.empty (span (of_rows j) (pair_bound j at_most b rows) 0 p)) zero_off
      ∙ ap (j.join j.empty) whole
      ∙ (monoid_along claim_of j m).identity (broken_at o (counting rows)) (few_kept n rows proper (λ (r : Row). breaks r (o (spot r))))
      ∙ sym whole

  -- The bound of a whole scenario is its cost.
  pub prefix_bound_whole : (a : List ℕ) → prefix_bound j at_most b (pairs n) rows (pairs n) a ≡ cost j rows (entry a)
  prefix_bound_whole a =
      let none : pairs n - pairs n ≡ 0 = omega arith in
      let costs : C = span (of_rows j) (λ s. pair_cost j rows s (get_or a s 0)) 0 (pairs n) in
      ap (λ (p : ℕ). j.join costs (span (of_rows j) (pair_bound j at_most b rows) (pairs n) p)) none
      ∙ ap (λ (z : C). j.join z j.empty) (pairs_whole j m n rows proper (λ s. get_or a s 0))
      ∙ identity_right (of_rows j) (monoid_along claim_of j m) (broken (entry a) rows) (few_kept n rows proper (λ (r : Row). breaks r (entry a r.low r.high)))

  module _ (ranking : Ranking j at_most) where
    few_pair : (s c : ℕ) → length (filter (λ (r : Row). breaks r c) (group spot s (counting rows))) ≤ most_penalties
    few_pair s c =
        omega (
          arith,
          few_counting n rows proper,
          length_kept_by_le (λ (r : Row). breaks r c) (group spot s (counting rows)),
          length_kept_by_le (λ (r : Row). eqb (spot r) s) (counting rows),
        )

    -- The bound of a pair is at most its cost under each code.
    pub pair_bound_below : (s c : ℕ) → c < b → at_most (pair_bound j at_most b rows s) (pair_cost j rows s c) ≡ true
    pair_bound_below s c h =
        least_below (of_rows j) (monoid_along claim_of j m) at_most (ranking_along claim_of j at_most ranking)
        (λ i. filter (λ (r : Row). breaks r i) (group spot s (counting rows))) (few_pair s) (b - 1) c (omega arith)

    -- The completion costs at each pair at most as much as a scenario that shares the prefix.
    completed_below : (q : ℕ) (a e : List ℕ) → take q e ≡ take q a → (s : ℕ) → get_or e s 0 < b
        → at_most (pair_cost j rows s (completed j at_most b rows q a s)) (pair_cost j rows s (get_or e s 0)) ≡ true
    completed_below q a e shared s low =
        cond_both (ltb s q) (get_or a s 0) (cheapest j at_most b rows s) (λ c. at_most (pair_cost j rows s c) (pair_cost j rows s (get_or e s 0)) ≡ true)
        (λ l. subst (λ (c : ℕ). at_most (pair_cost j rows s c) (pair_cost j rows s (get_or e s 0)) ≡ true) (shared_code q e a shared s (ltb-true s q l))
        (reflexive (of_rows j) (monoid_along claim_of j m) at_most (ranking_along claim_of j at_most ranking)
        (filter (λ (r : Row). breaks r (get_or e s 0)) (group spot s (counting rows))) (few_pair s (get_or e s 0))))
        (λ l. subst (λ (z : C). at_most z (pair_cost j rows s (get_or e s 0)) ≡ true) (pair_bound_is j at_most b rows s) (pair_bound_below s (get_or e s 0) low))

    -- The bound of a prefix is at most the cost of every scenario that shares it.
    pub prefix_bound_below : (q : ℕ) (a e : List ℕ) → q ≤ pairs n → take q e ≡ take q a → length e ≡ pairs n → Below b e
        → at_most (prefix_bound j at_most b (pairs n) rows q a) (cost j rows (entry e)) ≡ true
    prefix_bound_below q a e h shared long low =
        let o : ℕ → ℕ = completed j at_most b rows q a in
        let w : ℕ → ℕ = λ s. get_or e s 0 in
        let xs : List Row = counting rows in
        rw (prefix_bound_is q a h)
        (groups_below (of_rows j) (monoid_along claim_of j m) at_most (ranking_along claim_of j at_most ranking) spot
        (λ (r : Row). breaks r (o (spot r))) (λ (r : Row). breaks r (w (spot r))) 0 (pairs n) xs (few_counting n rows proper) (keys_spot n rows proper)
        (λ s lo hi.
        let code : get_or e s 0 < b = All-from_recursion (λ c. c < b) e low s 0 (omega arith) in
        subst (λ (z : List Row). at_most (joined (of_rows j) z) (joined (of_rows j) (group spot s (broken_at w xs))) ≡ true) (pair_broken o s xs)
        (subst (λ (z : List Row). at_most (pair_cost j rows s (o s)) (joined (of_rows j) z) ≡ true) (pair_broken w s xs)
        (completed_below q a e shared s code))))

    -- The bound of the sheet is at most the cost of every scenario.
    pub sheet_bound_below : (e : List ℕ) → length e ≡ pairs n → Below b e → at_most (sheet_bound j at_most b n rows) (cost j rows (entry e)) ≡ true
    sheet_bound_below e long low =
        subst (λ (z : C). at_most z (cost j rows (entry e)) ≡ true) (prefix_bound_none e) (prefix_bound_below 0 e e (omega arith) refl long low)
