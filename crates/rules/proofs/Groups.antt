-- Spans of the groups of a list: split at a key, extended by one key, and compared group by group.
use Rattle.std.proofs.Common.{◌≡◌, ℕ, zero, suc, ◌+◌, ◌-◌, ◌<◌, ◌≤◌, Bool, true, not, ◌&&◌, eqb, ltb, leb, List, [], ◌∷◌, ◌++◌, length, filter, sym, refl, ap, ◌∙◌, arith}
use Rattle.rules.proofs.Elements.{All-weaker, kept_by_passes}
use Rattle.std.proofs.lemmas.List.Filters.{length-filter_both}
use Rattle.std.proofs.lemmas.Bool.{and_parts, leb-true, ltb-true}
use Rattle.std.proofs.lemmas.Bool.Decides.{nat_tests}
use Rattle.tallies.specs.Joins.{Joining, Monoid, Ranking, joined, most_penalties}
use Rattle.tallies.specs.Groups.{group, span, Keys}
use Rattle.tallies.proofs.Joins.{append, part, identity_right}
use Rattle.tallies.proofs.Groups.{other, keys_other, group_other, span_same, regroup}
use Rattle.tallies.proofs.Orders.{Below, reflexive, append_below}
use Rattle.rules.proofs.Filters.{length_kept_by_le, kept_by_twice, kept_by_exchange}

module _ {P : Type 0} (key : P → ℕ) where
  -- Whether the key is at least k and below e.
  abbrev pub within : ℕ → ℕ → P → Bool
  within k e x = leb k (key x) && ltb (key x) e

  keys_within : (k n : ℕ) (xs : List P) → Keys key k n (filter (within k (k + n)) xs)
  keys_within k n xs =
      All-weaker (λ x. within k (k + n) x ≡ true) (λ x. (k ≤ key x) × (key x < k + n))
      (λ x e. let both = and_parts (leb k (key x)) (ltb (key x) (k + n)) e in
      (leb-true k (key x) both.0, ltb-true (key x) (k + n) both.1))
      (filter (within k (k + n)) xs) (kept_by_passes (within k (k + n)) xs)

  -- The group of a key in range is not changed by the filter of that range.
  group_within : (k e i : ℕ) (xs : List P) → k ≤ i → i < e → group key i (filter (within k e) xs) ≡ group key i xs
  group_within k e i xs lo hi = kept_by_twice (λ x. eqb (key x) i) (within k e) (λ x. eqb (key x) i) (λ x. in_range (key x)) xs
    where
      in_range : (z : ℕ) → eqb z i ≡ ((leb k z && ltb z e) && eqb z i)
      in_range z = grind (arith, nat_tests)

module _ {P C : Type 0} (j : Joining P C) (m : Monoid j) (key : P → ℕ) (xs : List P) (few : length xs ≤ most_penalties) where
  -- The span of the groups of some keys is the join of the members with these keys.
  pub span_groups : (k n : ℕ) → span j (λ i. joined j (group key i xs)) k n ≡ joined j (filter (within key k (k + n)) xs)
  span_groups k n =
      let ys : List P = filter (within key k (k + n)) xs in
      let short : length ys ≤ length xs = length_kept_by_le (within key k (k + n)) xs in
      span_same j (λ i. joined j (group key i xs)) (λ i. joined j (group key i ys)) k n
      (λ i lo hi. ap (joined j) (sym (group_within key k (k + n) i xs lo hi)))
      ∙ regroup j m key k n ys (omega arith) (keys_within key k n xs)

  -- The span of the first p groups is that of the first q joined with that of the rest.
  pub span_split : (q p : ℕ) → q ≤ p
      → span j (λ i. joined j (group key i xs)) 0 p ≡ j.join (span j (λ i. joined j (group key i xs)) 0 q) (span j (λ i. joined j (group key i xs)) q (p - q))
  span_split q p h =
      let near : P → Bool = λ x. ltb (key x) q in
      let far : P → Bool = λ x. not (ltb (key x) q) in
      let ys : List P = filter (within key 0 (0 + p)) xs in
      let short : length ys ≤ length xs = length_kept_by_le (within key 0 (0 + p)) xs in
      let left : filter near ys ≡ filter (within key 0 (0 + q)) xs =
      kept_by_twice near (within key 0 (0 + p)) (within key 0 (0 + q)) (λ x. below (key x)) xs in
      let right : filter far ys ≡ filter (within key q (q + (p - q))) xs =
      kept_by_twice far (within key 0 (0 + p)) (within key q (q + (p - q))) (λ x. above (key x)) xs in
      span_groups 0 p
      ∙ part j m near ys (omega arith)
      ∙ ap (λ (z : List P). j.join (joined j z) (joined j (filter far ys))) left
      ∙ ap (λ (z : List P). j.join (joined j (filter (within key 0 (0 + q)) xs)) (joined j z)) right
      ∙ ap (λ (z : C). j.join z (joined j (filter (within key q (q + (p - q))) xs))) (sym (span_groups 0 q))
      ∙ ap (j.join (span j (λ i. joined j (group key i xs)) 0 q)) (sym (span_groups q (p - q)))
    where
      below : (z : ℕ) → (leb 0 z && ltb z (0 + q)) ≡ ((leb 0 z && ltb z (0 + p)) && ltb z q)
      below z = grind (arith, nat_tests)

      above : (z : ℕ) → (leb q z && ltb z (q + (p - q))) ≡ ((leb 0 z && ltb z (0 + p)) && not (ltb z q))
      above z = grind (arith, nat_tests)

  -- One more group at the end.
  pub span_push : (q : ℕ) → span j (λ i. joined j (group key i xs)) 0 (q + 1) ≡ j.join (span j (λ i. joined j (group key i xs)) 0 q) (joined j (group key q xs))
  span_push q =
      let one : (q + 1) - q ≡ 1 = omega arith in
      let short : length (group key q xs) ≤ length xs = length_kept_by_le (λ x. eqb (key x) q) xs in
      span_split q (q + 1) (omega arith)
      ∙ ap (λ (r : ℕ). j.join (span j (λ i. joined j (group key i xs)) 0 q) (span j (λ i. joined j (group key i xs)) q r)) one
      ∙ ap (j.join (span j (λ i. joined j (group key i xs)) 0 q)) (identity_right j m (group key q xs) (omega arith))

module _ {P C : Type 0} (j : Joining P C) (m : Monoid j) (at_most : C → C → Bool) (r : Ranking j at_most) (key : P → ℕ) where
  -- What passes is the group of one key and what passes of the others.
  first_and_rest : (f : P → Bool) (k : ℕ) (xs : List P) → length xs ≤ most_penalties
      → joined j (filter f xs) ≡ joined j (group key k (filter f xs) ++ filter f (filter (other key k) xs))
  first_and_rest f k xs few =
      let fs : List P = filter f xs in
      let short : length fs ≤ length xs = length_kept_by_le f xs in
      let both : length (group key k fs) + length (filter (other key k) fs) ≡ length fs =
      length-filter_both (λ x. eqb (key x) k) (other key k) (λ x. refl) fs in
      part j m (λ x. eqb (key x) k) fs (omega arith)
      ∙ append j m (group key k fs) (filter (other key k) fs) (omega arith)
      ∙ ap (λ (z : List P). joined j (group key k fs ++ z)) (kept_by_exchange (other key k) f xs)

  -- What costs at most as much in each group costs at most as much in all.
  pub groups_below : (f g : P → Bool) (k n : ℕ) (xs : List P) → length xs ≤ most_penalties → Keys key k n xs
      → ((i : ℕ) → k ≤ i → i < k + n → Below j at_most (group key i (filter f xs)) (group key i (filter g xs)))
      → Below j at_most (filter f xs) (filter g xs)
  groups_below f g k zero [] few ks each = reflexive j m at_most r [] few
  groups_below f g k zero (x ∷ xs) few ks each = let lo = ks.0.0 in let hi = ks.0.1 in absurd (omega arith)
  groups_below f g k (suc n) xs few ks each =
      let here : P → Bool = λ x. eqb (key x) k in
      let ys : List P = filter (other key k) xs in
      let both : length (group key k xs) + length ys ≡ length xs = length-filter_both here (other key k) (λ x. refl) xs in
      let rest : Below j at_most (filter f ys) (filter g ys) = groups_below f g (suc k) n ys (omega arith) (keys_other key k n xs ks)
      (λ i lo hi. simp (later f i lo, later g i lo) (each i (omega arith) (omega arith))) in
      let lf : length (group key k (filter f xs)) ≤ length (group key k xs) = shorter f in
      let lg : length (group key k (filter g xs)) ≤ length (group key k xs) = shorter g in
      let mf = length_kept_by_le f ys in
      let mg = length_kept_by_le g ys in
      rw (first_and_rest f k xs few, first_and_rest g k xs few)
      (append_below j m at_most r (group key k (filter f xs)) (group key k (filter g xs)) (filter f ys) (filter g ys)
      (omega arith) (omega arith) (omega arith) (each k (omega arith) (omega arith)) rest)
    where
      later : (h : P → Bool) (i : ℕ) → k < i → group key i (filter h (filter (other key k) xs)) ≡ group key i (filter h xs)
      later h i l = ap (group key i) (kept_by_exchange h (other key k) xs) ∙ group_other key k i (filter h xs) l

      shorter : (h : P → Bool) → length (group key k (filter h xs)) ≤ length (group key k xs)
      shorter h = rw (kept_by_exchange (λ x. eqb (key x) k) h xs) (length_kept_by_le h (group key k xs))
