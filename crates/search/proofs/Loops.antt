-- What the loops of code add up: costs with one more row, bounds with one more code or pair.
use Rattle.std.proofs.Common.{◌≡◌, ℕ, suc, ◌+◌, ◌-◌, ◌<◌, ◌≤◌, Bool, true, false, cond, ◌&&◌, eqb, List, [], ◌∷◌, ◌++◌, length, get_or, take, filter, sym, refl, ap, ◌∙◌, append-nil, arith}
use Rattle.std.proofs.lemmas.List.Elements.{filter_more}
use borrow.Rule.Slice.PartMut.{put_mid}
use Rattle.std.proofs.lemmas.List.{length-take-le, get_or-take, get_or-drop, get_or-append_right}
use Rattle.std.proofs.lemmas.Slice.{take-put_mid, drop-put_mid}
use Rattle.tallies.specs.Joins.{Joining, Monoid, joined, most_penalties}
use Rattle.tallies.specs.Groups.{span}
use Rattle.tallies.specs.declared.claim.Claim.{Claim}
use Rattle.tallies.proofs.Joins.{push}
use Rattle.rules.specs.declared.row.Row.{Row}
use Rattle.rules.specs.Rows.{counts, counting, breaks, spot}
use Rattle.rules.specs.Costs.{of_rows, cost, charge, pair_cost, pair_bound}
use Rattle.rules.proofs.Filters.{length_kept_by_le, kept_by_twice}

-- The join of what passes a test, with one more member.
pub joined_kept_more : {P C : Type 0} (j : Joining P C) (m : Monoid j) (f : P → Bool) (xs : List P) (i : ℕ) (d : P)
    → length xs ≤ most_penalties → i < length xs
    → joined j (filter f (take (i + 1) xs))
    ≡ cond (f (get_or xs i d)) (j.join (joined j (filter f (take i xs))) (j.penalty (get_or xs i d))) (joined j (filter f (take i xs)))
joined_kept_more {P = P} {C = C} j m f xs i d few l = ap (joined j) (filter_more f xs i d l) ∙ ends (f (get_or xs i d))
  where
    short : length (filter f (take i xs)) + 1 ≤ most_penalties
    short = omega (arith, length_kept_by_le f (take i xs), length-take-le i xs (omega arith))

    ends : (v : Bool) → joined j (filter f (take i xs) ++ cond v (get_or xs i d ∷ []) [])
        ≡ cond v (j.join (joined j (filter f (take i xs))) (j.penalty (get_or xs i d))) (joined j (filter f (take i xs)))
    ends true = sym (push j m (filter f (take i xs)) (get_or xs i d) short)
    ends false = ap (joined j) (append-nil (filter f (take i xs)))

-- A filter of the rows that count is one filter of all rows.
pub kept_counting : (f : Row → Bool) (rows : List Row) → filter f (counting rows) ≡ filter (λ (r : Row). counts r && f r) rows
kept_counting f rows = kept_by_twice f counts (λ (r : Row). counts r && f r) (λ r. refl) rows

-- A turn of a loop that joins a cost to the cost so far.
pub turn_joins : {C : Type 0} (join : C → C → C) {cost here sum was next new : C} → cost ≡ here → sum ≡ was → next ≡ join was here → new ≡ join sum cost → new ≡ next
turn_joins join cost so_far more now = cc

module _ {C : Type 0} (j : Joining Claim C) where
  -- The cost, the charge of a person and the cost of a pair, each by one filter of all rows.
  pub cost_kept : (rows : List Row) (f : ℕ → ℕ → ℕ)
      → cost j rows f ≡ joined (of_rows j) (filter (λ (r : Row). counts r && breaks r (f r.low r.high)) rows)
  cost_kept rows f = ap (joined (of_rows j)) (kept_counting (λ (r : Row). breaks r (f r.low r.high)) rows)

  pub charge_kept : (rows : List Row) (f : ℕ → ℕ → ℕ) (p : ℕ)
      → charge j rows f p ≡ joined (of_rows j) (filter (λ (r : Row). counts r && (breaks r (f r.low r.high) && eqb r.person p)) rows)
  charge_kept rows f p =
      let test : Row → Bool = λ r. breaks r (f r.low r.high) in
      let whose : Row → Bool = λ r. eqb r.person p in
      ap (joined (of_rows j))
      (kept_by_twice whose test (λ r. test r && whose r) (λ r. refl) (counting rows) ∙ kept_counting (λ r. test r && whose r) rows)

  pub pair_cost_kept : (rows : List Row) (s c : ℕ)
      → pair_cost j rows s c ≡ joined (of_rows j) (filter (λ (r : Row). counts r && (eqb (spot r) s && breaks r c)) rows)
  pair_cost_kept rows s c =
      let here : Row → Bool = λ r. eqb (spot r) s in
      let test : Row → Bool = λ r. breaks r c in
      ap (joined (of_rows j))
      (kept_by_twice test here (λ r. here r && test r) (λ r. refl) (counting rows) ∙ kept_counting (λ r. here r && test r) rows)

  module _ (at_most : C → C → Bool) (rows : List Row) where
    -- The bounds of the pairs from q on are that of q joined with those from q + 1 on.
    pub bounds_first : (b q p : ℕ) → q < p → span (of_rows j) (pair_bound j at_most b rows) q (p - q)
        ≡ j.join (pair_bound j at_most b rows q) (span (of_rows j) (pair_bound j at_most b rows) (suc q) (p - suc q))
    bounds_first b q p h = let e : p - q ≡ suc (p - suc q) = omega arith in rw e refl

-- A part of a table that was written, and what stands behind it.
module _ {C : Type 0} (xs ys : List C) (a k : ℕ) (within : a ≤ length xs) (long : length ys ≡ k) (d : C) where
  pub put_here : (z : ℕ) → z < k → get_or (put_mid a k xs ys) (a + z) d ≡ get_or ys z d
  put_here z l =
      let front : length (take a xs) ≡ a = length-take-le a xs within in
      let back : a + z - a ≡ z = omega arith in
      sym (get_or-take (a + length ys) (put_mid a k xs ys) (a + z) d (omega (arith, l, long)))
      ∙ ap (λ (zs : List C). get_or zs (a + z) d) (take-put_mid a k xs ys (a + length ys) refl within)
      ∙ get_or-append_right (take a xs) ys a (a + z) d front (omega arith) ∙ ap (λ (i : ℕ). get_or ys i d) back

  pub put_later : (z : ℕ) → a + k ≤ z → get_or (put_mid a k xs ys) z d ≡ get_or xs z d
  put_later z l =
      let up : (a + k) + (z - (a + k)) ≡ z = omega arith in
      ap (λ (i : ℕ). get_or (put_mid a k xs ys) i d) (sym up)
      ∙ sym (get_or-drop (a + k) (put_mid a k xs ys) (z - (a + k)) d)
      ∙ ap (λ (zs : List C). get_or zs (z - (a + k)) d) (drop-put_mid a k xs ys (a + k) (omega arith) within long)
      ∙ get_or-drop (a + k) xs (z - (a + k)) d ∙ ap (λ (i : ℕ). get_or xs i d) up
