-- What the laws of comparing give: the empty cost is least, and joins of larger costs are larger.
use Rattle.std.proofs.Common.{◌≡◌, ◌+◌, ◌≤◌, Bool, true, false, List, [], ◌∷◌, ◌++◌, length, inl, inr, arith, length-append}
use Rattle.std.proofs.lemmas.Bool.{cases_Bool, both_ways}
use Rattle.tallies.specs.Joins.{Joining, Monoid, Ranking, joined, most_penalties}
use Rattle.tallies.proofs.Joins.{append}

module _ {P C : Type 0} (j : Joining P C) (at_most : C → C → Bool) where
  -- The join of the first list is at most that of the second.
  abbrev pub Below : List P → List P → Type 0
  Below xs ys = at_most (joined j xs) (joined j ys) ≡ true

module _ {P C : Type 0} (j : Joining P C) (m : Monoid j) (at_most : C → C → Bool) (r : Ranking j at_most) where
  -- Each cost is at most itself.
  pub reflexive : (xs : List P) → length xs ≤ most_penalties → Below j at_most xs xs
  reflexive xs h = elim (cases_Bool (at_most (joined j xs) (joined j xs))) [ inl e ↦ e | inr e ↦ r.total xs xs h h e ]

  -- Appending what is larger to what is larger gives what is larger.
  pub append_below : (xs ys zs ws : List P) → length xs + length zs ≤ most_penalties → length ys + length zs ≤ most_penalties → length ys + length ws ≤ most_penalties
      → Below j at_most xs ys → Below j at_most zs ws → Below j at_most (xs ++ zs) (ys ++ ws)
  append_below xs ys zs ws a b c h g =
      let left : Below j at_most (xs ++ zs) (ys ++ zs) = simp (← append j m xs zs a, ← append j m ys zs b) (r.monotone xs ys zs a b h) in
      let right : Below j at_most (ys ++ zs) (ys ++ ws) =
      simp (← append j m ys zs b, ← append j m ys ws c, m.comm ys zs b, m.comm ys ws c) (r.monotone zs ws ys (omega arith) (omega arith) g) in
      r.transitive (xs ++ zs) (ys ++ zs) (ys ++ ws) (simp length-append a) (simp length-append b) (simp length-append c) left right

  -- The empty cost is at most each penalty.
  empty_below_one : (x : P) → Below j at_most [] (x ∷ [])
  empty_below_one x = r.total (x ∷ []) [] (omega arith) (omega arith) (simp (m.single x) (r.above x))

  -- The empty cost is at most each cost.
  pub empty_below : (xs : List P) → length xs ≤ most_penalties → Below j at_most [] xs
  empty_below [] h = reflexive [] h
  empty_below (x ∷ xs) h = append_below [] (x ∷ []) [] xs (omega arith) (omega arith) (omega arith) (empty_below_one x) (empty_below xs (omega arith))

  -- Each penalty of a join is at most the join: here the first.
  pub first_below : (x : P) (xs : List P) → 1 + length xs ≤ most_penalties → Below j at_most (x ∷ []) (x ∷ xs)
  first_below x xs h = append_below (x ∷ []) (x ∷ []) [] xs (omega arith) (omega arith) (omega arith) (reflexive (x ∷ []) (omega arith)) (empty_below xs (omega arith))

  -- A join of one penalty or more is above the empty cost.
  pub above_empty : (x : P) (xs : List P) → 1 + length xs ≤ most_penalties → at_most (joined j (x ∷ xs)) j.empty ≡ false
  above_empty x xs h = elim (cases_Bool (at_most (joined j (x ∷ xs)) j.empty)) [
    | inl e ↦ absurd (both_ways _ (simp (m.single x) (r.above x)) (r.transitive (x ∷ []) (x ∷ xs) [] (omega arith) (omega arith) (omega arith) (first_below x xs h) e))
    | inr e ↦ e
  ]
