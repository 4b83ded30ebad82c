-- A rule of a constant table, proved at all of its entries by one computed test.
use Rattle.std.proofs.Common.{ℕ, zero, suc, ◌+◌, ◌<◌, Bool, true, ◌&&◌, T, List, [], ◌∷◌, length, get_or, sym, ◌∙◌, subst, le_of_suc-le-suc, not-suc-le-zero, add-zero, add-suc, suc-add, zero-add}
use Rattle.points.proofs.Finite.{both_left, both_right}

module _ {A : Type 0} (f : ℕ → A → Bool) where
  -- The test passes at each entry of the list and its place, counted from i.
  abbrev pub every : ℕ → List A → Bool
  every i [] = true
  every i (x ∷ xs) = f i x && every (suc i) xs

  from : (xs : List A) (i : ℕ) (d : A) → T (every i xs) → (k : ℕ) → k < length xs → T (f (i + k) (get_or xs k d))
  from [] i d t k h = absurd (not-suc-le-zero h)
  from (x ∷ xs) i d t zero h = subst (λ (m : ℕ). T (f m x)) (sym (add-zero i)) (both_left (f i x) (every (suc i) xs) t)
  from (x ∷ xs) i d t (suc k) h =
      subst (λ (m : ℕ). T (f m (get_or xs k d))) (suc-add i k ∙ sym (add-suc i k))
      (from xs (suc i) d (both_right (f i x) (every (suc i) xs) t) k (le_of_suc-le-suc h))

  -- So it passes at each place.
  pub at_each : (xs : List A) (d : A) → T (every 0 xs) → (k : ℕ) → k < length xs → T (f k (get_or xs k d))
  at_each xs d t k h = subst (λ (m : ℕ). T (f m (get_or xs k d))) (zero-add k) (from xs 0 d t k h)
