-- How many of a list pass a test.
use Rattle.std.proofs.Common.{◌≡◌, ℕ, ◌+◌, ◌<◌, ◌≤◌, Bool, true, false, cond, T, List, [], ◌∷◌, count_by, refl, ap, subst, inl, inr, arith}
use Rattle.std.proofs.lemmas.List.Sums.{sum_by-cons}
use Rattle.points.specs.Ranks.{Has}

-- what one more counts for
abbrev pub one : Bool → ℕ
one b = cond b 1 0

one_le : (a b : Bool) → (T a → T b) → one a ≤ one b
one_le true true h = omega arith
one_le true false h = absurd (h tt)
one_le false true h = omega arith
one_le false false h = omega arith

one_lt : (a b : Bool) → a ≡ false → b ≡ true → one a < one b
one_lt a b p q = rw (p, q) (omega arith)

module _ {A : Type 0} where
  pub count-cons : (f : A → Bool) (x : A) (xs : List A) → count_by f (x ∷ xs) ≡ one (f x) + count_by f xs
  count-cons f x xs = sum_by-cons (λ y. one (f y)) x xs

  pub count_le : (f g : A → Bool) (xs : List A) → ((y : A) → Has y xs → T (f y) → T (g y)) → count_by f xs ≤ count_by g xs
  count_le f g [] h = omega arith
  count_le f g (x ∷ xs) h =
      omega (arith, count-cons f x xs, count-cons g x xs, one_le (f x) (g x) (h x (inl refl)), count_le f g xs (λ y m. h y (inr m)))

  pub count_lt : (f g : A → Bool) (xs : List A) → ((y : A) → Has y xs → T (f y) → T (g y)) →
      (x : A) → Has x xs → f x ≡ false → g x ≡ true → count_by f xs < count_by g xs
  count_lt f g [] h x m p q = absurd m
  count_lt f g (z ∷ zs) h x (inl e) p q =
      let here : one (f z) < one (g z) = one_lt (f z) (g z) (subst (λ y. f y ≡ false) e p) (subst (λ y. g y ≡ true) e q) in
      omega (arith, count-cons f z zs, count-cons g z zs, count_le f g zs (λ y m. h y (inr m)))
  count_lt f g (z ∷ zs) h x (inr m) p q =
      omega (arith, count-cons f z zs, count-cons g z zs, one_le (f z) (g z) (h z (inl refl)), count_lt f g zs (λ y n. h y (inr n)) x m p q)

  pub count_same : (f g : A → Bool) (xs : List A) → ((y : A) → Has y xs → f y ≡ g y) → count_by f xs ≡ count_by g xs
  count_same f g [] h = refl
  count_same f g (x ∷ xs) h =
      let here : one (f x) ≡ one (g x) = ap one (h x (inl refl)) in
      omega (arith, count-cons f x xs, count-cons g x xs, count_same f g xs (λ y m. h y (inr m)))
