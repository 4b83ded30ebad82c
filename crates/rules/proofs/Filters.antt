-- Filters of lists: how much a filter keeps, and one filter after another.
use Rattle.std.proofs.Common.{◌≡◌, ◌≤◌, Bool, not, ◌&&◌, List, [], ◌∷◌, length, filter, sym, refl, ◌∙◌, inl, inr, arith}
use Rattle.std.proofs.lemmas.List.Filters.{length-filter_both}
use Rattle.std.proofs.lemmas.Bool.{cases_Bool}
use Rattle.std.proofs.Math.Bool.{and_comm}

module _ {P : Type 0} where
  -- A filter keeps no more than there is.
  pub length_kept_by_le : (f : P → Bool) (xs : List P) → length (filter f xs) ≤ length xs
  length_kept_by_le f xs = omega (arith, length-filter_both f (λ x. not (f x)) (λ x. refl) xs)

  -- Two filters, one after the other, are one filter by both tests.
  pub kept_by_twice : (f g h : P → Bool) → ((x : P) → h x ≡ (g x && f x)) → (xs : List P) → filter f (filter g xs) ≡ filter h xs
  kept_by_twice f g h both [] = refl
  kept_by_twice f g h both (x ∷ xs) =
      let rest = kept_by_twice f g h both xs in
      let here = both x in
      elim (cases_Bool (g x)) [
        | inl e ↦ simp (e, here, rest)
        | inr e ↦ simp (e, here, rest)
      ]

  -- Two filters may be exchanged.
  pub kept_by_exchange : (f g : P → Bool) (xs : List P) → filter f (filter g xs) ≡ filter g (filter f xs)
  kept_by_exchange f g xs =
      kept_by_twice f g (λ x. g x && f x) (λ x. refl) xs ∙ sym (kept_by_twice g f (λ x. g x && f x) (λ x. and_comm (g x) (f x)) xs)
