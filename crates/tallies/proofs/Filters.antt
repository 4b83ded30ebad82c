-- Filters of lists: a filter after a filter, and what holds of what is kept.
use Rattle.std.proofs.Common.{◌≡◌, Bool, true, List, [], ◌∷◌, filter, refl, inl, inr}
use Rattle.std.specs.List.{AllByRecursion as Every}
use Rattle.std.proofs.lemmas.Bool.{cond_both, cases_Bool}

module _ {P : Type 0} where
  -- A test that only what passes g can pass needs no filter by g before.
  pub kept_by_in : (f g : P → Bool) (xs : List P) → ((x : P) → f x ≡ true → g x ≡ true) → filter f (filter g xs) ≡ filter f xs
  kept_by_in f g [] into = refl
  kept_by_in f g (x ∷ xs) into = let rest = kept_by_in f g xs into in
      elim (cases_Bool (f x)) [
        | inl e ↦ (let i = into x e in simp (e, i, rest))
        | inr e ↦ elim (cases_Bool (g x)) [ inl d ↦ simp (e, d, rest) | inr d ↦ simp (e, d, rest) ]
      ]

  -- What holds of all, and with the test gives Q, gives Q of all that pass.
  pub all_kept_by_to : (f : P → Bool) (A Q : P → Type 0) → ((x : P) → f x ≡ true → A x → Q x) → (xs : List P) → Every A xs → Every Q (filter f xs)
  all_kept_by_to f A Q to [] h = tt
  all_kept_by_to f A Q to (x ∷ xs) h =
      let rest = all_kept_by_to f A Q to xs h.1 in
      cond_both (f x) (x ∷ filter f xs) (filter f xs) (Every Q) (λ e. (to x e h.0, rest)) (λ e. rest)
