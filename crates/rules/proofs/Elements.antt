-- Lemmas of std on `All`, for the same facts by recursion on the list.
use Rattle.std.proofs.Common.{◌≡◌, ℕ, Bool, true, List, [], ◌∷◌, ◌++◌, set, take, drop, filter}
use Rattle.std.specs.List.{AllByRecursion as Every}
use Rattle.std.proofs.lemmas.List.Elements.{All-from_recursion as from, recursion_from_All as to, filter_passes}
use Rattle.std.proofs.lemmas.List.Elements as elements

module _ {X : Type 0} (P : X → Type 0) where
  pub All-weaker : (Q : X → Type 0) → ((x : X) → P x → Q x) → (xs : List X) → Every P xs → Every Q xs
  All-weaker Q f xs h = to Q xs (elements.All-weaker P Q f xs (from P xs h))

  pub All-append : (xs ys : List X) → Every P xs → Every P ys → Every P (xs ++ ys)
  All-append xs ys h k = to P (xs ++ ys) (elements.All-append P xs ys (from P xs h) (from P ys k))

  pub All-push : (xs : List X) (x : X) → Every P xs → P x → Every P (xs ++ x ∷ [])
  All-push xs x h p = to P (xs ++ x ∷ []) (elements.All-push P xs x (from P xs h) p)

  pub All-set : (xs : List X) (i : ℕ) (x : X) → P x → Every P xs → Every P (set xs i x)
  All-set xs i x p h = to P (set xs i x) (elements.All-set P xs i x p (from P xs h))

  pub All-take : (n : ℕ) (xs : List X) → Every P xs → Every P (take n xs)
  All-take n xs h = to P (take n xs) (elements.All-take P n xs (from P xs h))

  pub All-drop : (n : ℕ) (xs : List X) → Every P xs → Every P (drop n xs)
  All-drop n xs h = to P (drop n xs) (elements.All-drop P n xs (from P xs h))

module _ {X : Type 0} (p : X → Bool) where
  pub all_kept_by : (P : X → Type 0) (xs : List X) → Every P xs → Every P (filter p xs)
  all_kept_by P xs h = to P (filter p xs) (elements.All-filter p P xs (from P xs h))

  pub kept_by_passes : (xs : List X) → Every (λ x. p x ≡ true) (filter p xs)
  kept_by_passes xs = to (λ x. p x ≡ true) (filter p xs) (filter_passes p xs)
