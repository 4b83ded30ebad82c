-- The numbers below a bound that pass a test.
use Rattle.std.proofs.Common.{◌≡◌, ℕ, ◌<◌, Bool, true, cond, List, [], ◌∷◌, sym, ◌∙◌, subst, inl, inr, arith, zero-add}
use Rattle.std.specs.List.{Contains, filter, range_with_len}
use Rattle.std.proofs.lemmas.Bool.{both_ways, cases_Bool}
use Rattle.std.proofs.lemmas.List.Elements.{All-contains, Contains-append_cases, Contains-append_left, Contains-append_right, Contains-get_or, Contains-push_cases, filter_passes}
use Rattle.std.proofs.lemmas.List.FromFn.{get_or-range_with_len, length-range_with_len}

-- those that pass, in their order
abbrev pub passing : ℕ → (ℕ → Bool) → List ℕ
passing n p = filter p (range_with_len 0 n)

nowhere : {x : ℕ} → Contains [] x → ⊥
nowhere i = let below = i.1 in omega arith

-- an item of the list that passes is one of those that pass
Contains-filter : (p : ℕ → Bool) (xs : List ℕ) (x : ℕ) → Contains xs x → p x ≡ true → Contains (filter p xs) x
Contains-filter p [] x i h = absurd (nowhere i)
Contains-filter p (y ∷ ys) x i h = elim (cases_Bool (p y)) [
  | inl passes ↦ subst (λ (b : Bool). Contains (cond b (y ∷ filter p ys) (filter p ys)) x) (sym passes) (elim (Contains-append_cases (y ∷ []) ys x i) [
    | inl first ↦ Contains-append_left (y ∷ []) (filter p ys) x first
    | inr later ↦ Contains-append_right (y ∷ []) (filter p ys) x (Contains-filter p ys x later h)
  ])
  | inr fails ↦ subst (λ (b : Bool). Contains (cond b (y ∷ filter p ys) (filter p ys)) x) (sym fails) (elim (Contains-append_cases (y ∷ []) ys x i) [
    | inl first ↦ elim (Contains-push_cases [] y x first) [
      | inl none ↦ absurd (nowhere none)
      | inr same ↦ absurd (both_ways (p y) fails (subst (λ (k : ℕ). p k ≡ true) (sym same) h))
    ]
    | inr later ↦ Contains-filter p ys x later h
  ])
]

pub in_range : (n x : ℕ) → x < n → Contains (range_with_len 0 n) x
in_range n x l =
    subst (Contains (range_with_len 0 n)) (get_or-range_with_len 0 n x 0 l ∙ zero-add x)
    (Contains-get_or (range_with_len 0 n) x 0 (subst (λ (k : ℕ). x < k) (sym (length-range_with_len 0 n)) l))

pub passes : (n : ℕ) (p : ℕ → Bool) (x : ℕ) → Contains (passing n p) x → p x ≡ true
passes n p x i = All-contains (λ (k : ℕ). p k ≡ true) (passing n p) x (filter_passes p (range_with_len 0 n)) i

pub is_passing : (n : ℕ) (p : ℕ → Bool) (x : ℕ) → x < n → p x ≡ true → Contains (passing n p) x
is_passing n p x l h = Contains-filter p (range_with_len 0 n) x (in_range n x l) h
