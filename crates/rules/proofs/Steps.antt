-- The tests of a step: some number that passes, and the first that does.
use Rattle.std.proofs.Common.{◌≡◌, ℕ, zero, suc, ◌+◌, ◌<◌, ◌≤◌, Bool, true, false, refl, subst, inl, inr, eq-or-lt_of_le, arith}
use Rattle.std.proofs.lemmas.Bool.{cases_Bool, cases_lt, both_ways, or_cases, or_parts, cond-true, cond-false}
use Rattle.rules.specs.Steps.{some, first_passing}

-- Where some number below n passes, here is one.
pub some_found : (n : ℕ) (f : ℕ → Bool) → some n f ≡ true → (i : ℕ) × (i < n) × (f i ≡ true)
some_found zero f h = absurd (both_ways false refl h)
some_found (suc n) f h = elim (or_cases (f n) (some n f) h) [
  | inl e ↦ (n, omega arith, e)
  | inr e ↦ (let r = some_found n f e in let l = r.1 in (r.0, omega arith, r.2))
]

-- Where none passes, each fails.
pub some_none : (n : ℕ) (f : ℕ → Bool) → some n f ≡ false → (i : ℕ) → i < n → f i ≡ false
some_none zero f h i l = absurd (omega arith)
some_none (suc n) f h i l =
    let both = or_parts (f n) (some n f) h in
    elim (cases_lt i n) [
      | inl lt ↦ some_none n f both.1 i lt
      | inr ge ↦ (let e : n ≡ i = omega arith in subst (λ (k : ℕ). f k ≡ false) e both.0)
    ]

-- The first that passes, if it is in range, passes.
pub first_passes : (f : ℕ → Bool) (m q : ℕ) → first_passing f m q < q + m → f (first_passing f m q) ≡ true
first_passes f zero q h = absurd (omega arith)
first_passes f (suc m) q h = elim (cases_Bool (f q)) [
  | inl e ↦ rw (cond-true (f q) q (first_passing f m (suc q)) e) e
  | inr e ↦ (let is = cond-false (f q) q (first_passing f m (suc q)) e in rw is (first_passes f m (suc q) (omega arith)))
]

-- If it is past the range, each in range fails.
pub first_none : (f : ℕ → Bool) (m q : ℕ) → q + m ≤ first_passing f m q → (i : ℕ) → q ≤ i → i < q + m → f i ≡ false
first_none f zero q h i l u = absurd (omega arith)
first_none f (suc m) q h i l u = elim (cases_Bool (f q)) [
  | inl e ↦ (let is = cond-true (f q) q (first_passing f m (suc q)) e in absurd (omega arith))
  | inr e ↦ (let is = cond-false (f q) q (first_passing f m (suc q)) e in
      elim (eq-or-lt_of_le l) [
        | inl s ↦ subst (λ (k : ℕ). f k ≡ false) s e
        | inr lt ↦ first_none f m (suc q) (omega arith) i lt (omega arith)
      ])
]
