-- The converses of a set are the converses of its codes, and no others.
use Rattle.std.proofs.Common.{◌≡◌, ℕ, zero, suc, ◌<◌, ◌^◌, Bool, true, false, ◌&&◌, ltb, sym, ap, ◌∙◌, subst, inl, inr, arith}
use lib.Bits.{bit_or}
use Rattle.std.proofs.lemmas.Bool.{both_ways, cases_Bool, cases_order, cond-true, cond-false, and_from, and_parts, or_cases, or_left, or_right, eqb-true, eq-eqb, lt-ltb}
use Rattle.points.specs.Sets.{has}
use Rattle.points.proofs.United.{has_none, has_single, has_union}
use Rattle.kinds.specs.Meaning.{Meaning, Laws, Involutive}
use Rattle.statements.specs.Drafts.{converses, Turned}

module _ (conv : ℕ → ℕ) (set e : ℕ) where
  abbrev taken : ℕ → Bool
  taken n = has set n && ltb (conv n) 64

  abbrev From : ℕ → Type 0
  From n = (c : ℕ) × (c < n) × (has set c ≡ true) × (conv c ≡ e)

  with_code : (n : ℕ) → taken n ≡ true → has (converses conv (suc n) set) e ≡ has (bit_or (converses conv n set) (2 ^ conv n)) e
  with_code n t = ap (λ (s : ℕ). has s e) (cond-true (taken n) (bit_or (converses conv n set) (2 ^ conv n)) (converses conv n set) t)

  without_code : (n : ℕ) → taken n ≡ false → has (converses conv (suc n) set) e ≡ has (converses conv n set) e
  without_code n f = ap (λ (s : ℕ). has s e) (cond-false (taken n) (bit_or (converses conv n set) (2 ^ conv n)) (converses conv n set) f)

  further : (n : ℕ) → From n → From (suc n)
  further n (c, below, in_set, is) = (c, omega (arith, below), in_set, is)

  comes_from : (n : ℕ) → has (converses conv n set) e ≡ true → From n
  comes_from zero p = absurd (both_ways (has 0 e) (has_none e) p)
  comes_from (suc n) p = elim (cases_Bool (taken n)) [
    | inl t ↦ elim (or_cases (has (converses conv n set) e) (has (2 ^ conv n) e) (sym (has_union (converses conv n set) (2 ^ conv n) e) ∙ sym (with_code n t) ∙ p)) [
      | inl q ↦ further n (comes_from n q)
      | inr q ↦ (n, omega arith, (and_parts (has set n) (ltb (conv n) 64) t).0, sym (eqb-true e (conv n) (sym (has_single (conv n) e) ∙ q)))
    ]
    | inr f ↦ further n (comes_from n (sym (without_code n f) ∙ p))
  ]

  stays : (n : ℕ) → has (converses conv n set) e ≡ true → has (converses conv (suc n) set) e ≡ true
  stays n p = elim (cases_Bool (taken n)) [
    | inl t ↦ with_code n t ∙ has_union (converses conv n set) (2 ^ conv n) e ∙ or_left (has (converses conv n set) e) (has (2 ^ conv n) e) p
    | inr f ↦ without_code n f ∙ p
  ]

  goes_in : (n : ℕ) → taken n ≡ true → conv n ≡ e → has (converses conv (suc n) set) e ≡ true
  goes_in n t is =
      with_code n t ∙ has_union (converses conv n set) (2 ^ conv n) e
      ∙ or_right (has (converses conv n set) e) (has (2 ^ conv n) e) (has_single (conv n) e ∙ eq-eqb e (conv n) (sym is))

  gives : (n : ℕ) → ((c : ℕ) → c < n → conv c < 64) → (c : ℕ) → c < n → has set c ≡ true → conv c ≡ e → has (converses conv n set) e ≡ true
  gives zero small c l in_set is = absurd (omega (arith, l))
  gives (suc n) small c l in_set is = elim (cases_order c n) [
    | inl same ↦ goes_in n (and_from (has set n) (ltb (conv n) 64) (subst (λ (k : ℕ). has set k ≡ true) same in_set) (lt-ltb (conv n) 64 (small n (omega arith))))
        (subst (λ (k : ℕ). conv k ≡ e) same is)
    | inr (inl below) ↦ stays n (gives n (λ k m. small k (omega (arith, m))) c below in_set is)
    | inr (inr above) ↦ absurd (omega (arith, l, above))
  ]

pub turned : {V : Type 0} (m : Meaning V) → Laws m → Involutive m → (set : ℕ) → Turned m set (converses m.converse m.codes set)
turned m laws turns set e = (
  comes_from m.converse set e m.codes,
  λ (c, l, in_set, is). gives m.converse set e m.codes (λ k b. omega (arith, turns.code k b, laws.few_codes)) c l in_set is,
)
