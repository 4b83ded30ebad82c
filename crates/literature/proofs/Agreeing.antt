-- Sets and tests that are decided are equal exactly where what they decide agrees.
use Rattle.std.proofs.Common.{◌≡◌, ℕ, ◌<◌, Bool, true, false, Decides, ◌↔◌, eqb, sym, refl, subst, arith}
use mathlib.Core.Bool.{beq}
use Rattle.std.proofs.lemmas.Bool.{eqb-true, eq-eqb, false≢true}
use Rattle.std.proofs.lemmas.Bool.Decides.{Decides-like, nat_tests, same_from_decides}
use Rattle.std.proofs.lemmas.Nat.Bits.{bit_at-lt, same_from_bits}
use Rattle.points.specs.Sets.{has}

-- two bits that are both 1 or both not are the same
same_bit : (x y : ℕ) → x < 2 → y < 2 → eqb x 1 ≡ eqb y 1 → x ≡ y
same_bit x y p q h = grind (arith, nat_tests)

-- two sets with the same members are equal
pub same_members : (a b : ℕ) → ((e : ℕ) → has a e ≡ has b e) → a ≡ b
same_members a b same = same_from_bits a b (λ e. same_bit _ _ (bit_at-lt a e) (bit_at-lt b e) (same e))

-- the equality of two decided sets
pub equal_sets : {P Q : ℕ → Type 0} → (a b : ℕ) → ((e : ℕ) → Decides (has a e) (P e)) → ((e : ℕ) → Decides (has b e) (Q e)) →
    Decides (eqb a b) ((e : ℕ) → P e ↔ Q e)
equal_sets {P} {Q} a b p q = (agree, same)
  where
    agree : eqb a b ≡ true → (e : ℕ) → P e ↔ Q e
    agree h e =
        let is : a ≡ b = eqb-true a b h in
        (λ x. (q e).0 (subst (λ (s : ℕ). has s e ≡ true) is ((p e).1 x)), λ y. (p e).0 (subst (λ (s : ℕ). has s e ≡ true) (sym is) ((q e).1 y)))

    same : ((e : ℕ) → P e ↔ Q e) → eqb a b ≡ true
    same h = eq-eqb a b (same_members a b (λ e. same_from_decides (has a e) (has b e) (p e) (Decides-like (has b e) (h e).1 (h e).0 (q e))))

-- the equality of two decided tests
pub equal_tests : {P Q : Type 0} → (a b : Bool) → Decides a P → Decides b Q → Decides (beq a b) (P ↔ Q)
equal_tests true true p q = (λ _. (λ _. q.0 refl, λ _. p.0 refl), λ _. refl)
equal_tests true false p q = (λ h. absurd (false≢true h), λ both. q.1 (both.0 (p.0 refl)))
equal_tests false true p q = (λ h. absurd (false≢true h), λ both. p.1 (both.1 (q.0 refl)))
equal_tests false false p q = (λ _. (λ x. absurd (false≢true (p.1 x)), λ y. absurd (false≢true (q.1 y))), λ _. refl)

-- the equality of a set with a decided one
pub equals_decided : {P : ℕ → Type 0} → (a b : ℕ) → ((e : ℕ) → Decides (has a e) (P e)) → Decides (eqb a b) ((e : ℕ) → Decides (has b e) (P e))
equals_decided {P} a b p = (
  λ h. subst (λ (s : ℕ). (e : ℕ) → Decides (has s e) (P e)) (eqb-true a b h) p,
  λ q. eq-eqb a b (same_members a b (λ e. same_from_decides (has a e) (has b e) (p e) (q e))),
)
