-- Sets of one code, and unions of sets.
use Rattle.std.proofs.Common.{◌≡◌, ℕ, zero, suc, ◌+◌, ◌/◌, ◌%◌, ◌^◌, ◌<◌, true, false, ◌||◌, eqb, sym, refl, ap, ◌∙◌, subst, inl, inr, arith, pow_pos}
use lib.Bits.{bit_or, or_shr, or_mod}
use Rattle.std.proofs.lemmas.Nat.{mod_below}
use Rattle.std.proofs.lemmas.Bool.{cases_order, eq-eqb, ne_eqb}
use Rattle.points.specs.Sets.{has}
use Rattle.points.proofs.Inserted.{has_add_below, has_add_here, add_below}
use Rattle.points.proofs.Tabled.{has_beyond}

above : (x : ℕ) → suc (suc x) < 2 → ⊥
above x l = omega arith

-- one bit of a union
or_one : (x y : ℕ) → x < 2 → y < 2 → eqb (bit_or x y) 1 ≡ (eqb x 1 || eqb y 1)
or_one zero zero p q = refl
or_one zero (suc zero) p q = refl
or_one zero (suc (suc y)) p q = absurd (above y q)
or_one (suc zero) zero p q = refl
or_one (suc zero) (suc zero) p q = refl
or_one (suc zero) (suc (suc y)) p q = absurd (above y q)
or_one (suc (suc x)) y p q = absurd (above x p)

-- A union has what either set has.
pub has_union : (a b e : ℕ) → has (bit_or a b) e ≡ (has a e || has b e)
has_union a b e =
    ap (λ (n : ℕ). eqb (n % 2) 1) (or_shr a b e)
    ∙ ap (λ (n : ℕ). eqb n 1) (or_mod (a / 2 ^ e) (b / 2 ^ e) 1)
    ∙ or_one (a / 2 ^ e % 2) (b / 2 ^ e % 2) (mod_below (a / 2 ^ e) 2 (omega arith)) (mod_below (b / 2 ^ e) 2 (omega arith))

-- The empty set has nothing.
pub has_none : (e : ℕ) → has 0 e ≡ false
has_none e = has_beyond 0 0 e (omega arith) (omega arith)

-- A set of one code has that code alone.
pub has_single : (c e : ℕ) → has (2 ^ c) e ≡ eqb e c
has_single c e = elim (cases_order e c) [
  | inl same ↦ subst (λ (i : ℕ). has (2 ^ c) i ≡ eqb i c) (sym same) (here ∙ sym (eq-eqb c c refl))
  | inr (inl below) ↦ ap (λ (s : ℕ). has s e) (sym whole) ∙ has_add_below 0 c e below ∙ has_none e ∙ sym (other (omega arith))
  | inr (inr above) ↦ has_beyond (2 ^ c) (c + 1) e short (omega arith) ∙ sym (other (omega arith))
]
  where
    whole : 0 + 2 ^ c ≡ 2 ^ c
    whole = omega arith

    here : has (2 ^ c) c ≡ true
    here = ap (λ (s : ℕ). has s c) (sym whole) ∙ has_add_here 0 c (omega (arith, pow_pos c))

    short : 2 ^ c < 2 ^ (c + 1)
    short = let added : 0 + 2 ^ c < 2 ^ (c + 1) = add_below 0 c (omega (arith, pow_pos c)) in omega arith

    other : (e ≡ c → ⊥) → eqb e c ≡ false
    other differs = ne_eqb e c differs
