-- Tests over all numbers below a bound and over all orderings, which the checker computes, and what they tell of each.
use Rattle.std.proofs.Common.{◌≡◌, ℕ, zero, suc, ◌<◌, Bool, ◌&&◌, true, false, T, sym, refl, subst, inl, inr, not-suc-le-zero, arith}
use Prim.Native.Nat.{Ordering}
use Rattle.std.proofs.lemmas.Bool.{cases_order}
use Rattle.points.specs.Tests.{upto}

abbrev pub implies : Bool → Bool → Bool
implies true b = b
implies false b = true

abbrev pub alike : Bool → Bool → Bool
alike true true = true
alike true false = false
alike false true = false
alike false false = true

pub both_left : (a b : Bool) → T (a && b) → T a
both_left true b t = tt
both_left false b t = t

pub both_right : (a b : Bool) → T (a && b) → T b
both_right true b t = t
both_right false b t = absurd t

pub both_from : (a b : Bool) → T a → T b → T (a && b)
both_from true b p q = q
both_from false b p q = p

pub implied : (a b : Bool) → T (implies a b) → T a → T b
implied true b t h = t
implied false b t h = absurd h

pub alike_eq : (a b : Bool) → T (alike a b) → a ≡ b
alike_eq true true t = refl
alike_eq true false t = absurd t
alike_eq false true t = absurd t
alike_eq false false t = refl

pub true_from : (a : Bool) → T a → a ≡ true
true_from true t = refl
true_from false t = absurd t

pub holds_from : (a : Bool) → a ≡ true → T a
holds_from a e = subst T (sym e) tt

pub upto_at : (n : ℕ) (f : ℕ → Bool) → T (upto n f) → (k : ℕ) → k < n → T (f k)
upto_at zero f t k h = absurd (not-suc-le-zero h)
upto_at (suc n) f t k h = elim (cases_order k n) [
  | inl e ↦ subst (λ (m : ℕ). T (f m)) (sym e) (both_left (f n) (upto n f) t)
  | inr (inl l) ↦ upto_at n f (both_right (f n) (upto n f) t) k l
  | inr (inr g) ↦ absurd (between h g)
]
  where
    between : k < suc n → n < k → ⊥
    between p q = omega arith

pub upto_from : (n : ℕ) (f : ℕ → Bool) → ((k : ℕ) → k < n → T (f k)) → T (upto n f)
upto_from zero f h = tt
upto_from (suc n) f h = both_from (f n) (upto n f) (h n (omega arith)) (upto_from n f (λ k l. h k (omega arith)))

-- every ordering passes
abbrev pub every : (Ordering → Bool) → Bool
every f = f Ordering.lt && (f Ordering.eq && f Ordering.gt)

pub every_at : (f : Ordering → Bool) → T (every f) → (o : Ordering) → T (f o)
every_at f t Ordering.lt = both_left (f Ordering.lt) (f Ordering.eq && f Ordering.gt) t
every_at f t Ordering.eq = both_left (f Ordering.eq) (f Ordering.gt) (both_right (f Ordering.lt) (f Ordering.eq && f Ordering.gt) t)
every_at f t Ordering.gt = both_right (f Ordering.eq) (f Ordering.gt) (both_right (f Ordering.lt) (f Ordering.eq && f Ordering.gt) t)
