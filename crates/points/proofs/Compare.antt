-- What the comparison of two numbers tells, and the laws of the point algebra.
use Rattle.std.proofs.Common.{◌≡◌, ℕ, zero, suc, ◌<◌, T, sym, refl, ◌∙◌, subst, inl, inr, le_of_suc-le-suc, not-suc-le-zero, arith}
use Prim.Native.Nat.compare
use Prim.Native.Nat.{Ordering, compare}
use Rattle.std.proofs.lemmas.Bool.{cases_order}
use Rattle.std.specs.Ordering.{is_lt as told_is_lt}
use Rattle.points.specs.Points.{Says, converse, told, is_lt, same, compose}
use Rattle.points.proofs.Finite.{implies, implied, every, every_at}

pub compare_lt : (m n : ℕ) → m < n → compare m n ≡ Ordering.lt
compare_lt m zero h = absurd (not-suc-le-zero h)
compare_lt zero (suc n) h = compare.zero-suc n
compare_lt (suc m) (suc n) h = compare.suc-suc m n ∙ compare_lt m n (le_of_suc-le-suc h)

pub compare_gt : (m n : ℕ) → n < m → compare m n ≡ Ordering.gt
compare_gt zero n h = absurd (not-suc-le-zero h)
compare_gt (suc m) zero h = compare.suc-zero m
compare_gt (suc m) (suc n) h = compare.suc-suc m n ∙ compare_gt m n (le_of_suc-le-suc h)

pub compare_self : (m : ℕ) → compare m m ≡ Ordering.eq
compare_self zero = compare.zero-zero
compare_self (suc m) = compare.suc-suc m m ∙ compare_self m

-- what is said of two numbers is what their comparison is
pub said : (o : Ordering) (m n : ℕ) → Says o m n → compare m n ≡ o
said Ordering.lt m n h = compare_lt m n h
said Ordering.eq m n h = subst (λ (k : ℕ). compare m k ≡ Ordering.eq) h (compare_self m)
said Ordering.gt m n h = compare_gt m n h

pub says_compare : (m n : ℕ) → Says (compare m n) m n
says_compare m n = elim (cases_order m n) [
  | inl e ↦ rw (said Ordering.eq m n e) e
  | inr (inl l) ↦ rw (compare_lt m n l) l
  | inr (inr g) ↦ rw (compare_gt m n g) g
]

pub says : (o : Ordering) (m n : ℕ) → compare m n ≡ o → Says o m n
says o m n e = subst (λ (p : Ordering). Says p m n) e (says_compare m n)

says_converse : (o : Ordering) (m n : ℕ) → Says o m n → Says (converse o) n m
says_converse Ordering.lt m n h = h
says_converse Ordering.eq m n h = sym h
says_converse Ordering.gt m n h = h

pub compare_converse : (m n : ℕ) → compare n m ≡ converse (compare m n)
compare_converse m n = said (converse (compare m n)) n m (says_converse (compare m n) m n (says_compare m n))

-- three numbers fit
pub compose_says : (a b c : Ordering) (x y z : ℕ) → Says a x y → Says b y z → Says c x z → T (compose a b c)
compose_says Ordering.lt Ordering.lt Ordering.lt x y z p q r = tt
compose_says Ordering.lt Ordering.lt Ordering.eq x y z p q r = omega arith
compose_says Ordering.lt Ordering.lt Ordering.gt x y z p q r = omega arith
compose_says Ordering.lt Ordering.eq Ordering.lt x y z p q r = tt
compose_says Ordering.lt Ordering.eq Ordering.eq x y z p q r = omega arith
compose_says Ordering.lt Ordering.eq Ordering.gt x y z p q r = omega arith
compose_says Ordering.lt Ordering.gt c x y z p q r = tt
compose_says Ordering.eq Ordering.lt Ordering.lt x y z p q r = tt
compose_says Ordering.eq Ordering.lt Ordering.eq x y z p q r = omega arith
compose_says Ordering.eq Ordering.lt Ordering.gt x y z p q r = omega arith
compose_says Ordering.eq Ordering.eq Ordering.lt x y z p q r = omega arith
compose_says Ordering.eq Ordering.eq Ordering.eq x y z p q r = tt
compose_says Ordering.eq Ordering.eq Ordering.gt x y z p q r = omega arith
compose_says Ordering.eq Ordering.gt Ordering.lt x y z p q r = omega arith
compose_says Ordering.eq Ordering.gt Ordering.eq x y z p q r = omega arith
compose_says Ordering.eq Ordering.gt Ordering.gt x y z p q r = tt
compose_says Ordering.gt Ordering.lt c x y z p q r = tt
compose_says Ordering.gt Ordering.eq Ordering.lt x y z p q r = omega arith
compose_says Ordering.gt Ordering.eq Ordering.eq x y z p q r = omega arith
compose_says Ordering.gt Ordering.eq Ordering.gt x y z p q r = tt
compose_says Ordering.gt Ordering.gt Ordering.lt x y z p q r = omega arith
compose_says Ordering.gt Ordering.gt Ordering.eq x y z p q r = omega arith
compose_says Ordering.gt Ordering.gt Ordering.gt x y z p q r = tt

pub compose_compare : (x y z : ℕ) → T (compose (compare x y) (compare y z) (compare x z))
compose_compare x y z = compose_says (compare x y) (compare y z) (compare x z) x y z (says_compare x y) (says_compare y z) (says_compare x z)

pub converse_converse : (o : Ordering) → o ≡ converse (converse o)
converse_converse Ordering.lt = refl
converse_converse Ordering.eq = refl
converse_converse Ordering.gt = refl

pub same_eq : (a b : Ordering) → T (same a b) → a ≡ b
same_eq Ordering.lt Ordering.lt t = refl
same_eq Ordering.lt Ordering.eq t = absurd t
same_eq Ordering.lt Ordering.gt t = absurd t
same_eq Ordering.eq Ordering.lt t = absurd t
same_eq Ordering.eq Ordering.eq t = refl
same_eq Ordering.eq Ordering.gt t = absurd t
same_eq Ordering.gt Ordering.lt t = absurd t
same_eq Ordering.gt Ordering.eq t = absurd t
same_eq Ordering.gt Ordering.gt t = refl

pub self_converse : (o : Ordering) → o ≡ converse o → o ≡ Ordering.eq
self_converse Ordering.lt e = cc
self_converse Ordering.eq e = refl
self_converse Ordering.gt e = cc

-- the cycle law: the triple of y x z, and that of x z y, from that of x y z
pub compose_swap : (a b c : Ordering) → T (compose a b c) → T (compose (converse a) c b)
compose_swap a b c =
    implied (compose a b c) (compose (converse a) c b)
    (every_at (λ z. implies (compose a b z) (compose (converse a) z b))
    (every_at (λ y. every (λ z. implies (compose a y z) (compose (converse a) z y)))
    (every_at (λ x. every (λ y. every (λ z. implies (compose x y z) (compose (converse x) z y)))) tt a) b) c)

pub compose_turn : (a b c : Ordering) → T (compose a b c) → T (compose c (converse b) a)
compose_turn a b c =
    implied (compose a b c) (compose c (converse b) a)
    (every_at (λ z. implies (compose a b z) (compose z (converse b) a))
    (every_at (λ y. every (λ z. implies (compose a y z) (compose z (converse y) a)))
    (every_at (λ x. every (λ y. every (λ z. implies (compose x y z) (compose z (converse y) x)))) tt a) b) c)

-- what composing with lt or eq passes on
pub compose_lt : (a c : Ordering) → T (compose a Ordering.lt c) → T (is_lt a) → T (is_lt c)
compose_lt Ordering.lt Ordering.lt t h = tt
compose_lt Ordering.lt Ordering.eq t h = absurd t
compose_lt Ordering.lt Ordering.gt t h = absurd t
compose_lt Ordering.eq c t h = absurd h
compose_lt Ordering.gt c t h = absurd h

pub compose_eq : (a c : Ordering) → T (compose a Ordering.eq c) → a ≡ c
compose_eq Ordering.lt c t = same_eq Ordering.lt c t
compose_eq Ordering.eq c t = same_eq Ordering.eq c t
compose_eq Ordering.gt c t = same_eq Ordering.gt c t

pub eq_compose : (b c : Ordering) → T (compose Ordering.eq b c) → b ≡ c
eq_compose b c t = same_eq b c t

-- what the code tells of an ordering
pub told_lt : (o : Ordering) → told_is_lt (told o) ≡ is_lt o
told_lt Ordering.lt = refl
told_lt Ordering.eq = refl
told_lt Ordering.gt = refl
