-- The numbers of scenarios: codes as digits, dictionary order, and what shares a prefix.
use Rattle.std.proofs.Common.{◌≡◌, ℕ, zero, suc, ◌+◌, ◌-◌, ◌*◌, ◌/◌, ◌%◌, ◌^◌, ◌<◌, ◌≤◌, List, [], ◌∷◌, length, get_or, take, replicate, sym, refl, ap, ◌∙◌, subst, inl, inr, mul-le-mul_right, mod-lt, mod-eq_of_lt, mul_assoc, mul_comm, div-lt_iff_lt-mul, add-mul, one-mul, pow-suc, zero-mul, div-mul-le_self, arith, pow-add}
use native.Mathlib.Nat.{pow-zero, one-le-pow, mul-add-div_right, mod-one, div-eq_of_lt-le, lt-div-mul-add}
use lib.Arith.{digits_lt, digits_div, digits_mod, mod-mul}
use Rattle.std.proofs.lemmas.List.{get_or-take}
use Rattle.std.proofs.lemmas.Bool.{cases_order}
use Rattle.rules.specs.Orders.{Below, Before, index, digits, past, InOrder}

-- The number of a scenario of p pairs is below b ^ p.
pub index_lt : (b : ℕ) (a : List ℕ) → Below b a → index b a < b ^ length a
index_lt b [] h = rw pow-zero (omega arith)
index_lt b (c ∷ a) h = rw (pow-suc, mul_comm (b ^ length a) b) (digits_lt h.0 (index_lt b a h.1))

-- The same by the length of another scenario.
index_lt_as : (b : ℕ) (a e : List ℕ) → length a ≡ length e → Below b a → index b a < b ^ length e
index_lt_as b a e l h = rw (sym l) (index_lt b a h)

-- Scenarios of one length with one number are the same.
pub index_same : (b : ℕ) (a e : List ℕ) → Below b a → Below b e → length a ≡ length e → index b a ≡ index b e → a ≡ e
index_same b [] [] h g l i = refl
index_same b [] (d ∷ e) h g l i = absurd (omega arith)
index_same b (c ∷ a) [] h g l i = absurd (omega arith)
index_same b (c ∷ a) (d ∷ e) h g l i =
    let l' : length e ≡ length a = omega arith in
    let below_a : index b a < b ^ length a = index_lt b a h.1 in
    let below_e : index b e < b ^ length a = index_lt_as b e a l' g.1 in
    let i' : c * b ^ length a + index b a ≡ d * b ^ length a + index b e = i ∙ ap (λ (p : ℕ). d * b ^ p + index b e) l' in
    let first : c ≡ d = sym (digits_div c below_a) ∙ ap (λ (z : ℕ). z / b ^ length a) i' ∙ digits_div d below_e in
    let low : index b a ≡ index b e = sym (digits_mod c below_a) ∙ ap (λ (z : ℕ). z % b ^ length a) i' ∙ digits_mod d below_e in
    let rest : a ≡ e = index_same b a e h.1 g.1 (sym l') low in
    cc

-- A scenario before another in dictionary order has the lower number.
before_index : (b : ℕ) (a e : List ℕ) → Below b a → Below b e → length a ≡ length e → Before a e → index b a < index b e
before_index b [] e h g l x = absurd x
before_index b (c ∷ a) [] h g l x = absurd x
before_index b (c ∷ a) (d ∷ e) h g l x =
    let l' : length a ≡ length e = omega arith in
    let below_a : index b a < b ^ length e = index_lt_as b a e l' h.1 in
    rw l'
    (elim x [
      | inl lt ↦ omega (arith, digits_lt {q = c} {m = d} {r = index b a} {c = b ^ length e} lt below_a)
      | inr r ↦ rw r.0 (omega (arith, before_index b a e h.1 g.1 l' r.1))
    ])

-- A scenario with a lower number is before the other in dictionary order.
index_before : (b : ℕ) (a e : List ℕ) → Below b a → Below b e → length a ≡ length e → index b a < index b e → Before a e
index_before b [] [] h g l x = absurd (omega arith)
index_before b [] (d ∷ e) h g l x = absurd (omega arith)
index_before b (c ∷ a) [] h g l x = absurd (omega arith)
index_before b (c ∷ a) (d ∷ e) h g l x =
    let l' : length e ≡ length a = omega arith in
    let x' : c * b ^ length a + index b a < d * b ^ length a + index b e = rw l' at x in
    let below_e : index b e < b ^ length a = index_lt_as b e a l' g.1 in
    elim (cases_order c d) [
      | inl same ↦
          let y : c * b ^ length a + index b a < c * b ^ length a + index b e = rw (sym same) at x' in
          inr (same, index_before b a e h.1 g.1 (sym l') (omega arith))
      | inr (inl lt) ↦ inl lt
      | inr (inr gt) ↦ absurd (omega (arith, digits_lt {q = d} {m = c} {r = index b e} {c = b ^ length a} gt below_e))
    ]

-- The number keeps dictionary order.
pub in_order : (b : ℕ) → InOrder b
in_order b a e h g l = (before_index b a e h g l, index_before b a e h g l)

-- The scenario of p pairs that has m before it has p codes, each below b.
pub length_digits : (b p m : ℕ) → length (digits b p m) ≡ p
length_digits b zero m = refl
length_digits b (suc p) m = ap suc (length_digits b p m)

pub below_digits : (b p m : ℕ) → 0 < b → Below b (digits b p m)
below_digits b zero m h = tt
below_digits b (suc p) m h = (mod-lt (m / b ^ p) h, below_digits b p m h)

index_digits_mod : (b p m : ℕ) → 0 < b → index b (digits b p m) ≡ m % b ^ p
index_digits_mod b zero m h = rw (pow-zero b) (sym (mod-one m))
index_digits_mod b (suc p) m h =
    rw (length_digits b p m, index_digits_mod b p m h, pow-suc b p, mul_comm (b ^ p) b) (sym (mod-mul m h (one-le-pow p b h)))

-- Its number is m.
pub index_digits : (b p m : ℕ) → 0 < b → m < b ^ p → index b (digits b p m) ≡ m
index_digits b p m h l = index_digits_mod b p m h ∙ mod-eq_of_lt l

-- The scenario of all zeros has codes below b and the number 0.
pub below_zeros : (b p : ℕ) → 0 < b → Below b (replicate p 0)
below_zeros b zero h = tt
below_zeros b (suc p) h = (h, below_zeros b p h)

pub index_zeros : (b p : ℕ) → index b (replicate p 0) ≡ 0
index_zeros b zero = refl
index_zeros b (suc p) =
    let zeros : List ℕ = replicate p 0 in
    omega (arith, index_zeros b p, zero-mul (b ^ length zeros))

-- Without its last r digits, a number of q + r digits has the first digit c still in front, of q digits.
without_low : (b c i q r : ℕ) → 0 < b → i < b ^ (q + r) → ((c * b ^ (q + r) + i) / b ^ r ≡ c * b ^ q + i / b ^ r) × (i / b ^ r < b ^ q)
without_low b c i q r h l =
    let pos = one-le-pow r b h in
    let e : c * b ^ (q + r) ≡ (c * b ^ q) * b ^ r = ap (λ (z : ℕ). c * z) (pow-add b q r) ∙ sym (mul_assoc c (b ^ q) (b ^ r)) in
    (rw e (mul-add-div_right pos (c * b ^ q) i), (div-lt_iff_lt-mul pos).1 (rw (pow-add b q r) at l))

-- Numbers that are the same without their last r digits have the same codes before these.
same_prefix : (b r q : ℕ) (a e : List ℕ) → 0 < b → Below b a → Below b e → length a ≡ q + r → length e ≡ q + r
    → index b a / b ^ r ≡ index b e / b ^ r → take q a ≡ take q e
same_prefix b r zero a e pos h g la le i = refl
same_prefix b r (suc q) [] e pos h g la le i = absurd (omega arith)
same_prefix b r (suc q) (c ∷ a) [] pos h g la le i = absurd (omega arith)
same_prefix b r (suc q) (c ∷ a) (d ∷ e) pos h g la le i =
    let la' : length a ≡ q + r = omega arith in
    let le' : length e ≡ q + r = omega arith in
    let ha = without_low b c (index b a) q r pos (subst (λ (z : ℕ). index b a < b ^ z) la' (index_lt b a h.1)) in
    let he = without_low b d (index b e) q r pos (subst (λ (z : ℕ). index b e < b ^ z) le' (index_lt b e g.1)) in
    let i' : c * b ^ q + index b a / b ^ r ≡ d * b ^ q + index b e / b ^ r = sym ha.0 ∙ (rw (la', le') at i) ∙ he.0 in
    let first : c ≡ d = sym (digits_div c ha.1) ∙ ap (λ (z : ℕ). z / b ^ q) i' ∙ digits_div d he.1 in
    let low : index b a / b ^ r ≡ index b e / b ^ r = sym (digits_mod c ha.1) ∙ ap (λ (z : ℕ). z % b ^ q) i' ∙ digits_mod d he.1 in
    let rest : take q a ≡ take q e = same_prefix b r q a e pos h.1 g.1 la' le' low in
    cc

-- What is numbered from m up to `past` shares the first q codes of the scenario numbered m.
pub shares_prefix : (b p q m : ℕ) (a : List ℕ) → 0 < b → q ≤ p → m < b ^ p → Below b a → length a ≡ p
    → m ≤ index b a → index b a < past b p q m → take q a ≡ take q (digits b p m)
shares_prefix b p q m a pos qp mp low long from to =
    let sum : q + (p - q) ≡ p = omega arith in
    let down : m / b ^ (p - q) * b ^ (p - q) ≤ index b a = omega (arith, div-mul-le_self m (b ^ (p - q))) in
    let same : index b a / b ^ (p - q) ≡ index b (digits b p m) / b ^ (p - q) =
    div-eq_of_lt-le (b ^ (p - q)) down to ∙ ap (λ (z : ℕ). z / b ^ (p - q)) (sym (index_digits b p m pos mp)) in
    same_prefix b (p - q) q a (digits b p m) pos low (below_digits b p m pos) (long ∙ sym sum) (length_digits b p m ∙ sym sum) same

-- Scenarios that share the first q codes have the same codes there.
pub shared_code : (q : ℕ) (a e : List ℕ) → take q a ≡ take q e → (k : ℕ) → k < q → get_or a k 0 ≡ get_or e k 0
shared_code q a e s k l = sym (get_or-take q a k 0 l) ∙ ap (λ (z : List ℕ). get_or z k 0) s ∙ get_or-take q e k 0 l

-- `past` lies beyond m, and not beyond the last scenario.
pub past_beyond : (b p q m : ℕ) → 0 < b → m < past b p q m
past_beyond b p q m pos =
    let up = lt-div-mul-add {a = m} (one-le-pow (p - q) b pos) in
    let e : past b p q m ≡ m / b ^ (p - q) * b ^ (p - q) + b ^ (p - q) = simp (add-mul, one-mul) in
    omega (arith, e, up)

pub past_within : (b p q m : ℕ) → 0 < b → q ≤ p → m < b ^ p → past b p q m ≤ b ^ p
past_within b p q m pos qp mp =
    let sum : q + (p - q) ≡ p = omega arith in
    let e : b ^ p ≡ b ^ q * b ^ (p - q) = ap (λ (z : ℕ). b ^ z) (sym sum) ∙ pow-add b q (p - q) in
    let low : m / b ^ (p - q) < b ^ q = (div-lt_iff_lt-mul (one-le-pow (p - q) b pos)).1 (rw e at mp) in
    let low' : m / b ^ (p - q) + 1 ≤ b ^ q = omega arith in
    rw e (mul-le-mul_right (b ^ (p - q)) low')
