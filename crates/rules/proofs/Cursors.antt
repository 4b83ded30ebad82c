-- The cursor as codes: the number after all scenarios that share a prefix, by carrying.
use Rattle.std.proofs.Common.{◌≡◌, ℕ, zero, suc, ◌+◌, ◌-◌, ◌*◌, ◌/◌, ◌^◌, ◌<◌, ◌≤◌, List, [], ◌∷◌, ◌++◌, length, get_or, take, drop, set, replicate, sym, refl, ap, ◌∙◌, subst, inl, inr, append_assoc, mul_assoc, mul_comm, add-mul, eq-or-lt_of_le, one-mul, pow-suc, zero-mul, mul-one, div-one, arith, take-suc, pow-add}
use native.Mathlib.Nat.{pow-zero}
use lib.Arith.{digits_div}
use Rattle.std.proofs.lemmas.List.{length-append, length-drop, length-replicate, length-take-le, take-append-drop, set_at, get_or_at}
use Rattle.rules.proofs.Elements.{All-append, All-take, All-drop}
use Rattle.std.proofs.lemmas.List.Elements.{All-from_recursion}
use Rattle.rules.specs.Orders.{Below, index, digits, past, Numbers, Skips}
use Rattle.rules.proofs.Orders.{shares_prefix, past_beyond, index_lt, index_same, index_digits, index_zeros, below_zeros, below_digits, length_digits}

-- So many codes 0.
abbrev pub zeros : ℕ → List ℕ
zeros r = replicate r 0

-- The number of codes appended.
pub index_append : (b : ℕ) (a e : List ℕ) → index b (a ++ e) ≡ index b a * b ^ length e + index b e
index_append b [] e = omega (arith, zero-mul (b ^ length e))
index_append b (c ∷ a) e =
    let h = index_append b a e in
    let p : c * b ^ length (a ++ e) ≡ (c * b ^ length a) * b ^ length e =
    rw (length-append a e, pow-add b (length a) (length e)) (sym (mul_assoc c (b ^ length a) (b ^ length e))) in
    let d = add-mul (c * b ^ length a) (index b a) (b ^ length e) in
    omega (arith, h, p, d)

-- The number of one code.
pub index_one : (b c : ℕ) → index b (c ∷ []) ≡ c
index_one b c = rw (pow-zero b) (omega (arith, mul-one c))

-- The scenario with the number of a is a.
pub digits_index : (b p : ℕ) (a : List ℕ) → 0 < b → Below b a → length a ≡ p → digits b p (index b a) ≡ a
digits_index b p a pos low long =
    let lt : index b a < b ^ p = subst (λ (z : ℕ). index b a < b ^ z) long (index_lt b a low) in
    index_same b (digits b p (index b a)) a (below_digits b p (index b a) pos) low (length_digits b p (index b a) ∙ sym long)
    (index_digits b p (index b a) pos lt)

-- Past a whole scenario is the next number.
pub past_one : (b p m : ℕ) → past b p p m ≡ m + 1
past_one b p m =
    let z : p - p ≡ 0 = omega arith in
    rw (z, pow-zero b, div-one m) (mul-one (m + 1))

-- The number without its last digits is that of the first q codes.
index_take : (b q : ℕ) (a : List ℕ) → Below b a → q ≤ length a → index b a / b ^ (length a - q) ≡ index b (take q a)
index_take b q a h l =
    let e : index b a ≡ index b (take q a) * b ^ length (drop q a) + index b (drop q a) =
    ap (index b) (sym (take-append-drop q a)) ∙ index_append b (take q a) (drop q a) in
    let lt = index_lt b (drop q a) (All-drop (λ c. c < b) q a h) in
    let r : index b a / b ^ length (drop q a) ≡ index b (take q a) = ap (λ (z : ℕ). z / b ^ length (drop q a)) e ∙ digits_div (index b (take q a)) lt in
    rw (length-drop q a) at r

-- `past` by the number of the prefix.
past_is : (b q : ℕ) (a : List ℕ) → Below b a → q ≤ length a → past b (length a) q (index b a) ≡ (index b (take q a) + 1) * b ^ (length a - q)
past_is b q a h l = rw (index_take b q a h l) refl

-- The codes of a scenario are the digits of its number.
digits_same : (b : ℕ) (a : List ℕ) → Below b a → digits b (length a) (index b a) ≡ a
digits_same b [] h = refl
digits_same b (c ∷ a) h = digits_index b (length (c ∷ a)) (c ∷ a) (omega (arith, h.0)) h refl

-- Where a scenario of one pair or more has the number m, there is a code.
codes_some : (b p m : ℕ) → m < b ^ suc p → 0 < b
codes_some zero p m l = absurd (omega (arith, pow-suc 0 p))
codes_some (suc b) p m l = omega arith

-- The scenarios of p pairs are numbered from 0 to b ^ p - 1.
pub numbers : (b : ℕ) → Numbers b
numbers b = record { within = index_lt b; same = digits_same b; long = λ p m l. length_digits b p m; codes = codes; number = number }
  where
    codes : (p m : ℕ) → m < b ^ p → Below b (digits b p m)
    codes zero m l = tt
    codes (suc p) m l = below_digits b (suc p) m (codes_some b p m l)

    number : (p m : ℕ) → m < b ^ p → index b (digits b p m) ≡ m
    number zero m l = let one = pow-zero b in omega arith
    number (suc p) m l = index_digits b (suc p) m (codes_some b p m l) l

-- Of the scenarios from a on, those that share its first q codes are just those numbered below `past`.
pub skips : (b : ℕ) → Skips b
skips b q [] [] h g l within from =
    let none : 0 - q ≡ 0 = omega arith in
    ((λ same. rw (none, pow-zero) (omega arith)), λ less. refl)
skips b q [] (d ∷ e) h g l within from = absurd (omega (arith, l))
skips b q (c ∷ a) e h g l within from = (
  (λ same. let quotient : index b e / b ^ (p - q) ≡ index b (c ∷ a) / b ^ (p - q) =
      subst (λ (n : ℕ). index b e / b ^ (n - q) ≡ index b (take q e)) l (index_take b q e g (omega (arith, within, l)))
      ∙ ap (index b) same ∙ sym (index_take b q (c ∷ a) h within) in
      subst (λ (z : ℕ). index b e < (z + 1) * b ^ (p - q)) quotient (past_beyond b p q (index b e) pos)),
  λ less. shares_prefix b p q (index b (c ∷ a)) e pos within (index_lt b (c ∷ a) h) g l from less ∙ ap (take q) (digits_same b (c ∷ a) h),
)
  where
    p : ℕ
    p = length (c ∷ a)

    pos : 0 < b
    pos = omega (arith, h.0)

-- The number of a prefix with one more code.
index_more : (b i : ℕ) (a : List ℕ) → i < length a → index b (take (suc i) a) ≡ index b (take i a) * b + get_or a i 0
index_more b i a l =
    let one : b ^ 1 ≡ b = pow-suc b 0 ∙ ap (λ (z : ℕ). z * b) (pow-zero b) ∙ one-mul b in
    rw (take-suc a i 0 l, index_append b (take i a) (get_or a i 0 ∷ []), one, index_one b (get_or a i 0)) refl

-- Where the last code of a prefix is the last code of all, past it is past the prefix before it.
past_carry : (b i : ℕ) (a : List ℕ) → Below b a → i < length a → b ≤ get_or a i 0 + 1
    → past b (length a) (suc i) (index b a) ≡ past b (length a) i (index b a)
past_carry b i a h l top =
    let low : get_or a i 0 < b = All-from_recursion (λ c. c < b) a h i 0 l in
    let len : length a - i ≡ suc (length a - suc i) = omega arith in
    let up : (index b (take (suc i) a) + 1) ≡ (index b (take i a) + 1) * b =
    ap (λ (z : ℕ). z + 1) (index_more b i a l) ∙ (let e = add-mul (index b (take i a)) 1 b in let o = one-mul b in omega (arith, e, o, low, top)) in
    past_is b (suc i) a h l
    ∙ ap (λ (z : ℕ). z * b ^ (length a - suc i)) up
    ∙ mul_assoc (index b (take i a) + 1) b (b ^ (length a - suc i))
    ∙ ap (λ (z : ℕ). (index b (take i a) + 1) * z) (mul_comm b (b ^ (length a - suc i)) ∙ sym (pow-suc b (length a - suc i)) ∙ ap (λ (z : ℕ). b ^ z) (sym len))
    ∙ sym (past_is b i a h (omega arith))

-- Past the empty prefix is past all scenarios.
pub past_none : (b : ℕ) (a : List ℕ) → Below b a → past b (length a) 0 (index b a) ≡ b ^ length a
past_none b a h =
    past_is b 0 a h (omega arith) ∙ (let z : length a - 0 ≡ length a = omega arith in ap (λ (z : ℕ). 1 * b ^ z) z ∙ one-mul (b ^ length a))

-- Otherwise it is the scenario with the last code of the prefix one more and zeros after it.
past_rise : (b i : ℕ) (a : List ℕ) → Below b a → i < length a
    → index b (take i a ++ ((get_or a i 0 + 1) ∷ zeros (length a - suc i))) ≡ past b (length a) (suc i) (index b a)
past_rise b i a h l =
    let r : ℕ = length a - suc i in
    let zs : List ℕ = zeros r in
    let len : length zs ≡ r = length-replicate r 0 in
    let tail : index b zs ≡ 0 = index_zeros b r in
    let p : b ^ suc (length zs) ≡ b * b ^ r = pow-suc b (length zs) ∙ mul_comm (b ^ length zs) b ∙ ap (λ (z : ℕ). b * b ^ z) len in
    let q : (get_or a i 0 + 1) * b ^ length zs ≡ (get_or a i 0 + 1) * b ^ r = ap (λ (z : ℕ). (get_or a i 0 + 1) * b ^ z) len in
    let m : index b (take i a) * b ^ suc (length zs) ≡ index b (take i a) * b * b ^ r =
    ap (λ (z : ℕ). index b (take i a) * z) p ∙ sym (mul_assoc (index b (take i a)) b (b ^ r)) in
    let d = add-mul (index b (take i a) * b) (get_or a i 0 + 1) (b ^ r) in
    let whole : index b (take i a) * b ^ suc (length zs) + ((get_or a i 0 + 1) * b ^ length zs + index b zs)
    ≡ (index b (take i a) * b + (get_or a i 0 + 1)) * b ^ r = omega (arith, tail, m, q, d) in
    let same : index b (take i a) * b + (get_or a i 0 + 1) ≡ index b (take (suc i) a) + 1 = (let e = index_more b i a l in omega (arith, e)) in
    index_append b (take i a) ((get_or a i 0 + 1) ∷ zeros r) ∙ whole ∙ ap (λ (z : ℕ). z * b ^ r) same ∙ sym (past_is b (suc i) a h l)

-- A write at i into a list whose codes after i are 0, and a read.
write_at : (a : List ℕ) (i v : ℕ) → i < length a → set (take (suc i) a ++ zeros (length a - suc i)) i v ≡ take i a ++ (v ∷ zeros (length a - suc i))
write_at a i v l =
    let r : ℕ = length a - suc i in
    rw (take-suc a i 0 l, append_assoc (take i a) (get_or a i 0 ∷ []) (zeros r)) (set_at (take i a) (get_or a i 0) (zeros r) v i (length-take-le i a (omega arith)))

zero_at : (a : List ℕ) (i : ℕ) → i < length a → take i a ++ (0 ∷ zeros (length a - suc i)) ≡ take i a ++ zeros (length a - i)
zero_at a i l = let e : suc (length a - suc i) ≡ length a - i = omega arith in rw (sym e) refl

read_at : (a : List ℕ) (i : ℕ) → i < length a → get_or (take (suc i) a ++ zeros (length a - suc i)) i 0 ≡ get_or a i 0
read_at a i l =
    rw (take-suc a i 0 l, append_assoc (take i a) (get_or a i 0 ∷ []) (zeros (length a - suc i)))
    (get_or_at (take i a) (get_or a i 0) (zeros (length a - suc i)) 0 i (length-take-le i a (omega arith)))

-- A front with zeros after it has codes only.
pub below_front : (b i r : ℕ) (a : List ℕ) → 0 < b → Below b a → Below b (take i a ++ zeros r)
below_front b i r a pos low = All-append (λ c. c < b) (take i a) (zeros r) (All-take (λ c. c < b) i a low) (below_zeros b r pos)

-- The turns of a loop that carries: the codes of `now` from i on are 0, and past q is past i.
module _ (b q : ℕ) (a : List ℕ) (low : Below b a) (within : q ≤ length a) where
  abbrev goal : ℕ → ℕ
  goal i = past b (length a) i (index b a)

  pub turn_read : (i : ℕ) (now : List ℕ) → 0 < i → i ≤ length a → now ≡ take i a ++ zeros (length a - i) → get_or now (i - 1) 0 ≡ get_or a (i - 1) 0
  turn_read zero now p l e = absurd (omega arith)
  turn_read (suc j) now p l e = let s : suc j - 1 ≡ j = omega arith in rw (s, e) (read_at a j l)

  -- The code at i - 1 rises.
  pub turn_rise : (i : ℕ) (now : List ℕ) → 0 < i → i ≤ length a → now ≡ take i a ++ zeros (length a - i) → goal q ≡ goal i → get_or now (i - 1) 0 + 1 < b
      → (index b (set now (i - 1) (get_or now (i - 1) 0 + 1)) ≡ goal q) × Below b (set now (i - 1) (get_or now (i - 1) 0 + 1))
  turn_rise zero now p l e g lt = absurd (omega arith)
  turn_rise (suc j) now p l e g lt =
      let s : suc j - 1 ≡ j = omega arith in
      let r : get_or now (suc j - 1) 0 ≡ get_or a j 0 = rw (s, e) (read_at a j l) in
      let w : set now (suc j - 1) (get_or now (suc j - 1) 0 + 1) ≡ take j a ++ ((get_or a j 0 + 1) ∷ zeros (length a - suc j)) =
      rw (r, s, e) (write_at a j (get_or a j 0 + 1) l) in
      let lt' : get_or a j 0 + 1 < b = omega (arith, r, lt) in (
        rw w (past_rise b j a low l ∙ sym g),
        rw w
            (All-append (λ c. c < b) (take j a) ((get_or a j 0 + 1) ∷ zeros (length a - suc j)) (All-take (λ c. c < b) j a low)
            (lt', below_zeros b (length a - suc j) (omega arith))),
      )

  -- The code at i - 1 becomes 0.
  pub turn_zero : (i : ℕ) (now : List ℕ) → 0 < i → i ≤ length a → now ≡ take i a ++ zeros (length a - i)
      → set now (i - 1) 0 ≡ take (i - 1) a ++ zeros (length a - (i - 1))
  turn_zero zero now p l e = absurd (omega arith)
  turn_zero (suc j) now p l e =
      let s : suc j - 1 ≡ j = omega arith in
      let r : set now j 0 ≡ take j a ++ zeros (length a - j) = rw e (write_at a j 0 l ∙ zero_at a j l) in
      rw s r

  -- It did not rise: either it is not one of the first q, or it is the last code.
  pub turn_carry : (i : ℕ) (now : List ℕ) → 0 < i → i ≤ length a → now ≡ take i a ++ zeros (length a - i) → (i ≤ q → goal q ≡ goal i)
      → (i - 1 < q → b ≤ get_or now (i - 1) 0 + 1) → i - 1 ≤ q → goal q ≡ goal (i - 1)
  turn_carry zero now p l e g top u = absurd (omega arith)
  turn_carry (suc j) now p l e g top u =
      let s : suc j - 1 ≡ j = omega arith in
      let u' : j ≤ q = omega arith in
      rw s
      (elim (eq-or-lt_of_le u') [
        | inl same ↦ ap goal (sym same)
        | inr lt ↦ (let r = turn_read (suc j) now p l e in
            let t = top (omega arith) in
            let r' : get_or now (suc j - 1) 0 ≡ get_or a j 0 = r ∙ ap (λ (z : ℕ). get_or a z 0) s in
            g lt ∙ past_carry b j a low l (omega (arith, t, r')))
      ])

-- The scenario numbered 1: zeros, and 1 in the last pair.
pub index_second : (b p : ℕ) → index b (zeros p ++ (1 ∷ [])) ≡ 1
index_second b p = rw (index_append b (zeros p) (1 ∷ []), index_zeros b p, index_one b 1) (omega (arith, zero-mul (b ^ 1)))
