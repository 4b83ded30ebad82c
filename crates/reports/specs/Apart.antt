-- Lemmas on the text of a number, and on that of a pair of numbers with a byte below the digits between them: the same text is of the same
-- numbers, and some bytes stand nowhere in it. They stand in specs, since code in `src` cites them, and it can cite no proofs of its own crate.
use Rattle.std.proofs.Common.{◌≡◌, ◌≢◌, ℕ, zero, suc, ◌+◌, ◌/◌, ◌%◌, ◌^◌, ◌<◌, ◌==◌, Bool, true, false, cond, List, [], ◌∷◌, ◌++◌, length, get_or, drop, nat_lt, sym, refl, ap, ◌∙◌, arith, false-eqb}
use Rattle.std.specs.Fmt.{decimal, digits, digits_onto, digit_glyph}
use Rattle.std.specs.Str.Parse.{digits_value}
use Rattle.std.proofs.lemmas.Fmt.{decimal_is_IsNumeral_wide}
use Rattle.std.proofs.lemmas.List.{length-append}
use Rattle.std.proofs.lemmas.Bool.{eqb-true, ltb-true}
use Rattle.std.proofs.Math.Nat.{pow-le-pow_right}
use Rattle.files.specs.Parts.{Lacks}

-- A number that is written with fewer than k digits is below 10 ^ k.
fewer_digits : (k n : ℕ) (acc : List ℕ) → length (digits_onto k 10 false n acc) < k + length acc → n < 10 ^ k
fewer_digits zero n acc s = absurd (omega (arith, s))
fewer_digits (suc k) n acc s = by (n / 10 == 0) refl s (fewer_digits k (n / 10) more)
  where
    more : List ℕ
    more = digit_glyph false (n % 10) ∷ acc

    by : (b : Bool) → (n / 10 == 0) ≡ b → length (cond b more (digits_onto k 10 false (n / 10) more)) < suc k + length acc
        → (length (digits_onto k 10 false (n / 10) more) < k + length more → n / 10 < 10 ^ k) → n < 10 ^ suc k
    by true e s below = omega (arith, eqb-true (n / 10) 0 e, pow-le-pow_right {n = 10} (omega arith) {i = 1} {j = suc k} (omega arith))
    by false e s below = omega (arith, below (omega (arith, s)))

-- A number whose text has less than 64 bytes is below 10 ^ 64.
short_decimal : (n : ℕ) → length (decimal n) < 64 → n < 10 ^ 64
unfolding digits
short_decimal n s = fewer_digits 64 n [] (omega (arith, s))

-- Numbers with the same text, of less than 64 bytes, are the same.
pub decimals_apart : (m n : ℕ) → length (decimal m) < 64 → decimal m ≡ decimal n → m ≡ n
decimals_apart m n s e =
    sym (decimal_is_IsNumeral_wide m (short_decimal m s)).1
    ∙ ap (digits_value 10) e
    ∙ (decimal_is_IsNumeral_wide n (short_decimal n (omega (arith, s, ap length e)))).1

-- No byte below the digits stands in the text of a number.
module _ (c : ℕ) (low : nat_lt c 48 ≡ true) where
  -- it is no digit
  glyph_is_not : (b : Bool) (d : ℕ) → cond b (48 + d) (87 + d) ≢ c
  glyph_is_not true d e = omega (arith, ltb-true c 48 low, e)
  glyph_is_not false d e = omega (arith, ltb-true c 48 low, e)

  -- it does not stand in the last k digits of a number, put before a text that lacks it
  onto_lacks : (k n : ℕ) (acc : List ℕ) → Lacks c acc → Lacks c (digits_onto k 10 false n acc)
  onto_lacks zero n acc h = h
  onto_lacks (suc k) n acc h =
      let more : Lacks c (digit_glyph false (n % 10) ∷ acc) = (glyph_is_not (nat_lt (n % 10) 10) (n % 10), h) in
      elim (n / 10 == 0) as (λ (b : Bool). Lacks c (cond b (digit_glyph false (n % 10) ∷ acc) (digits_onto k 10 false (n / 10) (digit_glyph false (n % 10) ∷ acc)))) [
        | true ↦ more
        | false ↦ onto_lacks k (n / 10) (digit_glyph false (n % 10) ∷ acc) more
      ]

  -- so it does not stand in all digits
  pub decimal_lacks : (n : ℕ) → Lacks c (decimal n)
  unfolding digits
  decimal_lacks n = onto_lacks 64 n [] tt

-- What stands in neither of two texts does not stand in both joined.
lacks_append : (c : ℕ) (xs ys : List ℕ) → Lacks c xs → Lacks c ys → Lacks c (xs ++ ys)
lacks_append c [] ys g h = h
lacks_append c (x ∷ xs) ys g h = (g.0, lacks_append c xs ys g.1 h)

-- Two texts that are the same are the same before their first c, and after it.
pub first_same : (c : ℕ) (xs ys us vs : List ℕ) → Lacks c xs → Lacks c us → xs ++ (c ∷ ys) ≡ us ++ (c ∷ vs) → (xs ≡ us) × (ys ≡ vs)
first_same c [] ys [] vs g h e = (refl, ap (drop 1) e)
first_same c [] ys (u ∷ us) vs g h e = absurd (h.0 (sym (ap (λ (bs : List ℕ). get_or bs 0 0) e)))
first_same c (x ∷ xs) ys [] vs g h e = absurd (g.0 (ap (λ (bs : List ℕ). get_or bs 0 0) e))
first_same c (x ∷ xs) ys (u ∷ us) vs g h e =
    let rest = first_same c xs ys us vs g.1 h.1 (ap (drop 1) e) in
    (λ i. ap (λ (bs : List ℕ). get_or bs 0 0) e i ∷ rest.0 i, rest.1)

-- Pairs of numbers with the same text, of less than 64 bytes, are the same.
pub pairs_apart : (c : ℕ) → nat_lt c 48 ≡ true → (a b a' b' : ℕ) → length (decimal a ++ (c ∷ decimal b)) < 64
    → decimal a ++ (c ∷ decimal b) ≡ decimal a' ++ (c ∷ decimal b') → (a ≡ a') × (b ≡ b')
pairs_apart c low a b a' b' s e =
    let same = first_same c (decimal a) (decimal b) (decimal a') (decimal b') (decimal_lacks c low a) (decimal_lacks c low a') e in
    let long = length-append (decimal a) (c ∷ decimal b) in
    (decimals_apart a a' (omega (arith, s, long)) same.0, decimals_apart b b' (omega (arith, s, long)) same.1)

-- A byte below the digits that is not the one between them stands nowhere in the text of a pair.
pub pair_lacks : (d : ℕ) → nat_lt d 48 ≡ true → (c : ℕ) → (c == d) ≡ false → (a b : ℕ) → Lacks d (decimal a ++ (c ∷ decimal b))
pair_lacks d low c other a b = lacks_append d (decimal a) (c ∷ decimal b) (decimal_lacks d low a) (false-eqb c d (sym other), decimal_lacks d low b)
