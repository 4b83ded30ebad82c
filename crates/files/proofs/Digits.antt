-- One digit more of a number, and that a number is what is written for it.
use Rattle.std.proofs.Common.{◌≡◌, ◌↔◌, ℕ, ◌+◌, ◌-◌, ◌*◌, ◌^◌, ◌<◌, ◌≤◌, Bool, true, false, List, ◌∷◌, length, get_or, fold, Ok, Result, sym, refl, ap, ◌∙◌, ⊎_elim, arith}
use Rattle.std.proofs.lemmas.Bool.Decides.{nat_tests}
use Rattle.std.specs.Char.{is_ascii_digit}
use Rattle.std.specs.Fmt.{decimal}
use Rattle.std.specs.List.{list_all}
use Rattle.std.proofs.Math.Nat.{pow-le-pow_right}
use Rattle.std.specs.Int.{IsInRange}
use Rattle.std.proofs.lemmas.Bool.{cases_eq}
use Rattle.std.proofs.lemmas.Fmt.{digits_decimal, digits_value-decimal, decimal-digits_value, length-decimal-le, decimal_nonempty, decimal_digit, first_decimal}
use Rattle.std.proofs.lemmas.Str.Parse.{IsNumeralModel, numerals_by_fold}
use Rattle.std.proofs.lemmas.Int.Digits.{digits_value-lt}
use Rattle.files.specs.declared.fault.FieldFault.{FieldFault}
use Rattle.files.specs.declared.fault.FieldFault.TheVariants.{NotNumber}
use Rattle.files.specs.Faults.{given}
use Rattle.files.specs.Numbers.{value_of, is_number, number_in}

-- digits, one by one
pub digit_parts : (b : ℕ) (bs : List ℕ) → list_all is_ascii_digit (b ∷ bs) ≡ true → IsInRange 48 57 b × (list_all is_ascii_digit bs ≡ true)
digit_parts b bs e = grind (arith, nat_tests)

digit_more : (b : ℕ) (bs : List ℕ) → IsInRange 48 57 b → list_all is_ascii_digit bs ≡ true → list_all is_ascii_digit (b ∷ bs) ≡ true
digit_more b bs h e = grind (arith, nat_tests)

abbrev folded : ℕ → List ℕ → ℕ
folded n bs = fold (λ m b. m * 10 + (b - 48)) n bs

pub numerals : IsNumeralModel (λ bs. list_all is_ascii_digit bs ≡ true) value_of
numerals = numerals_by_fold (λ bs. list_all is_ascii_digit bs ≡ true) (record { empty = refl; parts = digit_parts; more = digit_more }) folded
    (record { empty = λ n. refl; more = λ n c cs h. refl })

below_million : (bs : List ℕ) → list_all is_ascii_digit bs ≡ true → length bs ≤ 6 → value_of bs < 10 ^ 6
below_million bs d l = omega (arith, numerals.same bs (numerals.to bs d), digits_value-lt 10 bs (numerals.to bs d), pow-le-pow_right {n = 10} (omega arith) l)

number_parts : (bs : List ℕ) → is_number bs ≡ true → (0 < length bs) × (length bs ≤ 6) × (list_all is_ascii_digit bs ≡ true) × (get_or bs 0 0 ≡ 48 → length bs ≡ 1)
unfolding is_number
number_parts bs e = (grind (arith, nat_tests), grind (arith, nat_tests), grind (arith, nat_tests), λ z. grind (arith, nat_tests))

number_by : (bs : List ℕ) → 0 < length bs → length bs ≤ 6 → list_all is_ascii_digit bs ≡ true → (get_or bs 0 0 ≡ 48 → length bs ≡ 1) → is_number bs ≡ true
unfolding is_number
number_by bs a b d z = grind (arith, nat_tests)

pub number_written : (bs : List ℕ) → is_number bs ≡ true → (value_of bs < 10 ^ 6) × (bs ≡ decimal (value_of bs))
number_written bs e =
    let p = number_parts bs e in
    let m = below_million bs p.2 p.1 in
    (m, sym (decimal-digits_value numerals bs p.2 p.0 p.3 (omega (arith, m))))

pub written_number : (n : ℕ) → n < 10 ^ 6 → is_number (decimal n) ≡ true
written_number n h =
    number_by (decimal n) (decimal_nonempty n (omega arith)) (length-decimal-le 6 n (omega arith) h (omega arith)) (digits_decimal numerals n (omega arith))
    (λ z. ⊎_elim (λ e. ap (λ k. length (decimal k)) e ∙ ap length (decimal_digit 0 (omega arith))) (λ e. absurd (omega (arith, first_decimal n (omega arith) (omega arith)))) (cases_eq n 0))

-- what is read as n is what is written for n, and the other way round
module _ (field : List ℕ) (n : ℕ) where
  abbrev Written : Type 0
  Written = (n < 10 ^ 6) × (field ≡ decimal n)

  by_test : (b : Bool) → is_number field ≡ b → given b (value_of field) NotNumber ≡ Ok n → Written
  by_test true y h =
      let w = number_written field y in
      let s : value_of field ≡ n = cc in
      (omega (arith, w.0), w.1 ∙ ap decimal s)
  by_test false y h = cc

  read_back : Written → number_in field ≡ Ok n
  read_back w =
      ap number_in w.1 ∙ ap (λ b. given b (value_of (decimal n)) NotNumber) (written_number n w.0)
      ∙ ap Ok (digits_value-decimal numerals n (omega (arith, w.0)))

pub as_written : (field : List ℕ) (r : Result ℕ FieldFault) → r ≡ number_in field → (n : ℕ) → (r ≡ Ok n) ↔ ((n < 10 ^ 6) × (field ≡ decimal n))
as_written field r e n = (λ h. by_test field n (is_number field) refl (sym e ∙ h), λ w. e ∙ read_back field n w)
