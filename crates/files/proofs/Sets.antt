-- Sets of words: by whether the field is empty, and that they have just the codes of the words.
use Rattle.std.proofs.Common.{◌≡◌, ℕ, ◌^◌, ◌<◌, Bool, true, false, cond, eqb, ltb, ◌||◌, List, [], ◌∷◌, length, Ok, Some, None, Option, Result, IfOk, sym, refl, ap, ◌∙◌, subst, inl, inr, ◌⊎◌, ⊎_elim, Decides, zero, suc, arith, ltb-true}
use lib.Bits.{bit_or, or_lt}
use Rattle.std.specs.List.{Any}
use Rattle.std.proofs.lemmas.Bool.{cases_Bool, cases_eq, ne_eqb}
use Rattle.std.proofs.lemmas.Bool.Decides.{nat_tests}
use Rattle.points.specs.Sets.{has}
use Rattle.points.proofs.United.{has_union, has_none, has_single}
use Rattle.std.proofs.lemmas.Nat.{pow_pos, pow_below}
use Rattle.kinds.specs.Words.{read}
use Rattle.files.specs.Parts.{parted}
use Rattle.files.specs.Words.{below, code_of, words, all_words, with_words, are_words, set_of, set_in, Names}
use Rattle.files.specs.Faults.{given}
use Rattle.files.specs.declared.fault.FieldFault.{FieldFault}
use Rattle.files.specs.declared.fault.FieldFault.TheVariants.{NotWord}

pub no_words : (code : List ℕ → Option ℕ) (field : List ℕ) → length field ≡ 0 → set_in code field ≡ Ok 0
unfolding are_words set_of
no_words code [] e = refl
no_words code (b ∷ bs) e = absurd (omega arith)

pub some_words : (code : List ℕ → Option ℕ) (field : List ℕ) → (length field ≡ 0 → ⊥)
    → set_in code field ≡ given (all_words code (parted 47 field)) (with_words code 0 (parted 47 field)) NotWord
unfolding are_words set_of
some_words code [] e = absurd (e refl)
some_words code (b ∷ bs) e = refl

-- A set that is read from words has only codes of the kind.
module _ (codes : ℕ) where
  with_code : (set : ℕ) (o : Option ℕ) → set < 2 ^ codes → elim (below codes o) [ Some c ↦ bit_or set (2 ^ c) | None ↦ set ] < 2 ^ codes
  with_code set None h = h
  with_code set (Some c) h =
      ⊎_elim
      (λ y. subst (λ b. elim (cond b (Some c) None) [ Some d ↦ bit_or set (2 ^ d) | None ↦ set ] < 2 ^ codes) (sym y) (or_lt codes set (2 ^ c) h (pow_below c codes (ltb-true c codes y))))
      (λ n. subst (λ b. elim (cond b (Some c) None) [ Some d ↦ bit_or set (2 ^ d) | None ↦ set ] < 2 ^ codes) (sym n) h)
      (cases_Bool (ltb c codes))

  with_word : (set : ℕ) (b : Bool) (o : Option ℕ) → set < 2 ^ codes → elim (cond b None (below codes o)) [ Some c ↦ bit_or set (2 ^ c) | None ↦ set ] < 2 ^ codes
  with_word set true o h = h
  with_word set false o h = with_code set o h

  with_fits : (names : List (List ℕ)) (set : ℕ) (ws : List (List ℕ)) → set < 2 ^ codes → with_words (code_of codes names) set ws < 2 ^ codes
  with_fits names set [] h = h
  with_fits names set (w ∷ ws) h = with_fits names (elim (code_of codes names w) [ Some c ↦ bit_or set (2 ^ c) | None ↦ set ]) ws (with_word set (eqb (length w) 0) (read names w) h)

set_fits : (codes : ℕ) (names : List (List ℕ)) (field : List ℕ) → set_of (code_of codes names) field < 2 ^ codes
unfolding set_of
set_fits codes names field = with_fits codes names 0 (words field) (pow_pos codes)

-- A set that is read from words has exactly their codes.
module _ (code : List ℕ → Option ℕ) (c : ℕ) where
  abbrev Says : List ℕ → Type 0
  Says w = code w ≡ Some c

  abbrev add : ℕ → Option ℕ → ℕ
  add set o = elim o [ Some d ↦ bit_or set (2 ^ d) | None ↦ set ]

  any_first : (w : List ℕ) (ws : List (List ℕ)) → Says w → Any Says (w ∷ ws)
  any_first w ws e = (0, w, omega arith, refl, e)

  any_later : (w : List ℕ) (ws : List (List ℕ)) → Any Says ws → Any Says (w ∷ ws)
  any_later w ws (k, x, l, e, p) = (suc k, x, omega arith, e, p)

  keeps : (set : ℕ) (o : Option ℕ) → has set c ≡ true → has (add set o) c ≡ true
  keeps set None h = h
  keeps set (Some d) h = has_union set (2 ^ d) c ∙ ap (λ b. b || has (2 ^ d) c) h

  gains : (set : ℕ) (o : Option ℕ) → o ≡ Some c → has (add set o) c ≡ true
  gains set o e = ap (λ x. has (add set x) c) e ∙ has_union set (2 ^ c) c ∙ grind (arith, nat_tests, has_single c c)

  comes : (set : ℕ) (o : Option ℕ) → has (add set o) c ≡ true → (has set c ≡ true) ⊎ (o ≡ Some c)
  comes set None h = inl h
  comes set (Some d) h =
      ⊎_elim
      (λ e. inr (ap Some e))
      (λ n. inl (grind (arith, nat_tests, has_union set (2 ^ d) c, has_single d c, ne_eqb c d (λ e. n (sym e)))))
      (cases_eq d c)

  keeps_all : (set : ℕ) (ws : List (List ℕ)) → has set c ≡ true → has (with_words code set ws) c ≡ true
  keeps_all set [] h = h
  keeps_all set (w ∷ ws) h = keeps_all (add set (code w)) ws (keeps set (code w) h)

  has_named : (set : ℕ) (ws : List (List ℕ)) → Any Says ws → has (with_words code set ws) c ≡ true
  has_named set [] (k, x, l, e, p) = absurd (omega arith)
  has_named set (w ∷ ws) (zero, x, l, e, p) = keeps_all (add set (code w)) ws (gains set (code w) (ap code e ∙ p))
  has_named set (w ∷ ws) (suc k, x, l, e, p) = has_named (add set (code w)) ws (k, x, omega arith, e, p)

  named_has : (set : ℕ) (ws : List (List ℕ)) → has (with_words code set ws) c ≡ true → (has set c ≡ true) ⊎ Any Says ws
  named_has set [] h = inl h
  named_has set (w ∷ ws) h =
      ⊎_elim
      (λ s. ⊎_elim (λ o. inl o) (λ e. inr (any_first w ws e)) (comes set (code w) s))
      (λ a. inr (any_later w ws a))
      (named_has (add set (code w)) ws h)

named : (code : List ℕ → Option ℕ) (field : List ℕ) (c : ℕ) → Decides (has (set_of code field) c) (Names code field c)
unfolding set_of
named code field c = (
  λ h. ⊎_elim (λ z. absurd (grind (arith, nat_tests, has_none c))) (λ a. a) (named_has code c 0 (words field) h),
  λ a. has_named code c 0 (words field) a,
)

-- what holds of the set of a field holds of the answer
if_set : (P : ℕ → Type 0) (b : Bool) (x : ℕ) (r : Result ℕ FieldFault) → r ≡ given b x NotWord → P x → IfOk r P
if_set P true x r e h = subst (λ y. IfOk y P) (sym e) h
if_set P false x r e h = subst (λ y. IfOk y P) (sym e) tt

pub only_codes : (codes : ℕ) (names : List (List ℕ)) (field : List ℕ) (r : Result ℕ FieldFault) → r ≡ set_in (code_of codes names) field → IfOk r (λ s. s < 2 ^ codes)
only_codes codes names field r e = let code = code_of codes names in if_set (λ s. s < 2 ^ codes) (are_words code field) (set_of code field) r e (set_fits codes names field)

pub just_named : (code : List ℕ → Option ℕ) (field : List ℕ) (r : Result ℕ FieldFault) → r ≡ set_in code field → IfOk r (λ s. (c : ℕ) → Decides (has s c) (Names code field c))
just_named code field r e = if_set (λ s. (c : ℕ) → Decides (has s c) (Names code field c)) (are_words code field) (set_of code field) r e (named code field)
