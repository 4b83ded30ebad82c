-- No two words of a list are alike, by one test that the checker computes; and what is read is a word.
use Rattle.std.proofs.Common.{◌≡◌, ℕ, suc, ◌+◌, ◌-◌, ◌<◌, ◌≤◌, Bool, true, false, T, eqb, List, [], ◌∷◌, length, get_or, drop, Some, None, Option, sym, ap, ◌∙◌, inl, inr, eqb→eq, slice_index, arith}
use Rattle.std.proofs.Math.Seq.{drop-cons}
use Rattle.std.proofs.lemmas.List.{drop_all}
use Rattle.std.proofs.lemmas.Bool.{and_parts, cases_Bool, cond-true, cond-false, eqb-true}
use Rattle.std.proofs.lemmas.Option.{none-some, same_Some}
use Rattle.points.specs.Tests.{upto}
use Rattle.points.proofs.Finite.{upto_at}
use Rattle.kinds.specs.Words.{goes_on, is, place_from, read, Unambiguous, Named}

-- the answer is this code
abbrev pub tells : Option ℕ → ℕ → Bool
tells None c = false
tells (Some d) c = eqb d c

tells_eq : (o : Option ℕ) (c : ℕ) → T (tells o c) → o ≡ Some c
tells_eq None c t = absurd t
tells_eq (Some d) c t = ap Some (eqb→eq d c t)

pub unambiguous : (words : List (List ℕ)) → T (upto (length words) (λ c. tells (read words (get_or words c [])) c)) → Unambiguous words
unambiguous words test c h = tells_eq (read words (get_or words c [])) c (upto_at (length words) (λ c. tells (read words (get_or words c [])) c) test c h)

-- what is left of a text from place i on, where the bytes of a word go on there to its end
goes_on_same : (text : List ℕ) (i : ℕ) (word : List ℕ) → i + length word ≡ length text → goes_on text i word ≡ true → drop i text ≡ word
goes_on_same text i [] e h = drop_all i text (omega (arith, e))
goes_on_same text i (b ∷ word) e h =
    let p = and_parts (eqb (slice_index text i) b) (goes_on text (suc i) word) h in
    drop-cons text i 0 (omega (arith, e)) ∙ ap (λ x. x ∷ drop (suc i) text) (eqb-true (slice_index text i) b p.0)
    ∙ ap (λ xs. b ∷ xs) (goes_on_same text (suc i) word (omega (arith, e)) p.1)

is_same : (text word : List ℕ) → is text word ≡ true → text ≡ word
is_same text word h =
    let p = and_parts (eqb (length text) (length word)) (goes_on text 0 word) h in
    let same : length text ≡ length word = eqb-true (length text) (length word) p.0 in
    goes_on_same text 0 word (omega (arith, same)) p.1

-- a text that is read, from place k on, is the word at its place
read_from : (k : ℕ) (words : List (List ℕ)) (text : List ℕ) (c : ℕ) → place_from k words text ≡ Some c → (k ≤ c) × (c - k < length words) × (text ≡ get_or words (c - k) [])
read_from k [] text c h = absurd (none-some c h)
read_from k (word ∷ words) text c h = elim (cases_Bool (is text word)) [
  | inl same ↦ (let here : k ≡ c = same_Some k c (sym (cond-true (is text word) (Some k) (place_from (suc k) words text) same) ∙ h) in
      let none : 0 ≡ c - k = omega (arith, here) in
      (omega (arith, here), omega (arith, none), is_same text word same ∙ ap (λ n. get_or (word ∷ words) n []) none))
  | inr other ↦ (let (up, inside, is_that) = read_from (suc k) words text c (sym (cond-false (is text word) (Some k) (place_from (suc k) words text) other) ∙ h) in
      let next : suc (c - suc k) ≡ c - k = omega (arith, up) in
      (omega (arith, up), omega (arith, inside, next), is_that ∙ ap (λ n. get_or (word ∷ words) n []) next))
]

pub named : (words : List (List ℕ)) → Unambiguous words → Named words
named words one text c = (
  (λ h. let (up, inside, is_that) = read_from 0 words text c h in
      let first : c - 0 ≡ c = omega arith in
      (omega (arith, inside), is_that ∙ ap (λ n. get_or words n []) first)),
  λ h. ap (read words) h.1 ∙ one c h.0,
)
