-- Which base relations were met: the members of a set that grows by one relation with each item.
use Rattle.std.proofs.Common.{◌≡◌, ℕ, ◌<◌, ◌+◌, ◌≤◌, ◌⊎◌, true, Some, Decides, List, length, get_or, sym, ◌∙◌, subst, inl, inr, arith}
use Rattle.std.proofs.lemmas.Bool.{cases_order, or_cases, or_left, or_right}
use Rattle.std.proofs.lemmas.List.{get_or_default}
use Rattle.std.proofs.lemmas.Option.{option_and_then_some, same_Some}
use lib.Bits.{bit_or}
use Rattle.points.specs.Sets.{has}
use Rattle.points.proofs.United.{has_union}
use Rattle.kinds.specs.Meaning.{Meaning}
use Rattle.kinds.specs.Words.{Named, read}
use Rattle.literature.specs.Letters.{meant, meant_code}
use Rattle.literature.specs.Published.{Complete}
use Rattle.literature.specs.Relations.{Single, Whole}
use Rattle.literature.specs.declared.published.Letter.{Letter}

-- P holds of one of the first n elements
abbrev pub AnyBelow : {X : Type 0} → (X → Type 0) → List X → ℕ → Type 0
AnyBelow {X} P xs n = (k : ℕ) × (x : X) × (k < n) × (get_or xs k x ≡ x) × P x

-- the same of one more element
pub any_earlier : {X : Type 0} (P : X → Type 0) (xs : List X) (n : ℕ) → AnyBelow P xs n → AnyBelow P xs (n + 1)
any_earlier P xs n (k, x, l, is, p) = (k, x, omega (arith, l), is, p)

-- P holds of the element after them
pub any_here : {X : Type 0} (P : X → Type 0) (xs : List X) (n : ℕ) (d : X) → n < length xs → P (get_or xs n d) → AnyBelow P xs (n + 1)
any_here P xs n d l p = (n, get_or xs n d, omega arith, get_or_default xs n (get_or xs n d) d l, p)

-- P holds of one of the first n, or of the one after them
pub any_cases : {X : Type 0} (P : X → Type 0) (xs : List X) (n : ℕ) (d : X) → n < length xs → AnyBelow P xs (n + 1) → AnyBelow P xs n ⊎ P (get_or xs n d)
any_cases {X} P xs n d within (k, x, l, is, p) = elim (cases_order k n) [
  | inl same ↦ (let at : get_or xs n x ≡ x = subst (λ (i : ℕ). get_or xs i x ≡ x) same is in inr (subst P (sym (get_or_default xs n d x within ∙ at)) p))
  | inr (inl less) ↦ inl (k, x, less, is, p)
  | inr (inr more) ↦ absurd (omega (arith, l, more))
]

-- the union of two decided sets
pub decided_union : {P Q R : ℕ → Type 0} (a b : ℕ) → ((e : ℕ) → Decides (has a e) (P e)) → ((e : ℕ) → Decides (has b e) (Q e)) →
    ((e : ℕ) → P e → R e) → ((e : ℕ) → Q e → R e) → ((e : ℕ) → R e → P e ⊎ Q e) → (e : ℕ) → Decides (has (bit_or a b) e) (R e)
decided_union {P} {Q} {R} a b p q first second cases e = (forth, back)
  where
    forth : has (bit_or a b) e ≡ true → R e
    forth h = elim (or_cases (has a e) (has b e) (sym (has_union a b e) ∙ h)) [
      | inl x ↦ first e ((p e).0 x)
      | inr y ↦ second e ((q e).0 y)
    ]

    back : R e → has (bit_or a b) e ≡ true
    back r = elim (cases e r) [
      | inl x ↦ has_union a b e ∙ or_left (has a e) (has b e) ((p e).1 x)
      | inr y ↦ has_union a b e ∙ or_right (has a e) (has b e) ((q e).1 y)
    ]

module _ {X V : Type 0} (m : Meaning V) (words : List (List ℕ)) (letters : List Letter) (before : ℕ) (letter_of : X → List ℕ) (items : List X) where
  -- the letter of the item stands for e
  abbrev pub StandsFor : ℕ → X → Type 0
  StandsFor e x = meant_code words letters (letter_of x) ≡ Some e

  -- the set has those of the set before and those that the letters of the first n items stand for
  abbrev pub MetBelow : ℕ → ℕ → Type 0
  MetBelow n set = (e : ℕ) → Decides (has set e) ((has before e ≡ true) ⊎ AnyBelow (StandsFor e) items n)

  -- what a letter stands for is one of the codes
  below_codes : Named words → length words ≡ m.codes → (text : List ℕ) (c : ℕ) → meant_code words letters text ≡ Some c → c < m.codes
  below_codes named worded text c is =
      option_and_then_some (read words) (meant letters text) c is (λ word _ reads. subst (λ (n : ℕ). c < n) worded ((named word c).0 reads).0)

  -- one item more was met
  pub met_more : Named words → length words ≡ m.codes → m.codes ≤ 64 → (n r one set : ℕ) (d : X) → n < length items →
      StandsFor r (get_or items n d) → Single r one → MetBelow n set → MetBelow (n + 1) (bit_or set one)
  met_more named worded few n r one set d within is single met = decided_union set one met single earlier here cases
    where
      earlier : (e : ℕ) → (has before e ≡ true) ⊎ AnyBelow (StandsFor e) items n → (has before e ≡ true) ⊎ AnyBelow (StandsFor e) items (n + 1)
      earlier e (inl h) = inl h
      earlier e (inr any) = inr (any_earlier (StandsFor e) items n any)

      here : (e : ℕ) → (e ≡ r) × (r < 64) → (has before e ≡ true) ⊎ AnyBelow (StandsFor e) items (n + 1)
      here e (same, _) = inr (any_here (StandsFor e) items n d within (subst (λ (c : ℕ). StandsFor c (get_or items n d)) (sym same) is))

      last : (e : ℕ) → AnyBelow (StandsFor e) items n ⊎ StandsFor e (get_or items n d) →
          ((has before e ≡ true) ⊎ AnyBelow (StandsFor e) items n) ⊎ ((e ≡ r) × (r < 64))
      last e (inl any) = inl (inr any)
      last e (inr at) =
          let small = below_codes named worded (letter_of (get_or items n d)) r is in
          inr (same_Some e r (sym at ∙ is), omega (arith, small, few))

      cases : (e : ℕ) → (has before e ≡ true) ⊎ AnyBelow (StandsFor e) items (n + 1) → ((has before e ≡ true) ⊎ AnyBelow (StandsFor e) items n) ⊎ ((e ≡ r) × (r < 64))
      cases e (inl h) = inl (inl h)
      cases e (inr any) = last e (any_cases (StandsFor e) items n d within any)

  -- all were met
  pub met_all : (n set : ℕ) → n ≡ length items → MetBelow n set → Whole m set → Complete m words letters before letter_of items
  met_all n set is met whole c =
      let all : MetBelow (length items) set = subst (λ (k : ℕ). MetBelow k set) is met in
      (λ l. (all c).0 ((whole c).1 l), λ any. (whole c).0 ((all c).1 any))
