-- What is read stands for one set: two sets for which an entry stands have the same members.
use Rattle.std.proofs.Common.{◌≡◌, ℕ, ◌<◌, true, Option, None, Some, MatchOption, Decides, List, ◌∙◌, subst}
use Rattle.points.specs.Sets.{has}
use Rattle.literature.specs.declared.published.Letter.{Letter}
use Rattle.literature.specs.Relations.{UnionOf}
use Rattle.literature.specs.Letters.{Entered, Named, PartNamed, WordNamed, meant, parts}

-- the second set has all that the first has
abbrev Within : ℕ → ℕ → Type 0
Within set set' = (e : ℕ) → has set e ≡ true → has set' e ≡ true

within_union : {A : Type 0} (Gives : A → ℕ → Type 0) → ((x : A) (one one' : ℕ) → Gives x one → Gives x one' → Within one one') → (items : List A) (set set' : ℕ) →
    UnionOf Gives items set → UnionOf Gives items set' → Within set set'
within_union Gives same items set set' u v e p =
    let (x, i, given, gives, h) = u.0 e p in
    let (given', gives', within) = v.1 x i in
    within e (same x given given' gives gives' e h)

within_word : (words : List (List ℕ)) (word : List ℕ) (one one' : ℕ) → WordNamed words word one → WordNamed words word one' → Within one one'
within_word words word one one' (c, is, single) (c', is', single') e h =
    let same : c ≡ c' = cc in
    let (at, small) = (single e).0 h in
    (single' e).1 (at ∙ same, subst (λ (n : ℕ). n < 64) same small)

within_named : (words : List (List ℕ)) (text : List ℕ) (set set' : ℕ) → Named words text set → Named words text set' → Within set set'
within_named words text = within_union (WordNamed words) (within_word words) (parts text)

within_part : (words : List (List ℕ)) (letters : List Letter) (part : List ℕ) (set set' : ℕ) → PartNamed words letters part set → PartNamed words letters part set' →
    Within set set'
within_part words letters part set set' (text, is, named) (text', is', named') =
    let same : text ≡ text' = cc in
    within_named words text' set set' (subst (λ (t : List ℕ). Named words t set) same named) named'

within_option : {N N' R : Type 0} {P P' : List ℕ → Type 0} (o : Option (List ℕ)) → (N → N' → R) → ((t : List ℕ) → P t → P' t → R) → MatchOption o N P → MatchOption o N' P' → R
within_option None n p a b = n a b
within_option (Some t) n p a b = p t a b

within_entered : (words : List (List ℕ)) (letters : List Letter) (entry : List ℕ) (set set' : ℕ) → Entered words letters entry set → Entered words letters entry set' →
    Within set set'
within_entered words letters entry set set' =
    within_option (meant letters entry) (within_union (PartNamed words letters) (within_part words letters) (parts entry) set set') (λ text. within_named words text set set')

-- what decides the members of a set for which an entry stands decides those of each such set
pub entered_decided : {P : ℕ → Type 0} → (words : List (List ℕ)) (letters : List Letter) (entry : List ℕ) (set set' : ℕ) → Entered words letters entry set →
    Entered words letters entry set' → ((e : ℕ) → Decides (has set e) (P e)) → (e : ℕ) → Decides (has set' e) (P e)
entered_decided words letters entry set set' is is' decided e = (
  λ p. (decided e).0 (within_entered words letters entry set' set is' is e p),
  λ f. within_entered words letters entry set set' is is' e ((decided e).1 f),
)
