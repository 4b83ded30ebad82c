-- Scores that lack nothing: what is known of a count that grows where something does not hold.
use Rattle.std.proofs.Common.{◌≡◌, ℕ, ◌+◌, ◌<◌, Bool, true, false, List, Decides, ◌↔◌, get_or, length, sym, refl, subst, inl, inr, arith}
use Rattle.std.specs.List.{All}
use Rattle.std.proofs.lemmas.List.{get_or_default}
use Rattle.std.proofs.lemmas.Bool.{cases_order}
use Rattle.literature.specs.Scores.{score_after}
use Rattle.literature.specs.declared.score.Score.{Score}

-- the later count is 0 exactly if the earlier one is and P holds
abbrev pub Counts : ℕ → ℕ → Type 0 → Type 0
Counts before after P = (after ≡ 0) ↔ ((before ≡ 0) × P)

-- one that is decided is counted in
pub counts_one : (old new : Score) (stands : Bool) (P : Type 0) → Decides stands P → new ≡ score_after old stands → Counts old.lacking new.lacking P
counts_one old new true P d is = subst (λ (s : Score). Counts old.lacking s.lacking P) (sym is) (λ zero. (zero, d.0 refl), λ both. both.0)
counts_one old new false P d is =
    subst (λ (s : Score). Counts old.lacking s.lacking P) (sym is)
    (λ zero. absurd (omega (arith)), λ both. let no : false ≡ true = d.1 both.1 in cc)

-- one more is counted in
pub counts_more : (a b c : ℕ) (P : ℕ → Type 0) (n : ℕ) → Counts a b ((k : ℕ) → k < n → P k) → Counts b c (P n) → Counts a c ((k : ℕ) → k < n + 1 → P k)
counts_more a b c P n before here = (forth, back)
  where
    each : ((k : ℕ) → k < n → P k) → P n → (k : ℕ) → k < n + 1 → P k
    each below at k l = elim (cases_order k n) [
      | inl same ↦ subst P (sym same) at
      | inr (inl less) ↦ below k less
      | inr (inr more) ↦ absurd (omega arith)
    ]

    forth : c ≡ 0 → (a ≡ 0) × ((k : ℕ) → k < n + 1 → P k)
    forth zero = let h = here.0 zero in let b = before.0 h.0 in (b.0, each b.1 h.1)

    back : (a ≡ 0) × ((k : ℕ) → k < n + 1 → P k) → c ≡ 0
    back both = here.1 (before.1 (both.0, λ k l. both.1 k (omega arith)), both.1 n (omega arith))

-- the same, of what is said otherwise
pub counts_as : (a b : ℕ) {P Q : Type 0} → (P → Q) → (Q → P) → Counts a b P → Counts a b Q
counts_as a b to from counts = (λ zero. let h = counts.0 zero in (h.0, to h.1), λ both. counts.1 (both.0, from both.1))

-- one more item of a list is counted in
pub counts_item : {A : Type 0} (P : A → Type 0) (xs : List A) (n : ℕ) (d : A) (a b c : ℕ) → n < length xs →
    Counts a b ((k : ℕ) → k < n → (x : A) → P (get_or xs k x)) → Counts b c (P (get_or xs n d)) → Counts a c ((k : ℕ) → k < n + 1 → (x : A) → P (get_or xs k x))
counts_item {A} P xs n d a b c within before here =
    counts_more a b c (λ k. (x : A) → P (get_or xs k x)) n before
    (counts_as b c (λ p x. subst P (get_or_default xs n d x within) p) (λ all. all d) here)

-- all items of a list are counted in
pub counts_all : {A : Type 0} (P : A → Type 0) (xs : List A) (n lacking differing : ℕ) → n ≡ length xs → differing ≡ lacking →
    Counts 0 lacking ((k : ℕ) → k < n → (x : A) → P (get_or xs k x)) → (differing ≡ 0) ↔ All P xs
counts_all P xs n lacking differing is same counts = (
  λ zero k d l. (counts.0 (omega arith)).1 k (omega arith) d,
  λ all. omega (arith, same, counts.1 (refl, λ k l d. all k d (omega arith))),
)
