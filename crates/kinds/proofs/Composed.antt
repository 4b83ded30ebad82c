-- The set of the codes that fit, gathered one by one.
use Rattle.std.proofs.Common.{◌≡◌, ℕ, ◌+◌, ◌-◌, ◌*◌, ◌%◌, ◌^◌, ◌<◌, ◌≤◌, Bool, true, Decides, Option, List, [], ◌∷◌, ◌++◌, sym, ap, ◌∙◌, subst, inl, inr, arith, pow-add}
use Rattle.std.proofs.Math.Nat.{mul-mod_left}
use Rattle.std.specs.List.{Contains, FoldsTo}
use Rattle.std.specs.Iterator.{Drains}
use Rattle.std.specs.Fn.{Called}
use denote.Param.Members.{Mut}
use lib.Bits.{bit_or}
use Rattle.std.proofs.lemmas.Nat.{one_shl}
use Rattle.std.proofs.lemmas.Iterator.{YieldsList}
use Rattle.std.proofs.lemmas.Fn.{fold_over}
use Rattle.std.proofs.lemmas.List.Elements.{Contains-append_left, Contains-push, Contains-push_cases}
use Rattle.std.proofs.lemmas.Bool.{both_ways, cases_lt, eqb-true, eq-eqb, or_cases, or_left, or_right}
use Rattle.points.specs.Sets.{has}
use Rattle.points.proofs.United.{has_none, has_single, has_union}
use Rattle.points.proofs.Passing.{passing, passes, is_passing}
use Rattle.kinds.specs.Meaning.{Meaning, Laws, Fits}
use Rattle.kinds.specs.Composition.{Composition}

-- the set has the numbers of the list that are below 64, and no others
abbrev pub Collected : List ℕ → ℕ → Type 0
Collected items set = (e : ℕ) → (has set e ≡ true → Contains items e) × (e < 64 → Contains items e → has set e ≡ true)

never : (c : ℕ) → c < 0 → ⊥
never c l = omega arith

none : Collected [] 0
none e = (λ p. absurd (both_ways (has 0 e) (has_none e) p), λ l i. absurd (never i.0 i.1))

-- the bit of a number from 64 on falls out of the word
bit_beyond : (x : ℕ) → 64 ≤ x → (1 * 2 ^ x) % 2 ^ 64 ≡ 0
bit_beyond x l =
    let split : x ≡ (x - 64) + 64 = omega arith in
    let power : 2 ^ x ≡ 2 ^ (x - 64) * 2 ^ 64 = ap (λ (n : ℕ). 2 ^ n) split ∙ pow-add 2 (x - 64) 64 in
    let one_times : 1 * 2 ^ x ≡ 2 ^ x = omega arith in
    ap (λ (n : ℕ). n % 2 ^ 64) (one_times ∙ power) ∙ mul-mod_left (2 ^ (x - 64)) (2 ^ 64)

-- one number more
more : (items : List ℕ) (set x : ℕ) → Collected items set → Collected (items ++ x ∷ []) (bit_or set ((1 * 2 ^ x) % 2 ^ 64))
more items set x old e = (forth, back)
  where
    bit : ℕ
    bit = (1 * 2 ^ x) % 2 ^ 64

    bit_is : has bit e ≡ true → x ≡ e
    bit_is p = elim (cases_lt x 64) [
      | inl l ↦ sym (eqb-true e x (sym (has_single x e) ∙ subst (λ (k : ℕ). has k e ≡ true) (one_shl x 64 l) p))
      | inr l ↦ absurd (both_ways (has 0 e) (has_none e) (subst (λ (k : ℕ). has k e ≡ true) (bit_beyond x l) p))
    ]

    forth : has (bit_or set bit) e ≡ true → Contains (items ++ x ∷ []) e
    forth p = elim (or_cases (has set e) (has bit e) (sym (has_union set bit e) ∙ p)) [
      | inl q ↦ Contains-append_left items (x ∷ []) e ((old e).0 q)
      | inr q ↦ subst (Contains (items ++ x ∷ [])) (bit_is q) (Contains-push items x)
    ]

    here : x ≡ e → e < 64 → has bit e ≡ true
    here same l = subst (λ (k : ℕ). has k e ≡ true) (sym (one_shl x 64 (subst (λ (k : ℕ). k < 64) (sym same) l))) (has_single x e ∙ eq-eqb e x (sym same))

    back : e < 64 → Contains (items ++ x ∷ []) e → has (bit_or set bit) e ≡ true
    back l i = elim (Contains-push_cases items x e i) [
      | inl before ↦ has_union set bit e ∙ or_left (has set e) (has bit e) ((old e).1 l before)
      | inr same ↦ has_union set bit e ∙ or_right (has set e) (has bit e) (here same l)
    ]

-- a fold whose closure adds the bit of the item
pub collect : {S F : Type 0} {steps : S → Option ℕ → S → Type 0} {g : Mut F (ℕ × (ℕ × Unit {0})) ℕ} {f : F} {s : S} {r : ℕ} →
    (xs : List ℕ) × (f' : F) × Drains steps s xs × FoldsTo {P = F × ℕ} (λ p x q. Called g p.0 (p.1, (x, tt)) q.1 q.0) (f, 0) xs (f', r) →
    (items : List ℕ) → YieldsList steps (λ x. x) s items →
    ((a n b : ℕ) (f' : F) → Called g f (a, (n, tt)) b f' → (f' ≡ f) × (b ≡ bit_or a ((1 * 2 ^ n) % 2 ^ 64))) →
    Collected items r
collect {S} {F} {steps} {g} {f} {s} {r} ran items yields calls =
    fold_over steps (λ x. x) g Collected f step s items 0 r yields.runs none ran
  where
    step : (ys : List ℕ) (a x b : ℕ) (f' : F) → Collected ys a → Called g f (a, (x, tt)) b f' → Collected (ys ++ x ∷ []) b × (f' ≡ f)
    step ys a x b f' over called =
        let (same, is) = calls a x b f' called in
        (subst (Collected (ys ++ x ∷ [])) (sym is) (more ys a x over), same)

-- a code that fits is one of at most 64
fits_below : {V : Type 0} (m : Meaning V) → Laws m → (c d e : ℕ) → Fits m c d e → e < 64
fits_below m laws c d e h =
    let one = laws.one h.u h.w h.u_lawful h.w_lawful in
    let is = one.only e h.across in
    let below = one.below in
    let few = laws.few_codes in
    omega arith

pub composed : {V : Type 0} (m : Meaning V) → Laws m → (fit : ℕ → ℕ → ℕ → Bool) → ((c d e : ℕ) → Decides (fit c d e) (Fits m c d e)) →
    (c d set : ℕ) → Collected (passing 64 (fit c d)) set → Composition m c d set
composed m laws fit decides c d set all e = (
  λ p. (decides c d e).0 (passes 64 (fit c d) e ((all e).0 p)),
  λ h. let small = fits_below m laws c d e h in (all e).1 small (is_passing 64 (fit c d) e small ((decides c d e).1 h)),
)
