-- Sets of one base relation, and unions of sets of base relations, as bits.
use Rattle.std.proofs.Common.{◌≡◌, ℕ, ◌^◌, ◌<◌, ◌≤◌, true, Decides, Option, None, Some, MatchOption, Bor, List, [], map, ◌∷◌, ◌++◌, sym, refl, ◌∙◌, subst, inl, inr, arith, zero-add}
use Rattle.std.specs.List.{All, Contains, FoldsTo, range_with_len}
use Rattle.std.proofs.lemmas.List.{map-append}
use Rattle.std.specs.Iterator.{Drains}
use Rattle.std.specs.Fn.{Called}
use denote.Param.Members.{Mut}
use Rattle.std.proofs.lemmas.Iterator.{YieldsList}
use Rattle.std.proofs.lemmas.Fn.{fold_over}
use Rattle.std.proofs.lemmas.List.Elements.{All-contains, All-from_get_or, Contains-append_left, Contains-push, Contains-push_cases}
use Rattle.std.proofs.lemmas.List.FromFn.{get_or-range_with_len, length-range_with_len}
use lib.Bits.{bit_or}
use Rattle.std.proofs.lemmas.Bool.{both_ways, cases_lt, eqb-true, eq-eqb, or_cases, or_left, or_right}
use Rattle.points.specs.Sets.{has}
use Rattle.points.proofs.United.{has_none, has_single, has_union}
use Rattle.points.proofs.Tabled.{has_beyond}
use Rattle.points.proofs.Passing.{passing, passes, is_passing, in_range}
use Rattle.literature.specs.Relations.{Single, Union, UnionOf}

never : (c : ℕ) → c < 0 → ⊥
never c l = omega arith

-- the set of one base relation
pub single_bit : (c : ℕ) → c < 64 → Single c (2 ^ c)
single_bit c small e = (
  λ p. (eqb-true e c (sym (has_single c e) ∙ p), small),
  λ p. has_single c e ∙ eq-eqb e c p.0,
)

pub over_none : {A : Type 0} (Gives : A → ℕ → Type 0) → UnionOf Gives [] 0
over_none Gives = (λ e p. absurd (both_ways (has 0 e) (has_none e) p), λ c i. absurd (never i.0 i.1))

pub over_more : {A : Type 0} (Gives : A → ℕ → Type 0) (items : List A) (set : ℕ) (n : A) (more : ℕ) → UnionOf Gives items set → Gives n more →
    UnionOf Gives (items ++ n ∷ []) (bit_or set more)
over_more {A} Gives items set n more old new = (forth, back)
  where
    forth : (e : ℕ) → has (bit_or set more) e ≡ true → (c : A) × Contains (items ++ n ∷ []) c × (given : ℕ) × Gives c given × (has given e ≡ true)
    forth e p = elim (or_cases (has set e) (has more e) (sym (has_union set more e) ∙ p)) [
      | inl q ↦ (let (c, i, given, gives, h) = old.0 e q in (c, Contains-append_left items (n ∷ []) c i, given, gives, h))
      | inr q ↦ (n, Contains-push items n, more, new, q)
    ]

    wider : (given : ℕ) → ((e : ℕ) → has given e ≡ true → has set e ≡ true) → (e : ℕ) → has given e ≡ true → has (bit_or set more) e ≡ true
    wider given within e h = has_union set more e ∙ or_left (has set e) (has more e) (within e h)

    here : (c : A) → n ≡ c → (given : ℕ) × Gives c given × ((e : ℕ) → has given e ≡ true → has (bit_or set more) e ≡ true)
    here c same = (more, subst (λ (k : A). Gives k more) same new, λ e h. has_union set more e ∙ or_right (has set e) (has more e) h)

    back : (c : A) → Contains (items ++ n ∷ []) c → (given : ℕ) × Gives c given × ((e : ℕ) → has given e ≡ true → has (bit_or set more) e ≡ true)
    back c i = elim (Contains-push_cases items n c i) [
      | inl before ↦ (let (given, gives, within) = old.1 c before in (given, gives, wider given within))
      | inr same ↦ here c same
    ]

-- the same, where the items are what references point to
pub over_push : {A : Type 0} (Gives : A → ℕ → Type 0) (items : List (Bor A)) (set : ℕ) (x : Bor A) (more : ℕ) → UnionOf Gives (map (λ y. y.now) items) set →
    Gives x.now more → UnionOf Gives (map (λ y. y.now) (items ++ x ∷ [])) (bit_or set more)
over_push Gives items set x more old new =
    subst (λ xs. UnionOf Gives xs (bit_or set more)) (sym (map-append (λ y. y.now) items (x ∷ [])))
    (over_more Gives (map (λ y. y.now) items) set x.now more old new)

-- the union of sets that are given otherwise too
pub over_weaker : {A : Type 0} (Gives Gives' : A → ℕ → Type 0) → ((x : A) (given : ℕ) → Gives x given → Gives' x given) → (items : List A) (set : ℕ) →
    UnionOf Gives items set → UnionOf Gives' items set
over_weaker Gives Gives' so items set u = (
  λ e p. let (x, i, given, gives, h) = u.0 e p in (x, i, given, so x given gives, h),
  λ x i. let (given, gives, within) = u.1 x i in (given, so x given gives, within),
)

-- what an option says, said otherwise
pub option_weaker : {A : Type 0} {N N' : Type 0} {P P' : A → Type 0} → (r : Option A) → (N → N') → ((x : A) → P x → P' x) → MatchOption r N P → MatchOption r N' P'
option_weaker None n p h = n h
option_weaker (Some x) n p h = p x h

-- a fold whose closure unites what it has with a set that is given at the item
pub over_fold : {S F : Type 0} {steps : S → Option ℕ → S → Type 0} {g : Mut F (ℕ × (ℕ × Unit {0})) ℕ} {f : F} {s : S} {r : ℕ} →
    (xs : List ℕ) × (f' : F) × Drains steps s xs × FoldsTo {P = F × ℕ} (λ p x q. Called g p.0 (p.1, (x, tt)) q.1 q.0) (f, 0) xs (f', r) →
    (Gives : ℕ → ℕ → Type 0) (items : List ℕ) → YieldsList steps (λ x. x) s items →
    ((a n b : ℕ) (f' : F) → Called g f (a, (n, tt)) b f' → (f' ≡ f) × ((given : ℕ) × Gives n given × (b ≡ bit_or a given))) →
    UnionOf Gives items r
over_fold {S} {F} {steps} {g} {f} {s} {r} ran Gives items yields calls =
    fold_over steps (λ x. x) g (UnionOf Gives) f step s items 0 r yields.runs (over_none Gives) ran
  where
    step : (ys : List ℕ) (a x b : ℕ) (f' : F) → UnionOf Gives ys a → Called g f (a, (x, tt)) b f' → UnionOf Gives (ys ++ x ∷ []) b × (f' ≡ f)
    step ys a x b f' over called =
        let (same, (given, gives, is)) = calls a x b f' called in
        (subst (UnionOf Gives (ys ++ x ∷ [])) (sym is) (over_more Gives ys a x given over gives), same)

-- a member of a set of 64 bits is below 64
member_below : (set c : ℕ) → set < 2 ^ 64 → has set c ≡ true → c < 64
member_below set c small p = elim (cases_lt c 64) [
  | inl l ↦ l
  | inr l ↦ absurd (both_ways (has set c) (has_beyond set 64 c small l) p)
]

-- the members of a set of 64 bits, in the order of their codes
abbrev pub members : ℕ → List ℕ
members set = passing 64 (has set)

-- the union over the list of the members is that over the set
pub over_members : (Gives : ℕ → ℕ → Type 0) (items set : ℕ) → items < 2 ^ 64 → UnionOf Gives (members items) set → Union items Gives set
over_members Gives items set small over = (
  λ e p. let (c, i, given, gives, h) = over.0 e p in (c, passes 64 (has items) c i, given, gives, h),
  λ c h. over.1 c (is_passing 64 (has items) c (member_below items c small h) h),
)

-- the union of the sets of one code over the codes of a kind, which has at most 64
pub over_codes : (codes set : ℕ) → codes ≤ 64 → UnionOf Single (range_with_len 0 codes) set → (e : ℕ) → Decides (has set e) (e < codes)
over_codes codes set few over e = (
  λ p. let (c, i, given, one, h) = over.0 e p in subst (λ (k : ℕ). k < codes) (sym ((one e).0 h).0) (All-contains (λ k. k < codes) (range_with_len 0 codes) c all i),
  λ l. let (given, one, within) = over.1 e (in_range codes e l) in within e ((one e).1 (refl, omega (arith, l, few))),
)
  where
    all : All (λ k. k < codes) (range_with_len 0 codes)
    all = All-from_get_or (λ k. k < codes) (range_with_len 0 codes) 0 (λ i l. let below : i < codes = subst (λ (n : ℕ). i < n) (length-range_with_len 0 codes) l in
        subst (λ (k : ℕ). k < codes) (sym (get_or-range_with_len 0 codes i 0 below ∙ zero-add i)) below)
