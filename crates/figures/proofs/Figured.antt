-- The table of figures, derived from the definitions.
use Rattle.std.proofs.Common.{◌≡◌, ℕ, ◌<◌, Bool, true, false, cond, ◌&&◌, T, eqb, ltb, List, [], ◌∷◌, map, sym, refl, ap, ◌∙◌, subst, inl, inr}
use Prim.Native.String.{String}
use Rattle.std.proofs.lemmas.Bool.{cases_lt, ltb-true, eqb-true, eq-eqb, both_ways, cases_Bool}
use Rattle.points.specs.Ranks.{Has}
use Rattle.points.specs.Tests.{upto}
use Rattle.points.proofs.Finite.{both_left, both_right, alike, alike_eq, true_from, upto_at}
use Rattle.kinds.specs.Meaning.{Meaning}
use Rattle.kinds.specs.Layouts.{Layout, fit}
use Rattle.moments.specs.Moments.{moment_words, moments, line}
use Rattle.dwellings.specs.Dwellings.{dwelling_words, dwellings, compass}
use Rattle.kinds.proofs.Framed.{Frame, composes, fit_beyond}
use Rattle.moments.specs.Timed.{timed}
use Rattle.dwellings.specs.Charted.{charted}
use Rattle.spells.specs.Spells.{spells, timeline, spell_words}
use Rattle.spells.specs.Spelled.{spelled}
use Rattle.rules.specs.Steps.{searched}
use Rattle.figures.specs.Small.{moments_by_weight, moments_sworn_first, household, lone, sworn_pair}
use Rattle.figures.proofs.Searched.{finished_after}
use Rattle.figures.specs.Figures.{code, Composed, Words, Figures}

-- whether a number stands in the list, and whether all numbers of the list are below b
abbrev among : ℕ → List ℕ → Bool
among e [] = false
among e (x ∷ xs) = cond (eqb e x) true (among e xs)

abbrev below : ℕ → List ℕ → Bool
below b [] = true
below b (x ∷ xs) = ltb x b && below b xs

has_among : (e : ℕ) (xs : List ℕ) → among e xs ≡ true → Has e xs
has_among e [] h = absurd (subst T (sym h) tt)
has_among e (x ∷ xs) h = elim (cases_Bool (eqb e x)) [
  | inl p ↦ inl (eqb-true e x p)
  | inr p ↦ inr (has_among e xs (subst (λ (b : Bool). cond b true (among e xs) ≡ true) p h))
]

among_has : (e : ℕ) (xs : List ℕ) → Has e xs → among e xs ≡ true
among_has e [] h = absurd h
among_has e (x ∷ xs) (inl p) = ap (λ (b : Bool). cond b true (among e xs)) (eq-eqb e x p)
among_has e (x ∷ xs) (inr h) = elim (cases_Bool (eqb e x)) [
  | inl p ↦ ap (λ (b : Bool). cond b true (among e xs)) p
  | inr p ↦ subst (λ (b : Bool). cond b true (among e xs) ≡ true) (sym p) (among_has e xs h)
]

below_has : (b e : ℕ) (xs : List ℕ) → T (below b xs) → Has e xs → e < b
below_has b e [] t h = absurd h
below_has b e (x ∷ xs) t (inl p) = subst (λ (k : ℕ). k < b) (sym p) (ltb-true x b (true_from (ltb x b) (both_left (ltb x b) (below b xs) t)))
below_has b e (x ∷ xs) t (inr h) = below_has b e xs (both_right (ltb x b) (below b xs) t) h

-- One proof for every line on compositions: the test of the layout over all codes, which the checker computes.
abbrev right_line : Layout → ℕ → ℕ → List ℕ → Bool
right_line l c d these = below l.codes these && upto l.codes (λ e. alike (fit l c d e) (among e these))

pub composed : {V : Type 0} (m : Meaning V) (l : Layout) → Frame m l → (words : List (List ℕ)) (first second : String) (these : List String) →
    T (right_line l (code words first) (code words second) (map (code words) these)) → Composed m words first second these
composed m l f words first second these test e =
    let c : ℕ = code words first in
    let d : ℕ = code words second in
    let es : List ℕ = map (code words) these in
    let small : T (below l.codes es) = both_left (below l.codes es) (upto l.codes (λ e. alike (fit l c d e) (among e es))) test in
    let same : (e : ℕ) → e < l.codes → fit l c d e ≡ among e es =
    λ e h. alike_eq (fit l c d e) (among e es) (upto_at l.codes (λ e. alike (fit l c d e) (among e es)) (both_right (below l.codes es) (upto l.codes (λ e. alike (fit l c d e) (among e es))) test) e h) in (
      λ h. elim (cases_lt e l.codes) [
        | inl k ↦ has_among e es (sym (same e k) ∙ (composes m l f c d e).1 h)
        | inr k ↦ absurd (both_ways (fit l c d e) (fit_beyond l c d e k) ((composes m l f c d e).1 h))
      ],
      λ h. (composes m l f c d e).0 (same e (below_has l.codes e es small h) ∙ among_has e es h),
    )

-- one line after another
infixr 5 ◌▸◌
◌▸◌ : {A B : Type 0} → A → B → A × B
a ▸ b = (a, b)

pub figures : Figures
unfolding searched
figures =
    composed moments line timed moment_words "<" "<" ("<" ∷ []) tt
    ▸ composed moments line timed moment_words "<" ">" ("=" ∷ "<" ∷ ">" ∷ []) tt
    ▸ composed spells timeline spelled spell_words "p" "p" ("p" ∷ []) tt
    ▸ composed spells timeline spelled spell_words "m" "m" ("p" ∷ []) tt
    ▸ composed spells timeline spelled spell_words "o" "o" ("p" ∷ "m" ∷ "o" ∷ []) tt
    ▸ composed spells timeline spelled spell_words "s" "f" ("d" ∷ []) tt
    ▸ composed dwellings compass charted dwelling_words "n" "e" ("ne" ∷ []) tt
    ▸ composed dwellings compass charted dwelling_words "n" "s" ("eq" ∷ "n" ∷ "s" ∷ []) tt
    ▸ record { first = refl; second = refl }
    ▸ record { solved = record { steps = finished_after moments_by_weight 3 household 18 tt; costs = refl; gives = refl }; floor = refl; first = refl; second = refl }
    ▸ record { steps = finished_after moments_by_weight 1 lone 0 tt; costs = refl; gives = refl }
    ▸ record { steps = finished_after moments_sworn_first 2 sworn_pair 2 tt; costs = refl; gives = refl }
    ▸ tt

pub words : Words
words = record {
  equal = refl;
  earlier = refl;
  later = refl;
  equals = refl;
  before = refl;
  after = refl;
  meets = refl;
  met_by = refl;
  overlaps = refl;
  overlapped_by = refl;
  starts = refl;
  started_by = refl;
  during = refl;
  contains = refl;
  finishes = refl;
  finished_by = refl;
  same = refl;
  north = refl;
  north_east = refl;
  east = refl;
  south_east = refl;
  south = refl;
  south_west = refl;
  west = refl;
  north_west = refl;
}
