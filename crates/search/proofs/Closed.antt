-- What the facts of a closed sheet give: its rows are proper, its codes are below the number of codes, its pairs are few.
use Rattle.std.proofs.Common.{Option, Some, None, is_some, ◌≡◌, ℕ, zero, suc, ◌+◌, ◌-◌, ◌^◌, ◌<◌, ◌≤◌, Bool, true, not, ◌&&◌, ltb, leb, ◌⊎◌, List, [], ◌∷◌, ◌++◌, length, take, drop, set, replicate, vec_items, vec_capacity, Vec, sym, refl, ap, ◌∙◌, subst, inl, inr, eq-or-lt_of_le, pow-suc, mul-one, arith}
use Rattle.std.specs.Option.{ForSome}
use native.Mathlib.Nat.{pow-zero}
use Rattle.std.specs.declared.alloc.Global.{Global}
use Rattle.std.proofs.lemmas.Bool.{not-false, not-true, and_parts, and_from, ltb-true, lt-ltb, le-leb, lt-leb, leb-true}
use Rattle.rules.proofs.Elements.{All-append}
use Rattle.std.proofs.lemmas.List.{length-set, length-take-le, length-append, length-drop, get_or-append_right, get_or-drop, take_at, take_more_set, take-replicate}
use Rattle.points.specs.Scenarios.{pairs}
use Rattle.points.proofs.Placed.{pairs_up}
use Rattle.rules.specs.declared.row.Row.{Row}
use Rattle.rules.specs.Orders.{Below, index}
use Rattle.rules.proofs.Orders.{index_lt, below_zeros}
use Rattle.rules.proofs.Cursors.{index_second}
use Rattle.search.specs.Closed.{closes}
use Rattle.std.specs.Int.{is_in_range}
use Rattle.rules.specs.Properly.{proper}
use Rattle.search.proofs.Blanks.{blank_set, blank_zeros}
use Rattle.search.specs.Sheets.{all_below, Holds, number_at}

-- Up to 12 items have up to 66 pairs.
pub pairs_few : (n : ℕ) → n ≤ 12 → pairs n ≤ 66
pairs_few n h = elim (eq-or-lt_of_le h) [
  | inl e ↦ rw e (omega arith)
  | inr l ↦ omega (arith, pairs_up n 12 l)
]

-- The test that all codes are below b says that they are, and the other way round.
pub below_from : (b : ℕ) (a : List ℕ) → all_below b a ≡ true → Below b a
below_from b [] h = tt
below_from b (c ∷ a) h = let both = and_parts (ltb c b) (all_below b a) h in (ltb-true c b both.0, below_from b a both.1)

pub all_below_from : (b : ℕ) (a : List ℕ) → Below b a → all_below b a ≡ true
all_below_from b [] h = refl
all_below_from b (c ∷ a) h = and_from (ltb c b) (all_below b a) (lt-ltb c b h.0) (all_below_from b a h.1)

-- The array of zeros, and with 1 in the last of p pairs.
abbrev pub blanks : List ℕ
blanks = replicate 66 0

second_codes : (p : ℕ) → 0 < p → p ≤ 66 → take p (set blanks (p - 1) 1) ≡ replicate (p - 1) 0 ++ (1 ∷ [])
second_codes p some few =
    let up : (p - 1) + 1 ≡ p = omega arith in
    ap (λ (z : ℕ). take z (set blanks (p - 1) 1)) (sym up)
    ∙ take_more_set blanks (p - 1) 1 (omega arith)
    ∙ ap (λ (z : List ℕ). z ++ (1 ∷ [])) (take-replicate (p - 1) 66 0 (omega arith))

-- It is a scenario, and its number is 1.
pub second_holds : (b p : ℕ) → 0 < p → p ≤ 66 → 1 < b → Holds b p (set blanks (p - 1) 1)
second_holds b p some few coded = record {
  long = length-set blanks (p - 1) 1;
  below = ap (all_below b) (second_codes p some few)
      ∙ all_below_from b (replicate (p - 1) 0 ++ (1 ∷ []))
      (All-append (λ c. c < b) (replicate (p - 1) 0) (1 ∷ []) (below_zeros b (p - 1) (omega arith)) (coded, tt));
  rest = blank_set p 1 blanks some (blank_zeros p 66);
}

pub second_number : (b p : ℕ) → 0 < p → p ≤ 66 → index b (take p (set blanks (p - 1) 1)) ≡ 1
second_number b p some few = ap (index b) (second_codes p some few) ∙ index_second b (p - 1)

-- All zeros is a scenario.
pub zeros_hold : (b p : ℕ) → 1 ≤ b → p ≤ 66 → Holds b p blanks
zeros_hold b p coded few = record {
  long = refl;
  below = ap (all_below b) (take-replicate p 66 0 few) ∙ all_below_from b (replicate p 0) (below_zeros b p coded);
  rest = blank_zeros p 66;
}

-- No pairs, or one code, make one scenario.
pub one_scenario : (b p : ℕ) → (p ≡ 0) ⊎ ((p ≡ 0 → ⊥) × (b ≡ 1)) → b ^ p ≡ 1
one_scenario b p (inl e) = ap (λ (z : ℕ). b ^ z) e ∙ pow-zero b
one_scenario b p (inr h) = ap (λ (z : ℕ). z ^ p) h.1 ∙ ones p
  where
    ones : (k : ℕ) → 1 ^ k ≡ 1
    ones zero = pow-zero 1
    ones (suc k) = pow-suc 1 k ∙ mul-one (1 ^ k) ∙ ones k

-- The search has finished exactly where there is no scenario at the cursor.
pub finished_is : (b p : ℕ) (cursor : Option (List ℕ)) (none : Bool) → p ≤ 66 → ForSome cursor (Holds b p) → is_some cursor ≡ not none
    → none ≡ leb (b ^ p) (number_at b p cursor)
finished_is b p None none few h is = not-false none (sym is) ∙ sym (le-leb (b ^ p) (b ^ p) (omega arith))
finished_is b p (Some a) none few h is =
    let held = h a refl in
    let long : length (take p a) ≡ p = length-take-le p a (omega (arith, held.long)) in
    not-true none (sym is)
    ∙ sym (lt-leb (b ^ p) (index b (take p a)) (subst (λ (z : ℕ). index b (take p a) < b ^ z) long (index_lt b (take p a) (below_from b (take p a) held.below))))

-- What the test of the parts of a sheet says.
pub closes_parts : (n : ℕ) (rows : Vec Row Global) (b : ℕ) → closes n rows b ≡ true
    → (1 ≤ n) × (n ≤ 12) × (1 ≤ b) × (b ≤ 64) × (256 ≤ vec_capacity rows) × (proper n (vec_items rows) ≡ true)
closes_parts n rows b h =
    let both = and_parts (is_in_range 1 12 n && is_in_range 1 64 b) (leb 256 (vec_capacity rows) && proper n (vec_items rows)) h in
    let sizes = and_parts (is_in_range 1 12 n) (is_in_range 1 64 b) both.0 in
    let items = and_parts (leb 1 n) (leb n 12) sizes.0 in
    let codes = and_parts (leb 1 b) (leb b 64) sizes.1 in
    let list = and_parts (leb 256 (vec_capacity rows)) (proper n (vec_items rows)) both.1 in
    (leb-true 1 n items.0, leb-true n 12 items.1, leb-true 1 b codes.0, leb-true b 64 codes.1, leb-true 256 (vec_capacity rows) list.0, list.1)

-- An array that holds a scenario of p pairs holds it still once other codes are written to its first p places.
module _ (b p k : ℕ) (same : k ≡ p) (a out : List ℕ) (held : Holds b p a) (low : Below b out) (long : length out ≡ p) (few : p ≤ 66) where
  pub written_front : take p (out ++ drop k a) ≡ out
  written_front = take_at out (drop k a) p long

  pub written_holds : Holds b p (out ++ drop k a)
  written_holds = record {
    long = omega (arith, length-append out (drop k a), length-drop k a, held.long, long, same, few);
    below = ap (all_below b) written_front ∙ all_below_from b out low;
    rest = λ i l. get_or-append_right out (drop k a) p i 0 long l ∙ get_or-drop k a (i - p) 0 ∙ held.rest (k + (i - p)) (omega (arith, same));
  }
