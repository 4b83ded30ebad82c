-- The laws of the tally that counts the broken sworn statements first.
use Rattle.std.specs.Prelude.{◌≡◌, ℕ, ◌+◌, ◌*◌, ◌≤◌, Bool, true, false, cond, List, [], ◌∷◌, length, refl}
use Rattle.std.proofs.Common.{ap, ◌∙◌, arith}
use Rattle.std.proofs.lemmas.Bool.Decides.{nat_tests}
use Rattle.tallies.specs.Joins.{Monoid, Ranking, joined, most_penalties}
use Rattle.tallies.specs.Weights.{adding, weight_of}
use Rattle.tallies.specs.Sworn.{sworn_first, sworn_order}
use Rattle.tallies.specs.declared.claim.Claim.{Claim}
use Rattle.tallies.specs.declared.sworn_first.SwornCost.{SwornCost}
use Rattle.tallies.specs.Sums.{joined_le, monoid_adding}

-- The two parts of a penalty, each a number.
abbrev pub sworn_part : Claim → ℕ
sworn_part c = cond c.sworn 1 0

abbrev pub weight_part : Claim → ℕ
weight_part c = cond c.sworn 0 (weight_of c)

pub sworn_part_small : (c : Claim) → sworn_part c ≤ 1000
sworn_part_small c = elim c.sworn as (λ v. cond v 1 0 ≤ 1000) [ true ↦ omega arith | false ↦ omega arith ]

pub weight_part_small : (c : Claim) → weight_part c ≤ 1000
weight_part_small c = elim c.sworn as (λ v. cond v 0 (weight_of c) ≤ 1000) [ true ↦ omega arith | false ↦ omega arith ]

-- A cost of two parts.
abbrev pub parts : ℕ → ℕ → SwornCost
parts s w = record { sworn = s; weight = w }

pub parts_same : {s t w v : ℕ} → s ≡ t → w ≡ v → parts s w ≡ parts t v
parts_same {t = t} {w = w} e d = ap (λ (z : ℕ). parts z w) e ∙ ap (parts t) d

-- A join is the joins of its two parts.
pub joined_parts : (cs : List Claim) → joined sworn_first cs ≡ parts (joined (adding sworn_part) cs) (joined (adding weight_part) cs)
joined_parts [] = refl
joined_parts (c ∷ cs) = ap (sworn_first.join (sworn_first.penalty c)) (joined_parts cs)

pub monoid_sworn : Monoid sworn_first
monoid_sworn =
    let s = monoid_adding sworn_part sworn_part_small in
    let w = monoid_adding weight_part weight_part_small in
    record {
      identity = λ xs h. simp joined_parts (parts_same (s.identity xs h) (w.identity xs h));
      single = λ x. parts_same (s.single x) (w.single x);
      assoc = λ xs ys zs h. simp joined_parts (parts_same (s.assoc xs ys zs h) (w.assoc xs ys zs h));
      comm = λ xs ys h. simp joined_parts (parts_same (s.comm xs ys h) (w.comm xs ys h));
    }

-- Both parts of a join of up to 256 penalties stay far below the cap.
abbrev Small : SwornCost → ℕ → Type 0
Small a n = (a.sworn ≤ n * 1000) × (a.weight ≤ n * 1000)

joined_small : (cs : List Claim) → length cs ≤ most_penalties → Small (joined sworn_first cs) (length cs)
joined_small cs h = simp joined_parts (joined_le sworn_part sworn_part_small cs h, joined_le weight_part weight_part_small cs h)

-- The order of two costs: of the sworn counts first, then of the weights.
above : (v : Bool) (n : ℕ) → 1 ≤ n → sworn_order (parts (cond v 1 0) (cond v 0 n)) (parts 0 0) ≡ false
above true n h = refl
above false n h = grind (arith, nat_tests)

total : (a b : SwornCost) → sworn_order a b ≡ false → sworn_order b a ≡ true
total a b e = grind (arith, nat_tests)

transitive : (a b c : SwornCost) → sworn_order a b ≡ true → sworn_order b c ≡ true → sworn_order a c ≡ true
transitive a b c d e = grind (arith, nat_tests)

antisymmetric : (a b : SwornCost) → sworn_order a b ≡ true → sworn_order b a ≡ true → a ≡ b
antisymmetric a b d e =
    let s : a.sworn ≡ b.sworn = grind (arith, nat_tests) in
    let w : a.weight ≡ b.weight = grind (arith, nat_tests) in
    parts_same s w

monotone : (a b c : SwornCost) (k l m : ℕ) → Small a k → Small b l → Small c m → k + m ≤ most_penalties → l + m ≤ most_penalties
    → sworn_order a b ≡ true → sworn_order (sworn_first.join a c) (sworn_first.join b c) ≡ true
monotone a b c k l m f g h i j e = grind (arith, nat_tests)

pub ranking_sworn : Ranking sworn_first sworn_order
ranking_sworn =
    let J : List Claim → SwornCost = joined sworn_first in
    record {
      above = λ x. above x.sworn (weight_of x) (omega arith);
      total = λ xs ys h g e. total (J xs) (J ys) e;
      transitive = λ xs ys zs h g i d e. transitive (J xs) (J ys) (J zs) d e;
      antisymmetric = λ xs ys h g d e. antisymmetric (J xs) (J ys) d e;
      monotone = λ xs ys zs h g e. monotone (J xs) (J ys) (J zs) (length xs) (length ys) (length zs)
          (joined_small xs (omega arith)) (joined_small ys (omega arith)) (joined_small zs (omega arith)) h g e;
    }
