-- Capped sums of small penalties keep the laws of joining and comparing.
use Rattle.std.specs.Prelude.{ℕ, ◌*◌, ◌≤◌, List, [], ◌∷◌, length, nat_le}
use Rattle.std.proofs.Common.{arith}
use Rattle.std.proofs.lemmas.Bool.{leb-true, leb-false, le-leb, lt-leb}
use Rattle.tallies.specs.Joins.{Monoid, Ranking, joined, most_penalties}
use Rattle.tallies.specs.Weights.{adding, capped, weight_of, by_weight}

module _ {P : Type 0} (f : P → ℕ) (small : (x : P) → f x ≤ 1000) where
  -- Up to 256 penalties of at most 1,000 each stay far below the cap.
  pub joined_le : (xs : List P) → length xs ≤ most_penalties → joined (adding f) xs ≤ length xs * 1000
  joined_le [] h = omega arith
  joined_le (x ∷ xs) h = let a = small x in let b = joined_le xs (omega arith) in omega arith

  pub monoid_adding : Monoid (adding f)
  monoid_adding = record {
    identity = λ xs h. let a = joined_le xs h in omega arith;
    single = λ x. let a = small x in omega arith;
    assoc = λ xs ys zs h.
        let a = joined_le xs (omega arith) in
        let b = joined_le ys (omega arith) in
        let c = joined_le zs (omega arith) in
        omega arith;
    comm = λ xs ys h. omega arith;
  }

  -- Where no penalty is 0, the order of numbers ranks the sums.
  pub ranking_adding : ((x : P) → 1 ≤ f x) → Ranking (adding f) nat_le
  ranking_adding some =
      let J : List P → ℕ = joined (adding f) in
      record {
        above = λ x. let a = some x in lt-leb (f x) 0 (omega arith);
        total = λ xs ys h g e. le-leb (J ys) (J xs) (omega (arith, leb-false (J xs) (J ys) e));
        transitive = λ xs ys zs h g i d e.
            le-leb (J xs) (J zs) (omega (arith, leb-true (J xs) (J ys) d, leb-true (J ys) (J zs) e));
        antisymmetric = λ xs ys h g d e. omega (arith, leb-true (J xs) (J ys) d, leb-true (J ys) (J xs) e);
        monotone = λ xs ys zs h g e.
            le-leb (capped (J xs) (J zs)) (capped (J ys) (J zs)) (omega (arith, leb-true (J xs) (J ys) e));
      }

-- The tally by weight has both.
pub monoid_by_weight : Monoid by_weight
monoid_by_weight = monoid_adding weight_of (λ c. omega arith)

pub ranking_by_weight : Ranking by_weight nat_le
ranking_by_weight = ranking_adding weight_of (λ c. omega arith) (λ c. omega arith)
