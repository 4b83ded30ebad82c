-- Capped sums of small penalties are plain sums.
use Rattle.std.proofs.Common.{◌≡◌, ℕ, ◌≤◌, List, [], ◌∷◌, length, sum_by, refl, arith}
use Rattle.std.proofs.lemmas.List.Sums.{sum_by-cons}
use Rattle.tallies.specs.Joins.{joined, most_penalties}
use Rattle.tallies.specs.Weights.{adding, weight_of, WeightsAdd, WeightsCount}
use Rattle.tallies.specs.Sums.{joined_le}

module _ {P : Type 0} (f : P → ℕ) (small : (x : P) → f x ≤ 1000) where
  -- The join of up to 256 penalties of at most 1,000 each is their plain sum.
  pub joined_adding : (xs : List P) → length xs ≤ most_penalties → joined (adding f) xs ≡ sum_by f xs
  joined_adding [] h = refl
  joined_adding (x ∷ xs) h =
      let a = small x in
      let b = joined_le f small xs (omega arith) in
      let c = joined_adding xs (omega arith) in
      let d = sum_by-cons f x xs in
      omega arith

pub weights_add : WeightsAdd
weights_add = joined_adding weight_of (λ c. omega arith)

pub weights_count : WeightsCount
weights_count n a b = omega arith
