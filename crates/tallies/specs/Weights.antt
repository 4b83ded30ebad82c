-- Weights, capped sums, and the tally by weight.
use Rattle.std.specs.Prelude.{◌≡◌, ℕ, ◌+◌, ◌-◌, ◌^◌, ◌≤◌, min, max, List, length, sum_by}
use Rattle.tallies.specs.Joins.{Joining, joined, most_penalties}
use Rattle.tallies.specs.declared.claim.Claim.{Claim}

-- A weight as it counts. Statements have weights from 1 to 1,000; a number outside, which no statement has, counts as the nearest of these.
abbrev pub weighed : ℕ → ℕ
weighed n = max 1 (min n 1000)

-- The weight that a claim counts with.
abbrev pub weight_of : Claim → ℕ
weight_of c = weighed c.weight

-- The sum of two numbers, capped at the largest number of 32 bits.
abbrev pub capped : ℕ → ℕ → ℕ
capped a b = min (a + b) (2 ^ 32 - 1)

-- Penalties f that are numbers, joined by capped sums.
abbrev pub adding : {P : Type 0} → (P → ℕ) → Joining P ℕ
adding f = record { empty = 0; penalty = f; join = capped }

-- By weight: the penalty is the weight.
abbrev pub by_weight : Joining Claim ℕ
by_weight = adding weight_of

-- Nothing is capped: a join of up to most_penalties penalties is the plain sum of the weights.
abbrev pub WeightsAdd : Type 0
WeightsAdd = (cs : List Claim) → length cs ≤ most_penalties → joined by_weight cs ≡ sum_by weight_of cs

-- A weight from 1 to 1,000 counts as it is.
abbrev pub WeightsCount : Type 0
WeightsCount = (n : ℕ) → 1 ≤ n → n ≤ 1000 → weighed n ≡ n
