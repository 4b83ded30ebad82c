-- The tally that counts the broken sworn statements first.
use Rattle.std.specs.Prelude.{◌≡◌, ◌≤◌, Bool, cond, not, ◌&&◌, ◌||◌, List, length, sum_by, count_by, filter, ◌==◌, nat_le, nat_lt}
use Rattle.tallies.specs.Joins.{Joining, joined, most_penalties}
use Rattle.tallies.specs.Weights.{weight_of, capped}
use Rattle.tallies.specs.declared.claim.Claim.{Claim}
use Rattle.tallies.specs.declared.sworn_first.SwornCost.{SwornCost}

-- Sworn first: a sworn statement has the penalty (1, 0), another (0, its weight), and both parts add.
abbrev pub sworn_first : Joining Claim SwornCost
sworn_first = record {
  empty = record { sworn = 0; weight = 0 };
  penalty = λ c. record { sworn = cond c.sworn 1 0; weight = cond c.sworn 0 (weight_of c) };
  join = λ a b. record { sworn = capped a.sworn b.sworn; weight = capped a.weight b.weight };
}

-- At most: fewer sworn, or as many sworn and at most the weight.
abbrev pub sworn_order : SwornCost → SwornCost → Bool
sworn_order a b = nat_lt a.sworn b.sworn || (a.sworn == b.sworn && nat_le a.weight b.weight)

-- How many claims are sworn, and the sum of the weights of the others.
abbrev pub plain_sum : List Claim → SwornCost
plain_sum cs = record {
  sworn = count_by (λ c. c.sworn) cs;
  weight = sum_by weight_of (filter (λ c. not c.sworn) cs);
}

-- Nothing is capped: a join of up to most_penalties penalties is the plain sum of both parts.
abbrev pub PartsAdd : Type 0
PartsAdd = (cs : List Claim) → length cs ≤ most_penalties → joined sworn_first cs ≡ plain_sum cs
