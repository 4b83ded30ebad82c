-- A cost sworn first is the plain sum of both parts.
use Rattle.std.proofs.Common.{◌≡◌, ◌+◌, Bool, true, false, cond, not, List, [], ◌∷◌, sum_by, filter, refl, ◌∙◌, arith}
use Rattle.std.proofs.lemmas.List.Sums.{sum_by-cons}
use Rattle.tallies.specs.Weights.{weight_of}
use Rattle.tallies.specs.Sworn.{PartsAdd}
use Rattle.tallies.specs.declared.claim.Claim.{Claim}
use Rattle.tallies.specs.SwornLemmas.{sworn_part, weight_part, sworn_part_small, weight_part_small, parts_same, joined_parts}
use Rattle.tallies.proofs.Sums.{joined_adding}

-- The weights of the claims that are not sworn.
weight_sum_step : (v : Bool) (c : Claim) (cs ds : List Claim) → sum_by weight_part cs ≡ sum_by weight_of ds
    → cond v 0 (weight_of c) + sum_by weight_part cs ≡ sum_by weight_of (cond (not v) (c ∷ ds) ds)
weight_sum_step true c cs ds h = omega arith
weight_sum_step false c cs ds h = let g = sum_by-cons weight_of c ds in omega arith

weight_sum : (cs : List Claim) → sum_by weight_part cs ≡ sum_by weight_of (filter (λ c. not c.sworn) cs)
weight_sum [] = refl
weight_sum (c ∷ cs) =
    sum_by-cons weight_part c cs ∙ weight_sum_step c.sworn c cs (filter (λ c. not c.sworn) cs) (weight_sum cs)

pub parts_add : PartsAdd
parts_add cs h =
    joined_parts cs
    ∙ parts_same (joined_adding sworn_part sworn_part_small cs h) (joined_adding weight_part weight_part_small cs h ∙ weight_sum cs)
