-- The costs under the codes before this one are noted.
use Rattle.std.proofs.Common.{◌≡◌, ℕ, ◌<◌, get_or}
use Rattle.rules.specs.Costs.{pair_cost}
use Rattle.search.specs.Closed.{rows_of}
use Rattle.search.proofs.sheet.Sheet.price_pair.Given as goal

abbrev pub invariant-loop-code : goal.invariant-loop-code
invariant-loop-code g l =
    let j = g.T.Joins.joining in
    (c : ℕ) → c < l.code → get_or l.prices c j.empty ≡ pair_cost j (rows_of l.self) l.spot c
