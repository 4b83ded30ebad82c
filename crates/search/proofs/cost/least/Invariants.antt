-- The least of the costs under the codes before this one, of whatever pair the closure prices.
use Rattle.std.proofs.Common.{◌≡◌, ℕ, ◌<◌, List}
use Rattle.rules.specs.declared.row.Row.{Row}
use Rattle.rules.specs.Costs.{pair_cost, pair_bound}
use Rattle.search.proofs.cost.least.Given as goal

abbrev pub invariant-loop-code : goal.invariant-loop-code
invariant-loop-code g l =
    let j = g.T.Joins.joining in
    (rows : List Row) (spot : ℕ) → ((z : ℕ) (x : _) → z < l.codes → g.F.Fn.post l.price (z, tt) x → x ≡ pair_cost j rows spot z)
    → l.least ≡ pair_bound j g.T.Tally.order l.code rows spot
