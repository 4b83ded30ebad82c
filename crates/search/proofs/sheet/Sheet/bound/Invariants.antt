-- The loop has the join of the lower bounds of the pairs before this one.
use Rattle.std.proofs.Common.{◌≡◌}
use Rattle.tallies.specs.Groups.{span}
use Rattle.rules.specs.Costs.{of_rows, pair_bound}
use Rattle.search.specs.Closed.{rows_of}
use Rattle.search.proofs.sheet.Sheet.bound.Given as goal

abbrev pub invariant-loop-spot : goal.invariant-loop-spot
invariant-loop-spot g l =
    l.sum ≡ span (of_rows g.T.Joins.joining) (pair_bound g.T.Joins.joining g.T.Tally.order l.self.codes (rows_of l.self)) 0 l.spot-counter
