-- The theorem on the order of joins, from the laws of the bounds.
use Rattle.tallies.proofs.Shapes.{ranking_of_shapes}
use Rattle.tallies.proofs.cost.ranks_up_to.Goals as goal

-- Given, since a wrong body is refused 4 s sooner with it.
pub returns-clause-most : goal.returns-clause-most
returns-clause-most g c = c.joins_up_to.ensures.most

pub returns-clause-ranking : goal.returns-clause-ranking
returns-clause-ranking g c = ranking_of_shapes g.T.Joins.joining g.met.T.Joins.monoid g.T.Tally.order g.met.T.Tally.ranks
