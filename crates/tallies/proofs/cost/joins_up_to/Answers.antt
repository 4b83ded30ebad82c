-- The theorems on joins, from the law of the bound.
use Rattle.std.proofs.Common.{refl}
use Rattle.tallies.proofs.Groups.{regroup}
use Rattle.tallies.proofs.Shapes.{joined_listing, monoid_of_shapes}
use Rattle.tallies.proofs.cost.joins_up_to.Goals as goal

-- Given, since a wrong body is refused 4 s sooner with it.
pub returns-clause-most : goal.returns-clause-most
returns-clause-most g c = refl

pub returns-clause-listed : goal.returns-clause-listed
returns-clause-listed g c = joined_listing g.T.Joins.joining g.met.T.Joins.monoid

pub returns-clause-monoid : goal.returns-clause-monoid
returns-clause-monoid g c = monoid_of_shapes g.T.Joins.joining g.met.T.Joins.monoid

pub returns-clause-regroups : goal.returns-clause-regroups
returns-clause-regroups g c = regroup g.T.Joins.joining g.met.T.Joins.monoid
