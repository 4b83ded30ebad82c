-- The claims that are left, joined onto the cost, come to the join of all.
use Rattle.std.proofs.Common.{◌≡◌}
use Rattle.tallies.specs.Joins.{joined}
use Rattle.tallies.proofs.Joins.{onto}
use Rattle.tallies.proofs.cost.joined.Given as goal

abbrev pub invariant-loop-claim : goal.invariant-loop-claim
invariant-loop-claim g l = onto g.T.Joins.joining l.claim-iterator.iter.rest.now l.cost ≡ joined g.T.Joins.joining l.claims
