use Rattle.std.proofs.Common.{rules}
use Rattle.tallies.proofs.by_weight.ByWeightJoins.penalty.Goals as goal

-- Given, since a wrong body is refused 4 s sooner with it.
pub returns : goal.returns
returns c = search rules fits 100
