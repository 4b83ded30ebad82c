use Rattle.std.proofs.Common.{rules}
use Rattle.tallies.proofs.by_weight.ByWeightJoins.empty.Goals as goal

-- Given, since the search for it takes 3 s where it fails.
pub returns : goal.returns
returns c = search rules fits 100
