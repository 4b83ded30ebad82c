use Rattle.std.proofs.Common.{rules}
use Rattle.tallies.proofs.sworn_first.SwornCostDisplay.fmt.Goals as goal

-- Given, since a wrong body is refused 9 s sooner with it.
pub returns-clause-writes : goal.returns-clause-writes
returns-clause-writes g c = search rules fits 100
