use Rattle.std.proofs.Common.{rules}
use Rattle.tallies.proofs.sworn_first.SwornFirstJoins.join.Goals as goal

-- Given, since a wrong body is refused 3 s sooner with it.
pub returns : goal.returns
returns c = search rules fits 100
