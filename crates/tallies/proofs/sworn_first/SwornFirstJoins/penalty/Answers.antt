use Rattle.std.proofs.Common.{rules}
use Rattle.tallies.proofs.sworn_first.SwornFirstJoins.penalty.Goals as goal

-- Given, since a wrong body is refused 5 s sooner with it.
pub returns-then-claim : goal.returns-then-claim
returns-then-claim c = search rules fits 100
