use Rattle.std.proofs.Common.{rules}
use Rattle.moments.proofs.MomentDisplay.fmt.Goals as goal

-- Given, since a wrong body is refused 7 s sooner with it.
pub returns-clause-writes : goal.returns-clause-writes
returns-clause-writes c = search rules fits 100
