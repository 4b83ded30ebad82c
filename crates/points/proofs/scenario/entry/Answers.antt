use Rattle.std.proofs.Common.{rules}
use Rattle.points.proofs.scenario.entry.Goals as goal

-- Given, since a wrong body is refused 6 s sooner with it.
pub returns : goal.returns
returns c = search rules fits 100
