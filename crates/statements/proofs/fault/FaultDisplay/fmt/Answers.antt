use Rattle.std.proofs.Common.{rules}
use Rattle.statements.proofs.fault.FaultDisplay.fmt.Goals as goal

-- Given, since a wrong body is refused 5 s sooner with it.
pub returns-clause-writes : goal.returns-clause-writes
returns-clause-writes g c = search rules fits 100
