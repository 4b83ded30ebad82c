use Rattle.std.proofs.Common.{rules}
use Rattle.literature.proofs.comparison.Comparison.meet.Goals as goal

-- Given, since a wrong body is refused 8 s sooner with it.
pub returns-clause-met : goal.returns-clause-met
returns-clause-met g c = search rules fits 100
