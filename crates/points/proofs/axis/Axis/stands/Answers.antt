use Rattle.std.proofs.Common.{rules}
use Rattle.points.proofs.axis.Axis.stands.Goals as goal

-- Given, since a wrong body is refused 10 s sooner with it.
pub returns-in-Equal : goal.returns-in-Equal
returns-in-Equal g c = search rules fits 400

-- Given, since a wrong body is refused 9 s sooner with it.
pub returns-in-Greater : goal.returns-in-Greater
returns-in-Greater g c = search rules
