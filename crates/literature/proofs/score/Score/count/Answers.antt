-- One that does not stand is counted in.
use Rattle.std.proofs.Common.{rules}
use Rattle.literature.proofs.score.Score.count.Goals as goal

-- Given, since a wrong body is refused 4 s sooner with it.
pub returns-else-stands : goal.returns-else-stands
returns-else-stands c = search rules fits 100
