-- The number that were tried is the sum of both counts, capped.
use Rattle.std.proofs.Common.{rules}
use Rattle.literature.proofs.score.Score.tried.Goals as goal

-- Given, since a wrong body is refused 4 s sooner with it.
pub returns : goal.returns
returns c = search rules fits 100
