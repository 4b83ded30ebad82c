use Rattle.std.proofs.Common.{rules}
use Rattle.moments.proofs.MomentsKind.converse.Goals as goal

-- Given, since a wrong body is refused 3 s sooner with it.
pub returns-in-1 : goal.returns-in-1
returns-in-1 c = search rules fits 100
