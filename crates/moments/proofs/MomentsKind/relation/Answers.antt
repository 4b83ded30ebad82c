use Rattle.std.proofs.Common.{rules}
use Rattle.moments.proofs.MomentsKind.relation.Goals as goal

-- Given, since a wrong body is refused 3 s sooner with it.
pub returns-in-Less : goal.returns-in-Less
returns-in-Less c = search rules fits 100
