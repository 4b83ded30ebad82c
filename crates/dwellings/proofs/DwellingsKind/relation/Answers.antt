use Rattle.std.proofs.Common.{rules}
use Rattle.dwellings.proofs.DwellingsKind.relation.Goals as goal

-- Given, since a wrong body is refused 5 s sooner with it.
pub returns-in-Greater-Less : goal.returns-in-Greater-Less
returns-in-Greater-Less c = search rules fits 100
