use Rattle.std.proofs.Common.{rules}
use Rattle.dwellings.proofs.DwellingsKind.converse.Goals as goal

-- Given, since a wrong body is refused 4 s sooner with it.
pub returns-in-1-to-4 : goal.returns-in-1-to-4
returns-in-1-to-4 c = search rules fits 100
