use Rattle.std.proofs.Common.{rules}
use Rattle.files.proofs.head.U8FromHeadKind.from.Goals as goal

-- Given, since a wrong body is refused 4 s sooner with it.
pub returns-in-Dwellings : goal.returns-in-Dwellings
returns-in-Dwellings c = search rules fits 100
