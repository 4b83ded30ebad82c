use Rattle.std.proofs.Common.{rules}
use Rattle.files.proofs.head.U8FromHeadTally.from.Goals as goal

-- Given, since a wrong body is refused 7 s sooner with it.
pub returns-in-SwornFirst : goal.returns-in-SwornFirst
returns-in-SwornFirst c = search rules fits 100
