use Rattle.std.proofs.Common.{rules}
use Rattle.files.proofs.reader.Spot.next_statement.Goals as goal

-- Given, since a wrong body is refused 7 s sooner with it.
pub returns-in-HeadLine : goal.returns-in-HeadLine
returns-in-HeadLine c = search rules fits 100
