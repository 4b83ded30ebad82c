use Rattle.std.proofs.Common.{rules}
use Rattle.files.proofs.load.field_of.Goals as goal

-- Given, since a wrong body is refused 4 s sooner with it.
pub returns-in-Item : goal.returns-in-Item
returns-in-Item c = search rules fits 100
