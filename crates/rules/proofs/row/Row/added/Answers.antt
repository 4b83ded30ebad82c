use Rattle.std.proofs.Common.{rules}
use Rattle.rules.proofs.row.Row.added.Goals as goal

-- Given, since a wrong body is refused 10 s sooner with it.
pub returns-then-adds : goal.returns-then-adds
returns-then-adds g c = search rules fits 100
