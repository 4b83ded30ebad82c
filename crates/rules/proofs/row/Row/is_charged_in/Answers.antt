use Rattle.std.proofs.Common.{rules}
use Rattle.rules.proofs.row.Row.is_charged_in.Goals as goal

-- Given, since a wrong body is refused 4 s sooner with it.
pub returns-then-is_broken_in : goal.returns-then-is_broken_in
returns-then-is_broken_in c = search rules fits 100
