use Rattle.std.proofs.Common.{rules}
use Rattle.rules.proofs.row.Row.is_broken_at.Goals as goal

-- Given, since a wrong body is refused 4 s sooner with it.
pub returns-then-place-spot : goal.returns-then-place-spot
returns-then-place-spot c = search rules fits 100
