use Rattle.std.proofs.Common.{rules}
use Rattle.sheets.proofs.closed.Closed.charge.Goals as goal

-- Given, since a wrong body is refused 8 s sooner with it.
pub returns-then-not-contains : goal.returns-then-not-contains
returns-then-not-contains g c = search rules fits 400

-- Given, since a wrong body is refused 8 s sooner with it.
pub returns : goal.returns
returns g c = search rules fits 100
