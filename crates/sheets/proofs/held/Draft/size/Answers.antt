use Rattle.std.proofs.Common.{rules}
use Rattle.sheets.proofs.held.Draft.size.Goals as goal

-- Given, since a wrong body is refused 7 s sooner with it.
pub returns-then-not-contains : goal.returns-then-not-contains
returns-then-not-contains g c = search rules fits 400
