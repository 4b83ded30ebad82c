use Rattle.std.proofs.Common.{rules}
use Rattle.sheets.proofs.held.Draft.items.Goals as goal

-- Given, since a wrong body is refused 5 s sooner with it.
pub returns : goal.returns
returns g c = search rules fits 100
