use Rattle.std.proofs.Common.{rules}
use Rattle.sheets.proofs.closed.Closed.reopen.Goals as goal

-- Given, since a wrong body is refused 10 s sooner with it.
pub returns : goal.returns
returns g c = search rules fits 100
