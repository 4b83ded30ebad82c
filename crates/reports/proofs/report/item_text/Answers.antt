use Rattle.std.proofs.Common.{rules}
use Rattle.reports.proofs.report.item_text.Goals as goal

-- Given, since a wrong body is refused 5 s sooner with it.
pub returns : goal.returns
returns g c = search rules fits 400
