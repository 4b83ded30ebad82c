use Rattle.std.proofs.Common.{rules}
use Rattle.reports.proofs.report.costs_text.Goals as goal

-- Given, since a wrong body is refused 14 s sooner with it.
pub returns : goal.returns
returns g c = search rules fits 400
