use Rattle.std.proofs.Common.{rules}
use Rattle.reports.proofs.report.person_text.Goals as goal

-- Given, since a wrong body is refused 5 s sooner with it.
pub returns : goal.returns
returns g c = search rules fits 400

-- Given, since a wrong body is refused 5 s sooner with it.
pub returns-then-at_most : goal.returns-then-at_most
returns-then-at_most g c = search rules fits 100
