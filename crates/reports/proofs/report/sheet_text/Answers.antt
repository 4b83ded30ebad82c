use Rattle.std.proofs.Common.{arith}
use Rattle.std.proofs.lemmas.Grind.{common_steps}
use Rattle.reports.proofs.report.sheet_text.Goals as goal

-- Given, since a wrong body is refused 5 s sooner with it.
pub returns : goal.returns
returns g c = grind (arith, common_steps) steps 2000000
