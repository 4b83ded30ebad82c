use Rattle.std.proofs.Common.{arith}
use Rattle.std.proofs.lemmas.Grind.{common_steps}
use Rattle.runs.proofs.page.page_of.Goals as goal

-- Given, since a wrong body is refused 9 s sooner with it.
pub returns : goal.returns
returns g c = grind (arith, common_steps) steps 400000
