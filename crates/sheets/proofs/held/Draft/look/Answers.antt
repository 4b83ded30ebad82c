use Rattle.std.proofs.Common.{arith}
use Rattle.std.proofs.lemmas.Grind.{common_steps}
use Rattle.sheets.proofs.held.Draft.look.Goals as goal

-- Given, since a wrong body is refused 5 s sooner with it.
pub returns : goal.returns
returns g c = grind (arith, common_steps) steps 400000
