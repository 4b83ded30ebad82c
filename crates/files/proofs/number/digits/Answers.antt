use Rattle.std.proofs.Common.{arith}
use Rattle.std.proofs.lemmas.Grind.{common_steps}
use Rattle.files.proofs.number.digits.Goals as goal

-- Given, since a wrong body is refused 8 s sooner with it.
pub loop-b-preserved : goal.loop-b-preserved
loop-b-preserved c = grind (arith, common_steps) steps 400000
