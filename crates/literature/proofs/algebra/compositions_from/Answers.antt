use Rattle.std.proofs.Common.{arith}
use Rattle.std.proofs.lemmas.Grind.{common_steps}
use Rattle.literature.proofs.algebra.compositions_from.Goals as goal

-- Given, since a wrong body is refused 12 s sooner with it.
pub returns : goal.returns
returns g c e = (λ h. grind (arith, common_steps) steps 1000000, λ r. grind (arith, common_steps) steps 200000)
