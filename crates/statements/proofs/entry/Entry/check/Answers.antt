use Rattle.std.proofs.Common.{arith}
use Rattle.std.proofs.lemmas.Grind.{common_steps}
use Rattle.statements.proofs.entry.Entry.check.Goals as goal

-- These two are given, since a wrong body is refused 9 s sooner with them.
pub returns-then-not-contains-3 : goal.returns-then-not-contains-3
returns-then-not-contains-3 g c = grind (arith, common_steps)

pub returns : goal.returns
returns g c = grind (arith, common_steps)
