use Rattle.std.proofs.Common.{rules}
use Rattle.literature.proofs.laws.AlgebraLaw.extent.Goals as goal

-- Given, since a wrong body is refused 4 s sooner with it.
pub returns-in-Associativity-clause-third : goal.returns-in-Associativity-clause-third
returns-in-Associativity-clause-third c = search rules fits 100
