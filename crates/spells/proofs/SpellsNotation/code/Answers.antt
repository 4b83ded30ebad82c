use Rattle.std.proofs.Common.{rules, tests}
use Rattle.spells.proofs.SpellsNotation.code.Goals as goal

-- Given, since a wrong body is refused 4 s sooner with it.
pub returns-in-102-2 : goal.returns-in-102-2
returns-in-102-2 c = search (tests, rules) fits 100
