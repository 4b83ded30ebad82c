use Rattle.std.proofs.Common.{rules}
use Rattle.spells.proofs.SpellsNotation.word.Goals as goal

-- Given, since a wrong body is refused 4 s sooner with it.
pub returns-in-5 : goal.returns-in-5
returns-in-5 c = search rules fits 100
