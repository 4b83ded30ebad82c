use Rattle.std.proofs.Common.{rules}
use Rattle.spells.proofs.spell.SpellDisplay.fmt.Goals as goal

-- Given, since a wrong body is refused 4 s sooner with it.
pub returns-clause-writes : goal.returns-clause-writes
returns-clause-writes c = search rules fits 100
