use Rattle.std.proofs.Common.{rules}
use Rattle.spells.proofs.SpellsKind.converse.Goals as goal

-- Given, since a wrong body is refused 4 s sooner with it.
pub returns-in-2 : goal.returns-in-2
returns-in-2 c = search rules fits 100
