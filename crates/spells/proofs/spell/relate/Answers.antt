use Rattle.std.proofs.Common.{rules}
use Rattle.spells.proofs.spell.relate.Goals as goal

-- Given, since a wrong body is refused 4 s sooner with it.
pub returns-in-Less-Less : goal.returns-in-Less-Less
returns-in-Less-Less c = search rules

-- Given, since a wrong body is refused 5 s sooner with it.
pub returns-in-Greater-Less : goal.returns-in-Greater-Less
returns-in-Greater-Less c = search rules
