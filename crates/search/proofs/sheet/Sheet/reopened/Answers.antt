use Rattle.std.proofs.Common.{rules}
use Rattle.search.proofs.sheet.Sheet.reopened.Goals as goal

-- Given, since a wrong body is refused 3 s sooner with it.
pub returns-clause-parts : goal.returns-clause-parts
returns-clause-parts c = search rules fits 100
