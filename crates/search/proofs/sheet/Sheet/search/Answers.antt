use Rattle.std.proofs.Common.{rules}
use Rattle.search.proofs.sheet.Sheet.search.Goals as goal

-- These two are given, since a wrong body is refused 12 s sooner with them.
pub returns-clause-advanced : goal.returns-clause-advanced
returns-clause-advanced g c = search rules fits 100

pub returns-clause-taken : goal.returns-clause-taken
returns-clause-taken g c = search rules fits 100
