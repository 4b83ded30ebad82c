use Rattle.std.proofs.Common.{rules}
use Rattle.search.proofs.cost.lesser.Goals as goal

-- These two are given, since a wrong body is refused 5 s sooner with them.
pub returns-then-at_most : goal.returns-then-at_most
returns-then-at_most g c = search rules fits 100

pub returns-else-at_most : goal.returns-else-at_most
returns-else-at_most g c = search rules fits 100
