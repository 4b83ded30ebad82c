use Rattle.std.proofs.Common.{rules}
use Rattle.search.proofs.cost.least.Goals as goal

-- Given, since a wrong body is refused 9 s sooner with it.
pub returns : goal.returns
returns g c = search rules fits 400
