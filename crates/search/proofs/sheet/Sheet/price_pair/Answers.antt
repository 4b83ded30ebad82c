use Rattle.std.proofs.Common.{rules}
use Rattle.search.proofs.sheet.Sheet.price_pair.Goals as goal

-- Given, since a wrong body is refused 8 s sooner with it.
pub returns : goal.returns
returns g c = search rules fits 100
