use Rattle.std.proofs.Common.{rules}
use Rattle.literature.proofs.letters.Letters.read.Goals as goal

-- Given, since a wrong body is refused 6 s sooner with it.
pub returns : goal.returns
returns g c = search rules fits 100
