use Rattle.std.proofs.Common.{rules}
use Rattle.literature.proofs.letters.Letters.code.Goals as goal

-- Given, since a wrong body is refused 7 s sooner with it.
pub returns : goal.returns
returns g c = search rules fits 100
