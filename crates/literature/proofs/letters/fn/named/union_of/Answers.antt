use Rattle.std.proofs.Common.{rules}
use Rattle.literature.proofs.letters.fn.named.union_of.Goals as goal

-- Given, since a wrong body is refused 9 s sooner with it.
pub returns : goal.returns
returns g c = search rules fits 100
