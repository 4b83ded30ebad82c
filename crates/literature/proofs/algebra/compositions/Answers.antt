use Rattle.std.proofs.Common.{arith, rules}
use Rattle.literature.proofs.algebra.compositions.Goals as goal

-- Given, since a wrong body is refused 17 s sooner with it.
pub returns : goal.returns
returns g c e = (
  λ h. let (d, member, given, gives, inside) = c.union_over.ensures.0 e h in (d, member, grind (arith, gives, inside) steps 1000000),
  λ r. search rules fits 400,
)
