use Rattle.std.proofs.Common.{arith, rules}
use Rattle.std.proofs.lemmas.Grind.{elements}
use Rattle.kinds.proofs.kind.Kind.write.Goals as goal

-- Given, since a wrong body is refused 12 s sooner with it.
pub loop-i-preserved : goal.loop-i-preserved
loop-i-preserved g c =
    let was = c.loop-i.invariant in
    record { long = search rules fits 100; front = λ i other l h. grind (arith, elements, was.front) steps 2000000; rest = λ i other l. grind (arith, elements, was.rest) steps 400000 }
