use Rattle.std.proofs.Common.{arith}
use Rattle.points.proofs.Placed.{pairs_up}
use Rattle.points.proofs.scenario.place.Goals as goal

pub overflow_add-result : goal.overflow_add-result
overflow_add-result c = omega (arith, pairs_up c.args.j 256 (omega arith))
