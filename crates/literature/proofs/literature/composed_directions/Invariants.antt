-- The set has just the directions so far whose parts are in the two compositions.
use Rattle.std.proofs.Common.{ℕ, Decides}
use Rattle.points.specs.Sets.{has}
use Rattle.literature.specs.Published.{DirectionIn}
use Rattle.literature.proofs.Completed.{AnyBelow}
use Rattle.literature.proofs.literature.composed_directions.Given as goal

abbrev pub invariant-loop-direction : goal.invariant-loop-direction
invariant-loop-direction l =
    (e : ℕ) → Decides (has l.found e) (AnyBelow (DirectionIn l.chart l.east l.north e) l.chart.directions.now l.direction-index)
