-- The score lacks nothing exactly if the directions so far agree with each; their base relations were met.
use Rattle.std.proofs.Common.{◌≡◌, ℕ, ◌<◌, get_or}
use Rattle.std.specs.List.{All}
use Rattle.dwellings.specs.Dwellings.{dwellings, dwelling_words}
use Rattle.literature.specs.Held.{DirectionHeld, DirectionsHeld}
use Rattle.literature.specs.Published.{DirectionsAgree}
use Rattle.literature.specs.declared.published.Direction.{Direction}
use Rattle.literature.proofs.Charted.{no_direction}
use Rattle.literature.proofs.Compared.{HeldBelow, RowsBelow}
use Rattle.literature.proofs.Lacking.{Counts}
use Rattle.literature.proofs.Completed.{MetBelow}
use Rattle.literature.proofs.literature.hold_directions.Given as goal

abbrev pub invariant-loop-first : goal.invariant-loop-first
invariant-loop-first g l =
    (Counts 0 l.comparison.score.lacking
    ((k : ℕ) → k < l.first-index → (first : Direction) → All (DirectionsAgree l.chart (get_or l.chart.directions.now k first)) l.chart.directions.now)
    × MetBelow dwellings dwelling_words l.chart.letters.0.now 0 (λ direction. direction.letter.now) l.chart.directions.now l.first-index l.comparison.met)
    × RowsBelow dwelling_words 68 l.initial.comparison.score (λ k es. (first : Direction) → DirectionsHeld l.chart (get_or l.chart.directions.now k first) es) l.first-index l.comparison.score (g.W.Write.contents l.initial.out) (g.W.Write.contents l.out)

abbrev pub invariant-loop-second : goal.invariant-loop-second
invariant-loop-second g l =
    (Counts l.initial.comparison.score.lacking l.comparison.score.lacking
    ((j : ℕ) → j < l.second-index → (second : Direction) → DirectionsAgree l.chart (get_or l.chart.directions.now l.first-index no_direction) (get_or l.chart.directions.now j second))
    × (l.comparison.met ≡ l.initial.comparison.met))
    × HeldBelow dwelling_words 68 l.initial.comparison.score (λ j e. (second : Direction) → DirectionHeld l.chart l.r (get_or l.chart.directions.now l.first-index no_direction) (get_or l.chart.directions.now j second) e) l.second-index l.comparison.score (g.W.Write.contents l.initial.out) (g.W.Write.contents l.out)
