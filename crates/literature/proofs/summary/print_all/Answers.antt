-- The parts of the output, one after another.
use Rattle.std.proofs.Common.{◌≡◌, ◌+◌, ap, arith}
use Rattle.moments.specs.Moments.{moments}
use Rattle.spells.specs.Spells.{spells}
use Rattle.dwellings.specs.Dwellings.{dwellings}
use Rattle.literature.specs.Literature.{LiteratureAgrees, literature_differs}
use Rattle.literature.specs.Output.{AllLaws}
use Rattle.literature.specs.Printed.{summary_line}
use Rattle.literature.specs.Scores.{capped}
use Rattle.literature.specs.Tried.{laws_failing}
use Rattle.literature.proofs.Scored.{none_of_four}
use Rattle.literature.proofs.Printing.{appends_as, appends_more}
use Rattle.literature.proofs.summary.print_all.Goals as goal

pub returns-clause-printed : goal.returns-clause-printed
returns-clause-printed g c =
    let (held, of_held, m1, p1) = c.in_ok-hold_all.ensures.printed in
    let (points, of_points, m2, p2) = c.in_ok-try_laws.ensures.printed in
    let (intervals, of_intervals, m3, p3) = c.in_ok-try_laws-2.ensures.printed in
    let (directions, of_directions, m4, p4) = c.in_ok-try_laws-3.ensures.printed in
    let all : c.total-differ.result ≡ capped (literature_differs held + (laws_failing points + (laws_failing intervals + laws_failing directions))) =
    omega (arith, c.total-differ.ensures, m1, m2, m3, m4) in
    let summary = appends_as _ _ (ap summary_line all) c.in_ok-print_summary.ensures in (
      record {
        held = held;
        points = points;
        intervals = intervals;
        directions = directions;
        all_held = of_held;
        of_points = of_points;
        of_intervals = of_intervals;
        of_directions = of_directions;
        agree = none_of_four (LiteratureAgrees c.args.literature) (AllLaws moments) (AllLaws spells) (AllLaws dwellings) _ _ _ _ _ _ _ _ m1 m2 m3 m4
            c.in_ok-hold_all.ensures.agree c.in_ok-try_laws.ensures.counted c.in_ok-try_laws-2.ensures.counted c.in_ok-try_laws-3.ensures.counted;
      },
      appends_more _ _ _ _ _
          (appends_more _ _ _ _ _ (appends_more _ _ _ _ _ (appends_more _ _ _ _ _ (appends_more _ _ _ _ _ (appends_more _ _ _ _ _ c.in_ok-print_kinds.ensures p1) p2) p3) p4) summary)
          c.in_ok-writeln.ensures.bytes,
    )
