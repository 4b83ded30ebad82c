-- The search is under way from where it began; what it keeps between two steps is true of the incumbent and the scenario at the cursor.
use Rattle.std.proofs.Common.{take}
use Rattle.points.specs.Scenarios.{pairs}
use Rattle.rules.specs.Orders.{index}
use Rattle.rules.specs.Steps.{position}
use Rattle.rules.proofs.Advances.{UnderWay}
use Rattle.search.specs.Closed.{rows_of, position_of, rules_of}
use Rattle.search.specs.Sheets.{Holds}
use Rattle.search.specs.Tables.{Keeps}
use Rattle.search.proofs.sheet.Sheet.advance.Given as goal

abbrev pub invariant-loop-taken : goal.invariant-loop-taken
invariant-loop-taken g l =
    let s = l.fn.self in
    let p = pairs s.items in
    let r = rules_of s g.K.Kind.fit g.T.Joins.joining g.T.Tally.order in
    record {
      under_way : UnderWay r s.items (rows_of s) l.steps l.taken (position_of s) (position (take p l.incumbent) (index s.codes (take p l.cursor)));
      held : Holds s.codes p l.incumbent;
      marked : Holds s.codes p l.cursor;
      keeps : Keeps r s.items (rows_of s) (take p l.incumbent) (take p l.cursor) l.kept l.spent;
    }
