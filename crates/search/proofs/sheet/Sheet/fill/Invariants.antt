-- The costs and the bounds of the pairs from this one on are noted.
use Rattle.search.specs.Closed.{rows_of}
use Rattle.search.specs.Tables.{Priced, Owed}
use Rattle.search.proofs.sheet.Sheet.fill.Given as goal

abbrev pub invariant-loop-spot : goal.invariant-loop-spot
invariant-loop-spot g l =
    let j = g.T.Joins.joining in
    Priced j l.self.codes (rows_of l.self) l.spot l.count l.prices × Owed j g.T.Tally.order l.self.codes (rows_of l.self) l.spot l.count l.owed
