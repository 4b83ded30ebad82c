-- The loop has the join over the rows before the index that pass, whatever test the closure computes.
use Rattle.std.proofs.Common.{◌≡◌, Bool, filter, take}
use Rattle.std.specs.Fn.{FnReturnsAt}
use Rattle.tallies.specs.Joins.{joined}
use Rattle.rules.specs.declared.row.Row.{Row}
use Rattle.rules.specs.Costs.{of_rows}
use Rattle.search.proofs.sheet.Sheet.join_where.Given as goal

abbrev pub invariant-loop-row : goal.invariant-loop-row
invariant-loop-row g l = (p : Row → Bool) → ((r : Row) (b : Bool) → FnReturnsAt g.F.Fn l.test r b → b ≡ p r)
    → l.sum ≡ joined (of_rows g.J.Joins.joining) (filter p (take l.row-index l.rows))
