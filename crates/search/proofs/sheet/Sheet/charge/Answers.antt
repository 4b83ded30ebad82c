-- The counting statements of the person that the incumbent breaks pass.
use Rattle.std.proofs.Common.{◌&&◌, eqb, sym, ◌∙◌, rules}
use Rattle.points.specs.Scenarios.{entry}
use Rattle.rules.specs.declared.row.Row.{Row}
use Rattle.rules.specs.Rows.{counts, breaks}
use Rattle.search.specs.Closed.{rows_of, incumbent_of}
use Rattle.search.proofs.Loops.{charge_kept}
use Rattle.search.proofs.sheet.Sheet.charge.Goals as goal

pub returns : goal.returns
returns g c =
    let a = incumbent_of c.args.self.now in
    c.join_where.ensures (λ (r : Row). counts r && (breaks r (entry a r.low r.high) && eqb r.person c.args.person)) (λ r b e. search rules)
    ∙ sym (charge_kept g.J.Joins.joining (rows_of c.args.self.now) (entry a) c.args.person)
