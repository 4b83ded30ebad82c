-- The counting statements on the pair that its code breaks pass.
use Rattle.std.proofs.Common.{◌&&◌, eqb, sym, ◌∙◌, rules}
use Rattle.rules.specs.declared.row.Row.{Row}
use Rattle.rules.specs.Rows.{counts, breaks, spot}
use Rattle.search.specs.Closed.{rows_of}
use Rattle.search.proofs.Loops.{pair_cost_kept}
use Rattle.search.proofs.sheet.Sheet.pair_price.Goals as goal

pub returns : goal.returns
returns g c =
    c.join_where.ensures (λ (r : Row). counts r && (eqb (spot r) c.args.spot && breaks r c.args.code)) (λ r b e. search rules)
    ∙ sym (pair_cost_kept g.J.Joins.joining (rows_of c.args.self.now) c.args.spot c.args.code)
