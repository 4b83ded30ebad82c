-- One more row with each turn, joined if it passes.
use Rattle.std.proofs.Common.{◌≡◌, ◌≤◌, refl, Bool, cond, filter, List, length, get_or, take, sym, ap, ◌∙◌, subst}
use Rattle.tallies.specs.Joins.{joined}
use Rattle.tallies.proofs.Along.{monoid_along}
use Rattle.rules.specs.declared.row.Row.{Row}
use Rattle.rules.specs.Rows.{claim_of, no_row}
use Rattle.rules.specs.Costs.{of_rows}
use Rattle.rules.proofs.Properly.{few_rows}
use Rattle.search.specs.Closed.{rows_of}
use Rattle.search.proofs.Loops.{joined_kept_more}
use Rattle.search.proofs.sheet.Sheet.join_where.Goals as goal

pub loop-row-preserved : goal.loop-row-preserved
loop-row-preserved g c p is =
    let self = c.args.self.now in
    let j = of_rows g.J.Joins.joining in
    let rows : List Row = c.rows-rows.result.now in
    let i = c.loop-row.row-index in
    let few : length c.rows-rows.result.now ≤ 256 =
    subst (λ (z : List Row). length z ≤ 256) (sym c.rows-rows.ensures) (few_rows self.items (rows_of self) self.sound) in
    let more = joined_kept_more j (monoid_along claim_of g.J.Joins.joining g.met.J.Joins.monoid) p rows i no_row few c.loop-row-test.true in
    let so_far = c.loop-row.invariant p is in
    let before = joined j (filter p (take i rows)) in
    let with_it = j.join before (j.penalty (get_or rows i no_row)) in
    let test : c.test.result ≡ p (get_or rows i no_row) = is (get_or rows i no_row) c.test.result (record { shown = _; shows = refl; says = record { met = c.test.ensures } }) in
    c.added-sum.ensures ∙ ap (λ z. cond c.test.result (j.join z (j.penalty (get_or rows i no_row))) z) so_far
    ∙ ap (λ (b : Bool). cond b with_it before) test ∙ sym more
