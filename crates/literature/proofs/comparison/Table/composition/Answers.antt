-- The row, the column and the entry are looked up.
use Rattle.std.proofs.Common.{length, refl, sym, ◌∙◌}
use Rattle.std.proofs.lemmas.Option.{slice_get_read}
use Rattle.literature.proofs.Looked.{entry_of, entry_read}
use Rattle.literature.proofs.comparison.Table.composition.Goals as goal

pub returns : goal.returns
returns g c =
    let table = c.args.self in
    let first = c.args.first.now in
    let second = c.args.second.now in
    let entries = c.in_ok-row.row.now.entries.now in
    let k = c.in_ok-column.column in
    let entry = c.in_ok-get.field-0.now in
    let got = c.in_ok-get.ensures.lookup in
    entry_read table first second g.K.Notation.words c.set.result entry
    (entry_of table first second c.in_ok-row.row.now k (sym c.in_ok-row.ensures) (sym c.in_ok-column.ensures) ∙ slice_get_read entries (length entries) k entry refl got.3.0 got.1) c.set.ensures
