-- The prefixes shorter than this one are not refuted, and their costs are noted.
use Rattle.search.specs.Closed.{rows_of, rules_of}
use Rattle.search.specs.Tables.{Known}
use Rattle.search.proofs.prefix.Prefixes.shortest.Given as goal

abbrev pub invariant-loop-length : goal.invariant-loop-length
invariant-loop-length g l =
    let sheet = l.self.tables.now.sheet.now in
    Known (rules_of sheet g.K.Kind.fit g.T.Joins.joining g.T.Tally.order) sheet.items (rows_of sheet) l.best l.self.cursor.now l.length l.spent
