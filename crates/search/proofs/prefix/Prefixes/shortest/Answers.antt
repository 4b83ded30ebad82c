-- One more prefix with each turn.
use Rattle.std.proofs.Common.{rules, ◌≡◌, ◌+◌, sym, ◌∙◌, arith, below_more}
use Rattle.points.specs.Scenarios.{pairs}
use Rattle.search.specs.Closed.{rows_of, rules_of}
use Rattle.rules.specs.Steps.{refuted}
use Rattle.rules.proofs.Advances.{first_at, first_past}
use Rattle.search.proofs.prefix.Prefixes.shortest.Goals as goal

pub returns-then-is_refuted-clause-is : goal.returns-then-is_refuted-clause-is
returns-then-is_refuted-clause-is g c =
    let sheet = c.args.self.now.tables.now.sheet.now in
    let r = rules_of sheet g.K.Kind.fit g.T.Joins.joining g.T.Tally.order in
    sym (first_at (refuted r sheet.items (rows_of sheet) c.args.best c.args.self.now.cursor.now) (pairs sheet.items + 1) 0 c.loop-length.length
    (omega arith) (omega (arith, c.loop-length-test.true, c.args.self.now.long)) (λ z lo l. c.loop-length.invariant.stands z l) (c.is_refuted.ensures ∙ c.if-is_refuted.true))

pub returns-else-is_refuted-clause-is : goal.returns-else-is_refuted-clause-is
returns-else-is_refuted-clause-is g c =
    let sheet = c.args.self.now.tables.now.sheet.now in
    let r = rules_of sheet g.K.Kind.fit g.T.Joins.joining g.T.Tally.order in
    let known = c.loop-length.invariant in
    let e : c.loop-length.length ≡ pairs c.args.self.now.tables.now.sheet.now.items = omega (arith, c.loop-length.auto, c.loop-length-test.true, c.requires) in
    let up : pairs c.args.self.now.tables.now.sheet.now.items + 1 ≡ 0 + (pairs c.args.self.now.tables.now.sheet.now.items + 1) = omega arith in
    up ∙ sym (first_past (refuted r sheet.items (rows_of sheet) c.args.best c.args.self.now.cursor.now) (pairs sheet.items + 1) 0
    (λ z lo l. below_more _ _ known.stands (c.is_refuted.ensures ∙ c.if-is_refuted.false) z (omega (arith, l, e))))

pub returns-clause-is : goal.returns-clause-is
returns-clause-is g c =
    let sheet = c.args.self.now.tables.now.sheet.now in
    let r = rules_of sheet g.K.Kind.fit g.T.Joins.joining g.T.Tally.order in
    let e : c.loop-length.length ≡ pairs c.args.self.now.tables.now.sheet.now.items + 1 = omega (arith, c.loop-length.auto, c.loop-length-test.false, c.requires) in
    let up : pairs c.args.self.now.tables.now.sheet.now.items + 1 ≡ 0 + (pairs c.args.self.now.tables.now.sheet.now.items + 1) = omega arith in
    up ∙ sym (first_past (refuted r sheet.items (rows_of sheet) c.args.best c.args.self.now.cursor.now) (pairs sheet.items + 1) 0
    (λ z lo l. c.loop-length.invariant.stands z (omega (arith, l, e))))

-- These two are given, since a wrong body is refused 17 s sooner with them.
pub loop-length-preserved : goal.loop-length-preserved
loop-length-preserved g c = search rules fits 400

pub returns-else-is_refuted-clause-known : goal.returns-else-is_refuted-clause-known
returns-else-is_refuted-clause-known g c = search rules fits 400
