-- By its cost and the bounds of the other pairs, or by the triples that its last pair closes.
use Rattle.std.proofs.Common.{◌≡◌, ℕ, ◌+◌, ◌-◌, ◌≤◌, Bool, false, ◌||◌, List, length, get_or, ap, ◌∙◌, subst, arith}
use Rattle.std.proofs.Math.Bool.{or-false}
use Rattle.std.proofs.lemmas.Bool.{or_parts}
use Rattle.std.proofs.lemmas.List.{get_or_default}
use Rattle.search.specs.Closed.{rows_of, rules_of}
use Rattle.rules.specs.Costs.{spent_on}
use Rattle.search.specs.Tables.{Owed}
use Rattle.rules.specs.declared.row.Row.{Row}
use Rattle.rules.specs.Steps.{Rules, refuted, unfit}
use Rattle.points.specs.Scenarios.{pairs}
use Rattle.search.proofs.Prefixes.{unfit_zero, refuted_by}
use Rattle.search.proofs.prefix.Prefixes.is_refuted.Goals as goal

-- What is owed by the table, and the prefix by its cost and by whether its triples fit.
module _ {C : Type 0} (r : Rules C) (n : ℕ) (rows : List Row) (best : C) (a : List ℕ) (owed : List C) (long : length owed ≡ 67)
    (bounded : Owed r.joining r.at_most r.codes rows 0 (pairs n) owed) (m : ℕ) (within : m ≤ pairs n) (few : pairs n ≤ 66) where
  by_parts : (cost read bound : C) (u over : Bool) → cost ≡ spent_on r.joining rows a m → bound ≡ r.joining.join cost (get_or owed m read)
      → unfit r n m a ≡ u → over ≡ r.at_most best bound → refuted r n rows best a m ≡ (u || over)
  by_parts cost read bound u over is_cost is_bound is_unfit is_over =
      refuted_by r n rows best a m cost (get_or owed m read) bound u over is_cost
      (get_or_default owed m read r.joining.empty (omega (arith, within, few, long)) ∙ bounded m (omega arith) within) is_bound is_unfit is_over

pub returns-then-length-eq0 : goal.returns-then-length-eq0
returns-then-length-eq0 g c =
    let tables = c.args.self.now.tables.now in
    let sheet = c.args.self.now.tables.now.sheet.now in
    let r = rules_of sheet g.K.Kind.fit g.T.Joins.joining g.T.Tally.order in
    by_parts r sheet.items (rows_of sheet) c.args.best c.args.self.now.cursor.now tables.owed.now tables.owed_long tables.bounded
    c.args.length c.requires.within (sheet.fits) c.args.cost c.index-self-length.result c.join-bound.result false c.at_most.result
    c.requires.cost c.join-bound.ensures
    (ap (λ (z : ℕ). unfit r sheet.items z c.args.self.now.cursor.now) c.if-length-eq0.true ∙ unfit_zero r sheet.items c.args.self.now.cursor.now) c.at_most.ensures
    ∙ c.if-at_most.false

-- Given, since a wrong body is refused 14 s sooner with it.
pub returns : goal.returns
returns g c =
    let tables = c.args.self.now.tables.now in
    let sheet = c.args.self.now.tables.now.sheet.now in
    let a = c.args.self.now.cursor.now in
    let r = rules_of sheet g.K.Kind.fit g.T.Joins.joining g.T.Tally.order in
    let up : (c.args.length - 1) + 1 ≡ c.args.length = omega (arith, c.if-length-eq0.false) in
    let before = (or_parts _ _ (c.requires.stands (c.args.length - 1) (omega (arith, c.if-length-eq0.false)))).0 in
    let closed = subst (λ (z : ℕ). unfit r sheet.items z a ≡ c.closes_misfit.result) up (c.closes_misfit.ensures before) in
    by_parts r sheet.items (rows_of sheet) c.args.best a tables.owed.now tables.owed_long tables.bounded
    c.args.length c.requires.within (sheet.fits) c.args.cost c.index-self-length.result c.join-bound.result c.closes_misfit.result c.at_most.result
    c.requires.cost c.join-bound.ensures closed c.at_most.ensures
    ∙ ap (λ (v : Bool). c.closes_misfit.result || v) c.if-at_most.false ∙ or-false c.closes_misfit.result
