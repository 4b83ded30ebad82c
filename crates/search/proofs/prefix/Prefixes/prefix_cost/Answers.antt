-- The cost of the prefix before it, joined with that of its last pair.
use Rattle.std.proofs.Common.{◌≡◌, ℕ, ◌+◌, ◌-◌, ◌*◌, ◌<◌, get_or, ap, ◌∙◌, arith}
use Rattle.std.proofs.lemmas.List.Elements.{All-from_recursion}
use Rattle.std.proofs.lemmas.List.{get_or_default}
use Rattle.points.specs.Scenarios.{pairs}
use Rattle.rules.specs.Costs.{pair_cost, spent_on}
use Rattle.search.specs.Closed.{rows_of}
use Rattle.rules.proofs.Properly.{proper_is}
use Rattle.rules.proofs.Costs.{pairs_push}
use Rattle.search.proofs.Loops.{turn_joins}
use Rattle.search.proofs.prefix.Prefixes.prefix_cost.Goals as goal

pub returns : goal.returns
returns g c =
    let tables = c.args.self.now.tables.now in
    let sheet = c.args.self.now.tables.now.sheet.now in
    let j = g.T.Joins.joining in
    let rows = rows_of sheet in
    let a = c.args.self.now.cursor.now in
    let few = c.args.self.now.tables.now.sheet.now.fits in
    let last : ℕ = c.args.length - 1 in
    let inside : c.args.length - 1 < pairs c.args.self.now.tables.now.sheet.now.items = omega (arith, c.requires.within, c.if-length-eq0.false) in
    let code : get_or c.args.self.now.cursor.now (c.args.length - 1) 0 < c.args.self.now.tables.now.sheet.now.codes =
    All-from_recursion (λ z. z < sheet.codes) a c.args.self.now.low last 0 (omega (arith, c.args.self.now.long, inside)) in
    let at : ℕ = (c.args.length - 1) * 64 + get_or c.args.self.now.cursor.now (c.args.length - 1) 0 in
    let up : (c.args.length - 1) + 1 ≡ c.args.length = omega (arith, c.if-length-eq0.false) in
    let spent : c.index-spent-last.result ≡ spent_on j rows a last =
    c.index-spent-last.is
    ∙ get_or_default c.args.spent.now last c.index-spent-last.result j.empty (omega (arith, few, inside, c.requires.long))
    ∙ c.requires.known last (omega (arith, c.if-length-eq0.false)) in
    let price : get_or tables.prices.now ((c.args.length - 1) * 64 + c.from-code.result) c.index-self-last.result ≡ pair_cost j rows last (get_or a last 0) =
    ap (λ (z : ℕ). get_or tables.prices.now (last * 64 + z) c.index-self-last.result) c.from-code.ensures
    ∙ get_or_default tables.prices.now at c.index-self-last.result j.empty (omega (arith, few, inside, code, sheet.narrow, tables.prices_long))
    ∙ tables.priced last (get_or a last 0) (omega arith) inside code in
    turn_joins j.join price spent (pairs_push j g.met.T.Joins.monoid sheet.items rows (proper_is sheet.items rows sheet.sound) (λ s. get_or a s 0) last) c.join.ensures
    ∙ ap (spent_on j rows a) up
