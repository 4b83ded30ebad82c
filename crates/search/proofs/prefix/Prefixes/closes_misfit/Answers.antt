-- The triples that a pair closes, as the three parts of the scenario have them.
use Rattle.std.proofs.Common.{◌≡◌, ℕ, ◌+◌, ◌≤◌, Bool, not, List, get_or, ap, ◌∙◌, arith}
use Rattle.points.specs.Scenarios.{pairs}
use Rattle.points.proofs.Placed.{pairs_up}
use Rattle.rules.specs.Steps.{some}
use Rattle.search.specs.Closed.{rules_of}
use Rattle.search.proofs.Prefixes.{parts_some, unfit_closed}
use Rattle.search.proofs.prefix.Prefixes.closes_misfit.Goals as goal

pub overflow_add-first : goal.overflow_add-first
overflow_add-first g c =
    let up = pairs_up c.sides-low.result.0 c.sides-low.result.1 c.sides-low.ensures.rising in
    omega (arith, c.args.self.now.tables.now.sheet.now.fits, c.requires.within, c.sides-low.ensures.placed, up, c.pairs-first.ensures, c.pairs-third.ensures)

pub slice_bounds-misfits-end : goal.slice_bounds-misfits-end
slice_bounds-misfits-end g c =
    let up = pairs_up c.sides-low.result.0 c.sides-low.result.1 c.sides-low.ensures.rising in
    omega (arith, c.requires, c.sides-low.ensures.placed, up, c.pairs-first.ensures, c.pairs-third.ensures)

pub returns : goal.returns
returns g c =
    let sheet = c.args.self.now.tables.now.sheet.now in
    let a : List ℕ = c.args.self.now.cursor.now in
    let fit : ℕ → ℕ → ℕ → Bool = g.K.Kind.fit in
    let low : ℕ = c.sides-low.result.0 in
    let high : ℕ = c.sides-low.result.1 in
    let placed = c.sides-low.ensures.placed in
    let rising = c.sides-low.ensures.rising in
    let up : pairs low + low ≤ pairs high = pairs_up low high rising in
    let test : ℕ → ℕ → Bool = λ x y. not (fit x (get_or a c.args.spot 0) y) in
    let count : c.from-count.result ≡ c.sides-low.result.0 = c.from-count.ensures in
    let parts = parts_some test a c.pairs-first.result c.pairs-third.result c.from-count.result
    (omega (arith, c.requires, placed, up, count, c.pairs-first.ensures)) (omega (arith, c.requires, placed, count, c.pairs-third.ensures)) in
    unfit_closed (rules_of sheet fit g.T.Joins.joining g.T.Tally.order) sheet.items c.args.spot low high a c.misfits.result placed rising c.requires.within
    (c.misfits.ensures ∙ parts
    ∙ ap (λ (z : ℕ). some z (λ i. test (get_or a (c.pairs-first.result + i) 0) (get_or a (c.pairs-third.result + i) 0))) count
    ∙ ap (λ (z : ℕ). some low (λ i. test (get_or a (z + i) 0) (get_or a (c.pairs-third.result + i) 0))) c.pairs-first.ensures
    ∙ ap (λ (z : ℕ). some low (λ i. test (get_or a (pairs low + i) 0) (get_or a (z + i) 0))) c.pairs-third.ensures)
