-- One more pair with each turn, from the last on.
use Rattle.std.proofs.Common.{◌≡◌, ℕ, suc, ◌+◌, ◌-◌, ◌*◌, ◌<◌, ◌≤◌, ◌≢◌, length, get_or, set, sym, ap, ◌∙◌, subst, inl, inr, eq-or-lt_of_le, arith, rules}
use Rattle.std.proofs.lemmas.List.{length-set, get_or-set_same, get_or-set_other, get_or_default}
use borrow.Rule.Slice.PartMut.{put_mid}
use Rattle.tallies.specs.Groups.{span}
use Rattle.rules.specs.Costs.{of_rows, pair_cost, pair_bound, owed_from}
use Rattle.search.specs.Closed.{rows_of}
use Rattle.search.proofs.Prefixes.{part_long}
use Rattle.search.proofs.Loops.{bounds_first, turn_joins, put_here, put_later}
use Rattle.search.proofs.sheet.Sheet.fill.Goals as goal

pub loop-spot-preserved : goal.loop-spot-preserved
loop-spot-preserved g c =
    let j = g.T.Joins.joining in
    let order = g.T.Tally.order in
    let self = c.args.self.now in
    let rows = rows_of c.args.self.now in
    let codes : ℕ = c.args.self.now.codes in
    let count : ℕ = c.pairs-count.result in
    let here : ℕ = c.loop-spot.spot - 1 in
    let owed = c.loop-spot.owed in
    let few = c.args.self.now.fits in
    let up : (c.loop-spot.spot - 1) + 1 ≡ c.loop-spot.spot = omega (arith, c.loop-spot-test.true) in
    let next : suc (c.loop-spot.spot - 1) ≡ (c.loop-spot.spot - 1) + 1 = omega arith in
    let inside : c.loop-spot.spot - 1 < c.pairs-count.result = omega (arith, c.loop-spot.auto, c.loop-spot-test.true) in
    let size : (c.loop-spot.spot - 1) * 64 + 64 - (c.loop-spot.spot - 1) * 64 ≡ 64 = omega arith in
    let owed_long = length-set c.args.owed.now c.pairs-count.result c.empty.result in
    let room : (c.loop-spot.spot - 1) * 64 ≤ length c.loop-spot.prices = omega (arith, few, inside, c.pairs-count.ensures, c.loop-spot.auto.prices, c.requires.0) in
    let long : length c.price_pair.new.prices ≡ (c.loop-spot.spot - 1) * 64 + 64 - (c.loop-spot.spot - 1) * 64 =
    c.price_pair.auto.prices
    ∙ part_long c.loop-spot.prices ((c.loop-spot.spot - 1) * 64) 64 (omega (arith, few, inside, c.pairs-count.ensures, c.loop-spot.auto.prices, c.requires.0)) ∙ sym size in
    let rest : c.index-owed-spot.result ≡ span (of_rows j) (pair_bound j order codes rows) (suc here) (count - suc here) =
    c.index-owed-spot.is
    ∙ get_or_default c.loop-spot.owed (here + 1) c.index-owed-spot.result j.empty (omega (arith, few, c.pairs-count.ensures, c.loop-spot.auto, owed_long, c.requires.1, up))
    ∙ c.loop-spot.invariant.1 (here + 1) (omega (arith, up)) (omega (arith, inside))
    ∙ ap (λ (z : ℕ). span (of_rows j) (pair_bound j order codes rows) z (count - z)) (sym next) in
    let bound : c.least-bound.result ≡ pair_bound j order codes rows here = c.least-bound.ensures rows here (λ z x l e.
    let read : x ≡ get_or c.price_pair.new.prices z x = search rules in
    read ∙ get_or_default c.price_pair.new.prices z x j.empty (omega (arith, l, long, size, self.narrow)) ∙ c.price_pair.ensures z l) in
    let joined : c.join.result ≡ owed_from j order codes rows count here =
    turn_joins j.join rest bound (bounds_first j order rows codes here count inside) c.join.ensures in (
      λ s z lo hi l. elim (eq-or-lt_of_le lo) [
        | inl same ↦ subst (λ (k : ℕ). get_or (put_mid (here * 64) (here * 64 + 64 - here * 64) c.loop-spot.prices c.price_pair.new.prices) (k * 64 + z) j.empty ≡ pair_cost j rows k z) same
            (put_here c.loop-spot.prices c.price_pair.new.prices (here * 64) (here * 64 + 64 - here * 64) room long j.empty z (omega (arith, l, size, self.narrow))
            ∙ c.price_pair.ensures z l)
        | inr lt ↦ put_later c.loop-spot.prices c.price_pair.new.prices (here * 64) (here * 64 + 64 - here * 64) room long j.empty (s * 64 + z) (omega (arith, lt, size))
            ∙ c.loop-spot.invariant.0 s z (omega (arith, lt, up)) hi l
      ],
      λ q lo hi. elim (eq-or-lt_of_le lo) [
        | inl same ↦ subst (λ (k : ℕ). get_or (set owed here c.join.result) k j.empty ≡ owed_from j order codes rows count k) same
            (get_or-set_same owed here c.join.result j.empty (omega (arith, few, c.pairs-count.ensures, inside, c.loop-spot.auto, owed_long, c.requires.1)) ∙ joined)
        | inr lt ↦ (let ne : q ≢ c.loop-spot.spot - 1 = omega (arith, lt) in
            get_or-set_other owed here q c.join.result j.empty ne ∙ c.loop-spot.invariant.1 q (omega (arith, lt, up)) hi)
      ],
    )
