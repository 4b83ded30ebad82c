-- A turn sets a code to 0 and carries, or raises it.
use Rattle.std.proofs.Common.{◌≡◌, ℕ, ◌+◌, ◌-◌, ◌<◌, ◌≤◌, length, get_or, sym, ap, ◌∙◌, subst, arith}
use Rattle.std.proofs.lemmas.Grind.{elements}
use Rattle.rules.specs.Orders.{Below, index, past}
use Rattle.rules.proofs.Cursors.{below_front, past_none, turn_rise, turn_zero, turn_carry}
use Rattle.search.proofs.cursor.rise.Goals as goal
use Rattle.search.proofs.cursor.rise.Goals.{else-i-shared-via-then-i-shared+else-cursor-i, else-i-shared-via-else-i-shared}

pub returns-then-cursor-i-clause-moved : goal.returns-then-cursor-i-clause-moved
returns-then-cursor-i-clause-moved c = (turn_rise c.args.codes c.args.shared c.args.cursor.now c.requires.low c.requires.within.0 c.loop-i.i c.loop-i.cursor
    c.loop-i-test.true c.loop-i.invariant.0 c.loop-i.invariant.1 (c.loop-i.invariant.2 (omega (arith, c.if-i-shared.true))) c.if-cursor-i.true).0

pub returns-then-cursor-i-clause-low : goal.returns-then-cursor-i-clause-low
returns-then-cursor-i-clause-low c = (turn_rise c.args.codes c.args.shared c.args.cursor.now c.requires.low c.requires.within.0 c.loop-i.i c.loop-i.cursor
    c.loop-i-test.true c.loop-i.invariant.0 c.loop-i.invariant.1 (c.loop-i.invariant.2 (omega (arith, c.if-i-shared.true))) c.if-cursor-i.true).1

pub loop-i-preserved : goal.loop-i-preserved
loop-i-preserved c =
    let zeroed = turn_zero c.args.codes c.args.shared c.args.cursor.now c.requires.low c.requires.within.0 c.loop-i.i c.loop-i.cursor
    c.loop-i-test.true c.loop-i.invariant.0 c.loop-i.invariant.1 in
    let carry = turn_carry c.args.codes c.args.shared c.args.cursor.now c.requires.low c.requires.within.0 c.loop-i.i c.loop-i.cursor
    c.loop-i-test.true c.loop-i.invariant.0 c.loop-i.invariant.1 c.loop-i.invariant.2 in
    let top : c.loop-i.i - 1 < c.args.shared → c.args.codes ≤ get_or c.loop-i.cursor (c.loop-i.i - 1) 0 + 1 =
    elim c.else-i-shared.branch [
      | else-i-shared-via-then-i-shared+else-cursor-i w ↦ λ _. w.if-cursor-i.false
      | else-i-shared-via-else-i-shared w ↦ λ l. absurd (omega (arith, l, w.if-i-shared.false))
    ] in
    (omega (arith, c.loop-i.invariant.0), zeroed, carry top)

pub returns-clause-ended : goal.returns-clause-ended
returns-clause-ended c =
    let e : c.loop-i.i ≡ 0 = omega (arith, c.loop-i-test.false) in
    c.loop-i.invariant.2 (omega (arith, e))
    ∙ ap (λ (z : ℕ). past c.args.codes (length c.args.cursor.now) z (index c.args.codes c.args.cursor.now)) e
    ∙ past_none c.args.codes c.args.cursor.now c.requires.low

pub returns-clause-low : goal.returns-clause-low
returns-clause-low c =
    subst (Below c.args.codes) (sym c.loop-i.invariant.1)
    (below_front c.args.codes c.loop-i.i (length c.args.cursor.now - c.loop-i.i) c.args.cursor.now (omega (arith, c.requires.coded)) c.requires.low)

-- Given, since a wrong body is refused 4 s sooner with it.
pub loop-i-init : goal.loop-i-init
loop-i-init c = grind (arith, elements) steps 100000
