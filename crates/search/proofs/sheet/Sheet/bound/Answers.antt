-- One more pair with each turn.
use Rattle.std.proofs.Common.{rules}
use Rattle.search.specs.Closed.{rows_of}
use Rattle.rules.proofs.Bounds.{bounds_push}
use Rattle.search.proofs.Loops.{turn_joins}
use Rattle.rules.proofs.Properly.{proper_is}
use Rattle.search.proofs.sheet.Sheet.bound.Goals as goal

pub loop-spot-preserved : goal.loop-spot-preserved
loop-spot-preserved g c =
    let self = c.args.self.now in
    turn_joins g.T.Joins.joining.join (c.least-bound.ensures (rows_of self) c.loop-spot.spot-counter (λ z x l e. search rules)) c.loop-spot.invariant
    (bounds_push g.T.Joins.joining g.met.T.Joins.monoid g.T.Tally.order self.items (rows_of self)
    (proper_is self.items (rows_of self) self.sound) self.codes c.loop-spot.spot-counter)
    c.join-sum.ensures
