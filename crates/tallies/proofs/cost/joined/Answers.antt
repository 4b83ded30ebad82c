-- The loop joins the claims from the last on: all are left at first, and one fewer with each turn.
use Rattle.tallies.proofs.Joins.{onto_empty, onto_last}
use Rattle.tallies.proofs.cost.joined.Goals as goal

pub loop-claim-init : goal.loop-claim-init
loop-claim-init g c =
    let all = onto_empty g.T.Joins.joining c.args.claims.now in
    let first = c.empty-cost.ensures in
    let it = c.into_iter-claim-iterator.ensures.into_iter_gives in
    let rev = c.rev-claim-items.ensures.source in
    let rest = c.iter.ensures.rest in
    cc

pub loop-claim-preserved : goal.loop-claim-preserved
loop-claim-preserved g c =
    let step = onto_last g.T.Joins.joining c.next.new.self.iter.rest.now c.in-Some.claim.now c.loop-claim.cost in
    let left = c.in-Some.ensures.steps in
    let so_far = c.loop-claim.invariant in
    cc (c.penalty.ensures, c.join-cost.ensures)
