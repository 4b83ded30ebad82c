use Rattle.std.proofs.Common.{vec_items}
use Rattle.rules.specs.Soundness.{rules}
use Rattle.runs.specs.States.{draft_view}
use Rattle.runs.proofs.Carried.{reaches_more, reached_end}
use Rattle.runs.proofs.Lawful.{run_law}
use Rattle.runs.proofs.replay.replay.Goals as goal

pub loop-call-preserved : goal.loop-call-preserved
loop-call-preserved g c =
    reaches_more g.K.Kind.meaning g.K.Kind.values (rules g.K.Kind.meaning g.K.Kind.fit g.T.Joins.joining g.T.Tally.order) (draft_view c.args.draft)
    c.args.script.now c.loop-call.call-index _ (vec_items c.loop-call.answers) (vec_items c.push.new.self) c.in_ok-after.answer c.loop-call.state c.in_ok-after.after
    c.loop-call-test.true c.loop-call.invariant c.in_ok-after.ensures c.in_ok-push.ensures.items

pub returns-clause-law : goal.returns-clause-law
returns-clause-law g c =
    let kind = g.met.K.Kind in
    let draft = c.args.draft in
    run_law g.K.Kind.meaning kind.lawful g.K.Kind.fit kind.composes g.K.Kind.values kind.realises
    g.T.Joins.joining g.met.T.Joins.monoid g.T.Tally.order g.met.T.Tally.ranks
    draft.items draft.rows.items draft.some draft.few draft.sound c.args.script.now c.loop-call.answers.items
    (reached_end g.K.Kind.meaning g.K.Kind.values (rules g.K.Kind.meaning g.K.Kind.fit g.T.Joins.joining g.T.Tally.order) (draft_view draft)
    c.args.script.now c.loop-call.call-index c.loop-call.answers.items c.loop-call.state c.loop-call-test.false c.loop-call.invariant)
