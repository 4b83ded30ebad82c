use Rattle.std.proofs.Common.{take, vec_items}
use Rattle.rules.specs.Soundness.{rules}
use Rattle.runs.specs.States.{draft_view}
use Rattle.runs.proofs.Carried.{Reaches}
use Rattle.runs.proofs.replay.replay.Given as goal

abbrev pub invariant-loop-call : goal.invariant-loop-call
invariant-loop-call g l =
    Reaches g.K.Kind.meaning g.K.Kind.values (rules g.K.Kind.meaning g.K.Kind.fit g.T.Joins.joining g.T.Tally.order) (draft_view l.fn.draft)
    (take l.call-index l.script) (vec_items l.answers) l.state
