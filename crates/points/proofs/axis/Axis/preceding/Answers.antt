use Rattle.std.proofs.Common.{ℕ, Bool, ap, ◌∙◌, arith}
use Rattle.std.specs.Ordering.{is_lt as told_is_lt}
use Rattle.points.specs.Points.{is_lt}
use Rattle.points.specs.Marks.{stands, in_scenario, drawn}
use Rattle.points.proofs.Counting.{one}
use Rattle.points.proofs.Compare.{told_lt}
use Rattle.points.proofs.Marked.{count_mark}
use Rattle.points.proofs.axis.Axis.preceding.Goals as goal
use Rattle.points.proofs.axis.Axis.preceding.Goals.{then-is_lt, else-is_lt}

pub loop-s-preserved : goal.loop-s-preserved
loop-s-preserved g c =
    let f : ℕ × ℕ → Bool = λ x. is_lt (stands (in_scenario (drawn c.args.self.now.orders) c.args.scenario.now) x c.args.y) in
    let step =
    count_mark f c.args.k c.loop-s.s c.is_lt.result
    (c.is_lt.ensures ∙ ap told_is_lt c.stands.ensures ∙ told_lt (stands (in_scenario (drawn c.args.self.now.orders) c.args.scenario.now) (c.args.k, c.loop-s.s) c.args.y)) in
    elim c.if-is_lt.branch [
      | then-is_lt w ↦ (let one_more = ap one w.if-is_lt.true in omega arith)
      | else-is_lt w ↦ (let none_more = ap one w.if-is_lt.false in omega arith)
    ]
