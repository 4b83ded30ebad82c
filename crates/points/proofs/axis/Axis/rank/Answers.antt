use Rattle.std.proofs.Common.{rules, ℕ, arith}
use Rattle.points.specs.Points.{is_lt}
use Rattle.points.specs.Marks.{stands, in_scenario, drawn}
use Rattle.points.proofs.Ranked.{rank_lemma}
use Rattle.points.proofs.Marked.{count_item}
use Rattle.points.proofs.axis.Axis.rank.Goals as goal

pub loop-k-preserved : goal.loop-k-preserved
loop-k-preserved g c = (
  omega (arith, c.preceding-sum.ensures.few),
  count_item (λ (y : ℕ × ℕ). is_lt (stands (in_scenario (drawn c.args.self.now.orders) c.args.scenario.now) y (c.args.i, c.args.t)))
      g.row.MARKS c.loop-k.k c.loop-k.sum c.preceding-sum.result c.loop-k.invariant.1 (rw c.from.ensures at c.preceding-sum.ensures.is),
)

pub returns-clause-compares : goal.returns-clause-compares
returns-clause-compares g c = rank_lemma

-- These two are given, since a wrong body is refused 6 s sooner with them.
pub loop-k-init : goal.loop-k-init
loop-k-init g c = search rules fits 100

pub returns-clause-is : goal.returns-clause-is
returns-clause-is g c = search rules fits 100
