use Rattle.std.proofs.Common.{ℕ, ap, ◌∙◌, arith}
use Rattle.points.proofs.Tabled.{rank_drawn}
use Rattle.moments.specs.declared.Moment.{Moment}
use Rattle.moments.specs.Moments.{line}
use Rattle.moments.proofs.MomentsKind.value.Goals as goal

pub returns : goal.returns
returns c =
    ap {B = Moment} (λ (n : ℕ). record { at = n })
    (c.rank.ensures.is ∙ rank_drawn c.line.result.orders 1 (line.side 0) c.line.ensures c.args.items c.args.scenario.now c.args.item 0 (omega arith))
