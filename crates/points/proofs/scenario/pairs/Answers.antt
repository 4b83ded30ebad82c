use Rattle.std.proofs.Common.{ℕ, ◌-◌, ◌*◌, ◌/◌, ap, ◌∙◌}
use Rattle.points.proofs.Placed.{pairs_half}
use Rattle.points.proofs.scenario.pairs.Goals as goal

pub returns : goal.returns
returns c =
    ap (λ (k : ℕ). c.from-n.result * k / 2) c.saturating_sub.ensures
    ∙ ap (λ (n : ℕ). n * (n - 1) / 2) c.from-n.ensures
    ∙ pairs_half c.args.n
