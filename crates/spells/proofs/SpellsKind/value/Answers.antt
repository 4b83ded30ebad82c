use Rattle.std.proofs.Common.{ℕ, ◌∙◌, ap₂, arith}
use Rattle.points.proofs.Tabled.{rank_drawn}
use Rattle.spells.specs.declared.spell.Spell.{Spell}
use Rattle.spells.specs.Spells.{timeline}
use Rattle.spells.proofs.SpellsKind.value.Goals as goal

pub returns : goal.returns
returns c =
    ap₂ {C = Spell} (λ (a b : ℕ). record { start = a; end = b })
    (c.rank.ensures.is ∙ rank_drawn c.timeline-axis.result.orders 2 (timeline.side 0) c.timeline-axis.ensures c.args.items c.args.scenario.now c.args.item 0 (omega arith))
    (c.rank-2.ensures.is ∙ rank_drawn c.timeline-axis.result.orders 2 (timeline.side 0) c.timeline-axis.ensures c.args.items c.args.scenario.now c.args.item 1 (omega arith))
