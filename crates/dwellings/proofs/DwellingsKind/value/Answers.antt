use Rattle.std.proofs.Common.{ℕ, ◌∙◌, ap₂, arith}
use Rattle.points.proofs.Tabled.{rank_drawn}
use Rattle.dwellings.specs.declared.Dwelling.{Dwelling}
use Rattle.dwellings.specs.Dwellings.{compass}
use Rattle.dwellings.proofs.DwellingsKind.value.Goals as goal

pub returns : goal.returns
returns c =
    ap₂ {C = Dwelling} (λ (e n : ℕ). record { east = e; north = n })
    (c.rank.ensures.is ∙ rank_drawn c.eastward.result.orders 1 (compass.side 0) c.eastward.ensures c.args.items c.args.scenario.now c.args.item 0 (omega arith))
    (c.rank-2.ensures.is ∙ rank_drawn c.northward.result.orders 1 (compass.side 1) c.northward.ensures c.args.items c.args.scenario.now c.args.item 0 (omega arith))
