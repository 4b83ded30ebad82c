use Rattle.std.proofs.Common.{refl}
use Rattle.points.proofs.Tabled.{axis_right}
use Rattle.spells.specs.Spells.{timeline as timeline_layout}
use Rattle.spells.specs.Spelled.{side_beyond}
use Rattle.spells.proofs.table.timeline.Goals as goal

pub returns : goal.returns
returns c = axis_right 13 2 (timeline_layout.side 0) _ refl tt side_beyond
