use Rattle.std.proofs.Common.{refl}
use Rattle.points.proofs.Tabled.{axis_right}
use Rattle.dwellings.specs.Dwellings.{compass}
use Rattle.dwellings.specs.Charted.{eastward_beyond}
use Rattle.dwellings.proofs.eastward.Goals as goal

pub returns : goal.returns
returns c = axis_right 9 1 (compass.side 0) _ refl tt (λ k s t h. eastward_beyond k h)
