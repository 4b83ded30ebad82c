use Rattle.std.proofs.Common.{refl}
use Rattle.points.proofs.Tabled.{axis_right}
use Rattle.moments.specs.Moments.{line as line_layout}
use Rattle.moments.specs.Timed.{coded_beyond}
use Rattle.moments.proofs.line.Goals as goal

pub returns : goal.returns
returns c = axis_right 3 1 (line_layout.side 0) _ refl tt (λ k s t h. coded_beyond k h)
