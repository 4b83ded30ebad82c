use Rattle.std.proofs.Common.{◌≡◌, ℕ, ap, ◌∙◌}
use Rattle.points.specs.Sets.{has}
use Rattle.kinds.specs.Layouts.{fit}
use Rattle.moments.specs.Moments.{moments, line}
use Rattle.kinds.proofs.Framed.{composes, decides_as}
use Rattle.kinds.proofs.Tabled.{entry_fits}
use Rattle.moments.specs.Timed.{timed}
use Rattle.moments.proofs.MomentsKind.fits.Goals as goal

pub returns : goal.returns
returns c =
    let right : c.contains.result ≡ fit line c.args.c c.args.d c.args.e =
    c.contains.ensures ∙ ap (λ (s : ℕ). has s c.args.e) c.look_up.ensures ∙ entry_fits line tt c.args.c c.args.d c.args.e in
    record { test = right; exactly = decides_as c.contains.result (fit line c.args.c c.args.d c.args.e) right (composes moments line timed c.args.c c.args.d c.args.e) }
