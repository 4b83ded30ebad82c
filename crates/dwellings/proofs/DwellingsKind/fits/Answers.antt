use Rattle.std.proofs.Common.{◌≡◌, ℕ, ap, ◌∙◌}
use Rattle.points.specs.Sets.{has}
use Rattle.kinds.specs.Layouts.{fit}
use Rattle.dwellings.specs.Dwellings.{dwellings, compass}
use Rattle.kinds.proofs.Framed.{composes, decides_as}
use Rattle.kinds.proofs.Tabled.{entry_fits}
use Rattle.dwellings.specs.Charted.{charted}
use Rattle.dwellings.proofs.DwellingsKind.fits.Goals as goal

pub returns : goal.returns
returns c =
    let right : c.contains.result ≡ fit compass c.args.c c.args.d c.args.e =
    c.contains.ensures ∙ ap (λ (s : ℕ). has s c.args.e) c.look_up.ensures ∙ entry_fits compass tt c.args.c c.args.d c.args.e in
    record { test = right; exactly = decides_as c.contains.result (fit compass c.args.c c.args.d c.args.e) right (composes dwellings compass charted c.args.c c.args.d c.args.e) }
