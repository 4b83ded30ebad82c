use Rattle.std.proofs.Common.{◌≡◌, ℕ, ap, ◌∙◌}
use Rattle.points.specs.Sets.{has}
use Rattle.kinds.specs.Layouts.{fit}
use Rattle.kinds.proofs.Framed.{composes, decides_as}
use Rattle.kinds.proofs.Tabled.{entry_fits}
use Rattle.spells.specs.Spells.{spells, timeline}
use Rattle.spells.specs.Spelled.{spelled}
use Rattle.spells.proofs.SpellsKind.fits.Goals as goal

pub returns : goal.returns
returns c =
    let right : c.contains.result ≡ fit timeline c.args.c c.args.d c.args.e =
    c.contains.ensures ∙ ap (λ (s : ℕ). has s c.args.e) c.look_up.ensures ∙ entry_fits timeline tt c.args.c c.args.d c.args.e in
    record { test = right; exactly = decides_as c.contains.result (fit timeline c.args.c c.args.d c.args.e) right (composes spells timeline spelled c.args.c c.args.d c.args.e) }
