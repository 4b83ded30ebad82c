-- The theorems on charges, from the laws of joining.
use Rattle.rules.proofs.Costs.{pairs_join, charges_join}
use Rattle.rules.proofs.theorems.charges.Goals as goal

pub returns : goal.returns
returns g c =
    let j = g.J.Joins.joining in
    let monoid = g.met.J.Joins.monoid in
    record { pairs = pairs_join j monoid; charges = charges_join j monoid }
