use Rattle.std.proofs.Common.{rules}
use Rattle.runs.proofs.carry.told_by_charge.Goals as goal

-- Given, since a wrong body is refused 11 s sooner with it.
pub returns : goal.returns
returns g c = search rules fits 100
