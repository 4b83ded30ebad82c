use Rattle.std.proofs.Common.{rules, tests}
use Rattle.tallies.proofs.by_weight.ByWeightTally.at_most.Goals as goal

-- Given, since a wrong body is refused 4 s sooner with it.
pub returns : goal.returns
returns c = search (tests, rules)
