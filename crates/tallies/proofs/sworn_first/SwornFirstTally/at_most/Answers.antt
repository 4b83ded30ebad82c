use Rattle.std.proofs.Common.{rules, tests}
use Rattle.tallies.proofs.sworn_first.SwornFirstTally.at_most.Goals as goal

-- Given, since the search for it takes 5 s where it fails.
pub returns : goal.returns
returns c = search (tests, rules)
