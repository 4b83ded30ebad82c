use Rattle.std.proofs.Common.{rules}
use Rattle.dwellings.proofs.DwellingDisplay.fmt.Goals as goal

-- Given, since the search for it takes 6 s where it fails.
pub returns-clause-writes : goal.returns-clause-writes
returns-clause-writes c = search rules fits 100
