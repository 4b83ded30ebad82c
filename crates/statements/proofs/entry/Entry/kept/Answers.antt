use Rattle.std.proofs.Common.{rules}
use Rattle.statements.proofs.entry.Entry.kept.Goals as goal

-- Given, since the search for it takes 8 s where it fails.
pub returns : goal.returns
returns g c = search rules fits 100
