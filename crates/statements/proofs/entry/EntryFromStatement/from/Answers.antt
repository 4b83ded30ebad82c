use Rattle.std.proofs.Common.{rules}
use Rattle.statements.proofs.entry.EntryFromStatement.from.Goals as goal

-- Given, since the search for it takes 2 s where it fails.
pub returns : goal.returns
returns c = search rules fits 100
