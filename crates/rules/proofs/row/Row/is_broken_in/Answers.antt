use Rattle.std.proofs.Common.{rules}
use Rattle.rules.proofs.row.Row.is_broken_in.Goals as goal

-- Given, since the search for it takes 6 s where it fails.
pub returns : goal.returns
returns c = search rules fits 100
