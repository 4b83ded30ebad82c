use Rattle.std.proofs.Common.{rules}
use Rattle.tallies.proofs.claim.Claim.counted_weight.Goals as goal

-- Given, since the search for it takes 4 s where it fails.
pub returns : goal.returns
returns c = search rules fits 100
