use Rattle.std.proofs.Common.{rules}
use Rattle.search.proofs.ledger.Ledger.new.Goals as goal

-- Given, since a wrong body is refused 8 s sooner with it.
pub invariant_of-result : goal.invariant_of-result
invariant_of-result g c = search rules fits 100
