use Rattle.std.proofs.Common.{rules}
use Rattle.statements.proofs.codes.only_codes.Goals as goal

-- Given, since a wrong body is refused 6 s sooner with it.
pub returns-else-codes-ge64 : goal.returns-else-codes-ge64
returns-else-codes-ge64 g c = search rules fits 100
