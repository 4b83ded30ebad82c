use Rattle.std.proofs.Common.{rules}
use Rattle.files.proofs.fault.SheetFault.number.Goals as goal

-- Given, since a wrong body is refused 4 s sooner with it.
pub returns : goal.returns
returns c = search rules fits 100
