use Rattle.std.proofs.Common.{rules}
use Rattle.files.proofs.fault.LineFault.number.Goals as goal

-- Given, since a wrong body is refused 3 s sooner with it.
pub returns-in-NoHead : goal.returns-in-NoHead
returns-in-NoHead c = search rules fits 100
