use Rattle.std.proofs.Common.{rules}
use Rattle.files.proofs.fault.LineFault.field.Goals as goal

-- Given, since a wrong body is refused 7 s sooner with it.
pub returns-in-Field : goal.returns-in-Field
returns-in-Field c = search rules fits 100
