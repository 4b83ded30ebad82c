use Rattle.std.proofs.Common.{rules}
use Rattle.reports.proofs.printed.DwellingsPrintedKind.write_value.Goals as goal

-- Given, since a wrong body is refused 3 s sooner with it.
pub returns : goal.returns
returns c = search rules fits 100
