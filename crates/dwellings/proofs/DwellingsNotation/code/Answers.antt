use Rattle.std.proofs.Common.{rules, tests}
use Rattle.dwellings.proofs.DwellingsNotation.code.Goals as goal

-- Given, since a wrong body is refused 5 s sooner with it.
pub returns-in-115-3 : goal.returns-in-115-3
returns-in-115-3 c = search (tests, rules) fits 100
