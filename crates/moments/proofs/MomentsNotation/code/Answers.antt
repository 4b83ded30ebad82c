use Rattle.std.proofs.Common.{rules, tests}
use Rattle.moments.proofs.MomentsNotation.code.Goals as goal

-- Given, since a wrong body is refused 4 s sooner with it.
pub returns-in-60 : goal.returns-in-60
returns-in-60 c = search (tests, rules) fits 100
