use Rattle.std.proofs.Common.{rules, tests}
use Rattle.kinds.proofs.table.look_up.Goals as goal

-- Given, since a wrong body is refused 5 s sooner with it.
pub returns-in-Some : goal.returns-in-Some
returns-in-Some g c = search (tests, rules) fits 400
