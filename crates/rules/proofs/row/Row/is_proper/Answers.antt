use Rattle.std.proofs.Common.{rules, tests}
use Rattle.rules.proofs.row.Row.is_proper.Goals as goal

-- Given, since a wrong body is refused 5 s sooner with it.
pub returns-then-contains : goal.returns-then-contains
returns-then-contains c = search (tests, rules)

-- Given, since a wrong body is refused 5 s sooner with it.
pub returns-else-contains : goal.returns-else-contains
returns-else-contains c = search (tests, rules)
