use Rattle.std.proofs.Common.{rules, tests}
use Rattle.files.proofs.head.HeadTallyTryFromRefSliceU8.try_from.Goals as goal

-- Given, since a wrong body is refused 3 s sooner with it.
pub returns-in-114 : goal.returns-in-114
returns-in-114 c = search (tests, rules) fits 100
