use Rattle.std.proofs.Common.{rules, tests}
use Rattle.files.proofs.head.HeadKindTryFromRefSliceU8.try_from.Goals as goal

-- Given, since a wrong body is refused 5 s sooner with it.
pub returns-in-68 : goal.returns-in-68
returns-in-68 c = search (tests, rules) fits 100
