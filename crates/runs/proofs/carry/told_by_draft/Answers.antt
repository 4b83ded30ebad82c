use Rattle.std.proofs.Common.{rules}
use Rattle.runs.proofs.carry.told_by_draft.Goals as goal

-- These three are given, since a wrong body is refused 11 to 13 s sooner with them.
pub returns-clause-carries : goal.returns-clause-carries
returns-clause-carries g c = search rules fits 400

pub returns-in_err-strike-in-Strike-clause-carries : goal.returns-in_err-strike-in-Strike-clause-carries
returns-in_err-strike-in-Strike-clause-carries g c = search rules fits 100

pub returns-in_err-reweigh-in-Reweigh-clause-carries : goal.returns-in_err-reweigh-in-Reweigh-clause-carries
returns-in_err-reweigh-in-Reweigh-clause-carries g c = search rules fits 100

-- Given, since a wrong body is refused 9 s sooner with it.
pub returns-clause-unmade : goal.returns-clause-unmade
returns-clause-unmade g c = search rules fits 400
