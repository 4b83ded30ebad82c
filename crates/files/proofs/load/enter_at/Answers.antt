use Rattle.std.proofs.Common.{rules}
use Rattle.files.proofs.load.enter_at.Goals as goal

-- These two are given, since a wrong body is refused 16 s sooner with them.
pub returns-in_err-map_err-clause-entered : goal.returns-in_err-map_err-clause-entered
returns-in_err-map_err-clause-entered g c = search rules fits 100

pub returns-clause-entered : goal.returns-clause-entered
returns-clause-entered g c = search rules fits 100
