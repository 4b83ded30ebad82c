use Rattle.std.proofs.Common.{rules}
use Rattle.settlement.proofs.file.settle_file.Goals as goal

-- These two are given, since a wrong body is refused 30 s sooner with them.
pub returns-in-Ok-clause-fits : goal.returns-in-Ok-clause-fits
returns-in-Ok-clause-fits g c = search rules fits 100

pub returns-in_ok-print_fault-in-Err-Unfit-clause-fits : goal.returns-in_ok-print_fault-in-Err-Unfit-clause-fits
returns-in_ok-print_fault-in-Err-Unfit-clause-fits g c = search rules fits 100
