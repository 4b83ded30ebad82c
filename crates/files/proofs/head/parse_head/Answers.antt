use Rattle.std.proofs.Common.{Err, rules}
use Rattle.files.specs.declared.fault.LineFault.TheVariants.{FieldCount}
use Rattle.files.proofs.Fields.{head_says}
use Rattle.files.proofs.head.parse_head.Goals as goal

pub returns-in_default-clause-says : goal.returns-in_default-clause-says
returns-in_default-clause-says c = head_says c.args.line.now (Err FieldCount) (search rules)

-- Given, since a wrong body is refused 3 s sooner with it.
pub returns-in_err-size-clause-head : goal.returns-in_err-size-clause-head
returns-in_err-size-clause-head c = search rules fits 400

pub returns-in_err-size-clause-says : goal.returns-in_err-size-clause-says
returns-in_err-size-clause-says c = head_says c.args.line.now c.from_residual-in_err-size.result (returns-in_err-size-clause-head c)

pub returns-in_err-tally-clause-says : goal.returns-in_err-tally-clause-says
returns-in_err-tally-clause-says c = head_says c.args.line.now c.from_residual-in_err-tally.result (search rules)

pub returns-in_err-size-2-clause-says : goal.returns-in_err-size-2-clause-says
returns-in_err-size-2-clause-says c = head_says c.args.line.now c.from_residual-in_err-size-2.result (search rules)

pub returns-clause-says : goal.returns-clause-says
returns-clause-says c = head_says c.args.line.now _ (search rules)
