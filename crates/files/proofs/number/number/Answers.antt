use Rattle.std.proofs.Common.{rules}
use Rattle.files.specs.Numbers.{is_number}
use Rattle.files.proofs.Digits.{as_written}
use Rattle.files.proofs.number.number.Goals as goal

pub returns-in_default : goal.returns-in_default
unfolding is_number
returns-in_default c = record { number = search rules; written = as_written c.args.field.now _ (search rules) }

pub returns-in_default-2 : goal.returns-in_default-2
unfolding is_number
returns-in_default-2 c = record { number = search rules; written = as_written c.args.field.now _ (search rules) }

pub returns-in-empty : goal.returns-in-empty
unfolding is_number
returns-in-empty c = record { number = search rules; written = as_written c.args.field.now _ (search rules) }

pub returns-in-empty-2 : goal.returns-in-empty-2
unfolding is_number
returns-in-empty-2 c = record { number = search rules; written = as_written c.args.field.now _ (search rules) }
