use Rattle.std.proofs.Common.{Some, rules}
use Rattle.files.specs.Views.{view_of}
use Rattle.files.proofs.Standing.{head_stands}
use Rattle.files.proofs.reader.Reader.next_head.Goals as goal

pub returns-clause-stands : goal.returns-clause-stands
returns-clause-stands c = λ file s.
    head_stands file (view_of c.args.self.now) (view_of (record { spot = Some c.find_head.new.self; waiting = c.in_ok-self.field-0 })) (search rules) s

-- These two are given, since a wrong body is refused 4 s sooner with them.
pub returns-in_err-self-clause-after : goal.returns-in_err-self-clause-after
returns-in_err-self-clause-after c = search rules fits 100

pub returns-in_err-self-clause-stands : goal.returns-in_err-self-clause-stands
returns-in_err-self-clause-stands c = search rules fits 100
