use Rattle.std.proofs.Common.{rules}
use Rattle.files.proofs.Lined.{lined}
use Rattle.files.proofs.parts.Lines.new.Goals as goal

pub returns-clause-lined : goal.returns-clause-lined
returns-clause-lined c = lined c.args.rest.now

-- Given, since a wrong body is refused 4 s sooner with it.
pub returns-clause-rest : goal.returns-clause-rest
returns-clause-rest c = search rules fits 100
