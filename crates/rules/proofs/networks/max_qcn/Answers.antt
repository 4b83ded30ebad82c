-- MAX-QCN, from the counts of constraints.
use Rattle.std.proofs.Common.{refl}
use Rattle.rules.proofs.Constraints.{costs_count, max_qcn}
use Rattle.rules.proofs.Stated.{every_stated}
use Rattle.rules.proofs.networks.max_qcn.Goals as goal

-- Given, since a wrong body is refused 4 s sooner with it.
pub returns-clause-weight : goal.returns-clause-weight
returns-clause-weight g c = refl

pub returns-clause-stated : goal.returns-clause-stated
returns-clause-stated g c = every_stated

pub returns-clause-costs : goal.returns-clause-costs
returns-clause-costs g c = costs_count

pub returns-clause-solves : goal.returns-clause-solves
returns-clause-solves g c = max_qcn g.K.Kind.meaning g.K.Kind.fit
