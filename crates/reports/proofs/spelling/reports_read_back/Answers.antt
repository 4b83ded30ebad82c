-- Reports are read back, as values and costs are told apart.
use Rattle.reports.proofs.Read.{reads_back}
use Rattle.reports.proofs.spelling.reports_read_back.Goals as goal

pub returns : goal.returns
returns g c = reads_back _ _ g.met.K.ReadKind.told_apart g.met.K.ReadKind.on_one_line g.met.T.ReadTally.told_apart g.met.T.ReadTally.on_one_line
