use Rattle.std.proofs.Common.{rules}
use Rattle.files.proofs.Readings.{reads_file}
use Rattle.reports.specs.Spellings.{spelling_of}
use Rattle.reports.proofs.spelling.heads_read.Goals as goal

pub returns-clause-reads : goal.returns-clause-reads
returns-clause-reads c = λ file had. reads_file file spelling_of had (λ h k t. search rules)
