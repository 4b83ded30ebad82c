use Rattle.figures.proofs.Figured.{figures, words}
use Rattle.figures.proofs.count.Goals as goal

pub returns-clause-hold : goal.returns-clause-hold
returns-clause-hold c = figures

pub returns-clause-words : goal.returns-clause-words
returns-clause-words c = words
