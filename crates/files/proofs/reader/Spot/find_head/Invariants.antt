use Rattle.std.proofs.Common.{length}
use Rattle.files.specs.Parts.{lines}
use Rattle.files.proofs.Seeking.{Same}
use Rattle.files.proofs.reader.Spot.find_head.Given as goal

-- what is still ahead gives the same answer, head and rest
abbrev pub invariant-loop-line : goal.invariant-loop-line
invariant-loop-line l = Same l.initial.self.place (lines l.initial.self.ahead.rest.now) l.self.place (lines l.self.ahead.rest.now)

abbrev pub decreases-loop-line : goal.decreases-loop-line
decreases-loop-line l = length (lines l.self.ahead.rest.now)
