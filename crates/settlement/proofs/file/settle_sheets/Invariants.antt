use Rattle.std.proofs.Common.{length}
use Rattle.files.specs.Views.{view_of}
use Rattle.settlement.proofs.Settling.{Stands}
use Rattle.settlement.proofs.file.settle_sheets.Given as goal

-- the sheets before the reader are settled
abbrev pub invariant-loop-head : goal.invariant-loop-head
invariant-loop-head g l = Stands l.initial.file (g.W.Write.contents l.initial.out) (g.W.Write.contents l.out) l.number (view_of l.reader)

abbrev pub decreases-loop-head : goal.decreases-loop-head
decreases-loop-head g l = length (view_of l.reader).ahead
