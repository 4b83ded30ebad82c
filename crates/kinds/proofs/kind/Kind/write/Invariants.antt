use Rattle.std.proofs.Common.{min}
use Rattle.kinds.specs.Pages.{Written}
use Rattle.kinds.proofs.kind.Kind.write.Given as goal

abbrev pub invariant-loop-i : goal.invariant-loop-i
invariant-loop-i g l = Written (min l.i l.items) (g.Self.Kind.values l.items l.scenario) l.initial.page l.page
