-- What the loop over the codes keeps.
use Rattle.std.proofs.Common.{◌≡◌}
use Rattle.statements.specs.Drafts.{converses}
use Rattle.statements.proofs.converses.converses.Given as goal

abbrev pub invariant-loop-code : goal.invariant-loop-code
invariant-loop-code g l = l.turned ≡ converses g.K.Kind.meaning.converse l.code l.set
