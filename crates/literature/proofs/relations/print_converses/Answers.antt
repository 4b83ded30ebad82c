-- One more line.
use Rattle.std.proofs.Common.{append_assoc, refl}
use Rattle.literature.specs.Printed.{converse_line}
use Rattle.literature.proofs.Printing.{appends_next}
use Rattle.literature.proofs.relations.print_converses.Goals as goal

pub loop-code-preserved : goal.loop-code-preserved
loop-code-preserved g c =
    appends_next (converse_line g.K.Notation.words g.K.Kind.meaning.converse) _ _ _ c.loop-code.code _ c.loop-code.invariant c.in_ok-writeln.ensures.bytes
    (simp (append_assoc, c.word.ensures, c.converse.ensures, c.word-in-loop-code.ensures) refl)
