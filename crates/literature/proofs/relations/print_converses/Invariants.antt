-- The lines of the relations so far were written.
use Rattle.std.specs.Io.KnownBytes.{Appends}
use Rattle.literature.specs.Printed.{below, converse_line}
use Rattle.literature.proofs.relations.print_converses.Given as goal

abbrev pub invariant-loop-code : goal.invariant-loop-code
invariant-loop-code g l =
    Appends (g.W.Write.contents l.initial.out) (g.W.Write.contents l.out) (below (converse_line g.K.Notation.words g.K.Kind.meaning.converse) l.code)
