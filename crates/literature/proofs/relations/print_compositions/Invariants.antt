-- The lines so far were written.
use Rattle.std.specs.Io.KnownBytes.{Appends}
use Rattle.literature.specs.Printed.{below, composition_line}
use Rattle.literature.proofs.relations.print_compositions.Given as goal

abbrev pub invariant-loop-c : goal.invariant-loop-c
invariant-loop-c g l =
    Appends (g.W.Write.contents l.initial.out) (g.W.Write.contents l.out)
    (below (λ c. below (composition_line g.K.Notation.words g.K.Notation.initial g.K.Kind.fit c) g.K.Kind.meaning.codes) l.c)

abbrev pub invariant-loop-d : goal.invariant-loop-d
invariant-loop-d g l =
    Appends (g.W.Write.contents l.initial.out) (g.W.Write.contents l.out) (below (composition_line g.K.Notation.words g.K.Notation.initial g.K.Kind.fit l.c) l.d)
