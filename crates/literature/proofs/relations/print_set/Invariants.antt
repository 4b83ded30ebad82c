-- The words of the relations so far were written.
use Rattle.std.proofs.Common.{cond, ◌∷◌, []}
use Rattle.std.specs.Io.KnownBytes.{Appends}
use Rattle.points.specs.Sets.{has}
use Rattle.literature.specs.Printed.{below, word_of}
use Rattle.literature.proofs.relations.print_set.Given as goal

abbrev pub invariant-loop-code : goal.invariant-loop-code
invariant-loop-code g l =
    Appends (g.W.Write.contents l.initial.out) (g.W.Write.contents l.out) (below (λ c. cond (has l.set c) (32 ∷ word_of g.K.Notation.words c) []) l.code)
