-- One more line, and the lines of one more relation.
use Rattle.std.proofs.Common.{◌≡◌, ap, refl, arith}
use Rattle.literature.specs.Printed.{below, composition_line}
use Rattle.literature.proofs.Printing.{appends_next}
use Rattle.literature.proofs.relations.print_compositions.Goals as goal

pub loop-d-preserved : goal.loop-d-preserved
loop-d-preserved g c =
    appends_next (composition_line g.K.Notation.words g.K.Notation.initial g.K.Kind.fit c.loop-c.c) _ _ _ c.loop-d.d _ c.loop-d.invariant c.in_ok-print_composition.ensures refl

pub loop-c-preserved : goal.loop-c-preserved
loop-c-preserved g c =
    let line = composition_line g.K.Notation.words g.K.Notation.initial g.K.Kind.fit in
    let end : c.loop-d.d ≡ g.K.Kind.meaning.codes = omega arith in
    appends_next (λ r. below (line r) g.K.Kind.meaning.codes) _ _ _ c.loop-c.c _ c.loop-c.invariant c.loop-d.invariant (ap (below (line c.loop-c.c)) end)
