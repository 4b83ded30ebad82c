-- The score lacks nothing exactly if the pairs so far agree; their relations were met.
use Rattle.std.proofs.Common.{ℕ, ◌<◌, get_or}
use Rattle.literature.specs.Held.{ConverseHeld}
use Rattle.literature.specs.Published.{ConverseAgrees}
use Rattle.literature.specs.declared.published.Turned.{Turned}
use Rattle.literature.proofs.Compared.{HeldBelow}
use Rattle.literature.proofs.Lacking.{Counts}
use Rattle.literature.proofs.Completed.{MetBelow}
use Rattle.literature.proofs.comparison.hold_converses.Given as goal

abbrev pub invariant-loop-relation : goal.invariant-loop-relation
invariant-loop-relation g l =
    (Counts 0 l.comparison.score.lacking
    ((k : ℕ) → k < l.relation-index → (turned : Turned) → ConverseAgrees g.K.Kind.meaning g.K.Notation.words l.letters.0.now (get_or l.pairs k turned)) × MetBelow g.K.Kind.meaning g.K.Notation.words l.letters.0.now 0 (λ turned. turned.0.now) l.pairs l.relation-index l.comparison.met)
    × HeldBelow g.K.Notation.words g.K.Notation.initial l.initial.comparison.score (λ k e. (turned : Turned) → ConverseHeld g.K.Kind.meaning g.K.Notation.words l.letters.0.now (get_or l.pairs k turned) e) l.relation-index l.comparison.score (g.W.Write.contents l.initial.out) (g.W.Write.contents l.out)
