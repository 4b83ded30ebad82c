-- The score lacks nothing exactly if it lacked nothing when the loop began and the law holds of the relations so far.
use Rattle.std.proofs.Common.{ℕ, ◌<◌}
use Rattle.literature.specs.Laws.{LawHolds}
use Rattle.literature.specs.Tried.{Runs, TriedOnce}
use Rattle.literature.proofs.Trials.{TriedBelow}
use Rattle.literature.proofs.Lacking.{Counts}
use Rattle.literature.proofs.laws.try_law.Given as goal

abbrev pub invariant-loop-r : goal.invariant-loop-r
invariant-loop-r g l =
    (Counts l.initial.score.lacking l.score.lacking
    ((r : ℕ) → r < l.r → (s : ℕ) → s < l.second → (t : ℕ) → t < l.third → LawHolds g.K.Kind.meaning l.law r s t))
    × TriedBelow g.K.Notation.words l.name l.initial.score (λ r. Runs (λ s. Runs (λ t. TriedOnce g.K.Kind.meaning l.law r s t) l.third) l.second) l.r l.score (g.W.Write.contents l.initial.out) (g.W.Write.contents l.out)

abbrev pub invariant-loop-s : goal.invariant-loop-s
invariant-loop-s g l =
    (Counts l.initial.score.lacking l.score.lacking ((s : ℕ) → s < l.s → (t : ℕ) → t < l.third → LawHolds g.K.Kind.meaning l.law l.r s t))
    × TriedBelow g.K.Notation.words l.name l.initial.score (λ s. Runs (λ t. TriedOnce g.K.Kind.meaning l.law l.r s t) l.third) l.s l.score (g.W.Write.contents l.initial.out) (g.W.Write.contents l.out)

abbrev pub invariant-loop-t : goal.invariant-loop-t
invariant-loop-t g l =
    (Counts l.initial.score.lacking l.score.lacking ((t : ℕ) → t < l.t → LawHolds g.K.Kind.meaning l.law l.r l.s t))
    × TriedBelow g.K.Notation.words l.name l.initial.score (λ t. TriedOnce g.K.Kind.meaning l.law l.r l.s t) l.t l.score (g.W.Write.contents l.initial.out) (g.W.Write.contents l.out)
