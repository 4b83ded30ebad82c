-- The score lacks nothing exactly if the laws so far hold.
use Rattle.std.proofs.Common.{ℕ, ◌<◌, get_or}
use Rattle.literature.specs.Laws.{HoldsOfAll}
use Rattle.literature.specs.Tried.{LawTried}
use Rattle.literature.specs.declared.laws.AlgebraLaw.{AlgebraLaw}
use Rattle.literature.proofs.Trials.{TriedBelow}
use Rattle.literature.proofs.Lacking.{Counts}
use Rattle.literature.proofs.laws.try_named.Given as goal

abbrev pub invariant-loop-law : goal.invariant-loop-law
invariant-loop-law g l =
    (Counts 0 l.score.lacking ((k : ℕ) → k < l.law-index → (d : AlgebraLaw) → HoldsOfAll g.K.Kind.meaning (get_or l.laws k d)))
    × TriedBelow g.K.Notation.words l.name l.initial.score (λ k some. (d : AlgebraLaw) → LawTried g.K.Kind.meaning (get_or l.laws k d) some) l.law-index l.score (g.W.Write.contents l.initial.out) (g.W.Write.contents l.out)
