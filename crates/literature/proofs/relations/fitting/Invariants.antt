-- The score is that of the triples so far.
use Rattle.std.proofs.Common.{◌≡◌, [], ◌∷◌, ◌++◌}
use Rattle.literature.specs.Printed.{below}
use Rattle.literature.specs.Scores.{score_of}
use Rattle.literature.proofs.relations.fitting.Given as goal

abbrev pub invariant-loop-c : goal.invariant-loop-c
invariant-loop-c g l =
    let b = g.K.Kind.meaning.codes in
    l.score ≡ score_of (below (λ c. below (λ d. below (λ e. g.K.Kind.fit c d e ∷ []) b) b) l.c)

abbrev pub invariant-loop-d : goal.invariant-loop-d
invariant-loop-d g l =
    let b = g.K.Kind.meaning.codes in
    l.score ≡ score_of (below (λ c. below (λ d. below (λ e. g.K.Kind.fit c d e ∷ []) b) b) l.c ++ below (λ d. below (λ e. g.K.Kind.fit l.c d e ∷ []) b) l.d)

abbrev pub invariant-loop-e : goal.invariant-loop-e
invariant-loop-e g l =
    let b = g.K.Kind.meaning.codes in
    l.score ≡ score_of ((below (λ c. below (λ d. below (λ e. g.K.Kind.fit c d e ∷ []) b) b) l.c ++ below (λ d. below (λ e. g.K.Kind.fit l.c d e ∷ []) b) l.d) ++ below (λ e. g.K.Kind.fit l.c l.d e ∷ []) l.e)
