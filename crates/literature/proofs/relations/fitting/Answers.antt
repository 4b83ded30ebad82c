-- One more triple, and the triples of one more relation.
use Rattle.std.proofs.Common.{◌≡◌, ℕ, Bool, List, [], ◌∷◌, ◌++◌, ap, arith}
use Rattle.literature.specs.Printed.{below}
use Rattle.literature.proofs.Scored.{score_below, score_more}
use Rattle.literature.proofs.relations.fitting.Goals as goal

pub loop-e-preserved : goal.loop-e-preserved
loop-e-preserved g c =
    let b = g.K.Kind.meaning.codes in
    let fit = g.K.Kind.fit in
    let first = below (λ c. below (λ d. below (λ e. fit c d e ∷ []) b) b) c.loop-c.c in
    let second = below (λ d. below (λ e. fit c.loop-c.c d e ∷ []) b) c.loop-d.d in
    let third : ℕ → List Bool = λ e. fit c.loop-c.c c.loop-d.d e ∷ [] in
    score_below (first ++ second) third c.loop-e.e (c.fits.result ∷ []) c.count.new.self
    (score_more ((first ++ second) ++ below third c.loop-e.e) c.fits.result c.loop-e.score c.count.new.self c.loop-e.invariant c.count.ensures)
    (ap (λ (t : Bool). t ∷ []) c.fits.ensures.test)

pub loop-d-preserved : goal.loop-d-preserved
loop-d-preserved g c =
    let b = g.K.Kind.meaning.codes in
    let fit = g.K.Kind.fit in
    let first = below (λ c. below (λ d. below (λ e. fit c d e ∷ []) b) b) c.loop-c.c in
    let third : ℕ → List Bool = λ e. fit c.loop-c.c c.loop-d.d e ∷ [] in
    let end : c.loop-e.e ≡ b = omega arith in
    score_below first (λ d. below (λ e. fit c.loop-c.c d e ∷ []) b) c.loop-d.d (below third c.loop-e.e) c.loop-e.score c.loop-e.invariant (ap (below third) end)

pub loop-c-preserved : goal.loop-c-preserved
loop-c-preserved g c =
    let b = g.K.Kind.meaning.codes in
    let fit = g.K.Kind.fit in
    let second : ℕ → List Bool = λ d. below (λ e. fit c.loop-c.c d e ∷ []) b in
    let end : c.loop-d.d ≡ b = omega arith in
    score_below [] (λ c. below (λ d. below (λ e. fit c d e ∷ []) b) b) c.loop-c.c (below second c.loop-d.d) c.loop-d.score c.loop-d.invariant (ap (below second) end)
