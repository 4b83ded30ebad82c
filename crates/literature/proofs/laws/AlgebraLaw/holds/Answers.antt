-- Each law compares two sets, or tests, that are decided.
use Rattle.std.proofs.Common.{ℕ, Decides, eqb, sym, subst}
use mathlib.Core.Bool.{beq}
use Rattle.kinds.specs.Meaning.{Fits}
use Rattle.kinds.specs.Composition.{Composition}
use Rattle.literature.specs.Laws.{LawHolds}
use Rattle.literature.proofs.Agreeing.{equal_sets, equal_tests}
use Rattle.literature.proofs.Composites.{composed_turned, composed_with, with_composed}
use Rattle.literature.proofs.laws.AlgebraLaw.holds.Goals as goal

pub returns-in-LeftIdentity : goal.returns-in-LeftIdentity
returns-in-LeftIdentity g c =
    subst (λ law. Decides (eqb c.compose.result c.single.result) (LawHolds g.K.Kind.meaning law c.args.r c.args.s c.args.t)) (sym c.in-LeftIdentity.is)
    (equal_sets c.compose.result c.single.result c.compose.ensures c.single.ensures)

pub returns-in-RightIdentity : goal.returns-in-RightIdentity
returns-in-RightIdentity g c =
    subst (λ law. Decides (eqb c.compose-in-RightIdentity.result c.single-in-RightIdentity.result) (LawHolds g.K.Kind.meaning law c.args.r c.args.s c.args.t)) (sym c.in-RightIdentity.is)
    (equal_sets c.compose-in-RightIdentity.result c.single-in-RightIdentity.result c.compose-in-RightIdentity.ensures c.single-in-RightIdentity.ensures)

pub returns-in-ConverseOfComposition : goal.returns-in-ConverseOfComposition
returns-in-ConverseOfComposition g c =
    let m = g.K.Kind.meaning in
    let turned : Composition m (m.converse c.args.s) (m.converse c.args.r) c.compose-in-ConverseOfComposition-2.result =
    subst (λ (d : ℕ). Composition m (m.converse c.args.s) d c.compose-in-ConverseOfComposition-2.result) c.converse-in-ConverseOfComposition-2.ensures
    (subst (λ (b : ℕ). Composition m b c.converse-in-ConverseOfComposition-2.result c.compose-in-ConverseOfComposition-2.result) c.converse-in-ConverseOfComposition.ensures
    c.compose-in-ConverseOfComposition-2.ensures) in
    subst (λ law. Decides (eqb c.converses.result c.compose-in-ConverseOfComposition-2.result) (LawHolds m law c.args.r c.args.s c.args.t)) (sym c.in-ConverseOfComposition.is)
    (equal_sets c.converses.result c.compose-in-ConverseOfComposition-2.result
    (composed_turned m g.met.K.Kind.lawful g.met.K.Kind.involutive c.args.r c.args.s _ _ c.compose-in-ConverseOfComposition.ensures c.converses.ensures) turned)

pub returns-in-Associativity : goal.returns-in-Associativity
returns-in-Associativity g c =
    let m = g.K.Kind.meaning in
    let laws = g.met.K.Kind.lawful in
    subst (λ law. Decides (eqb c.compositions.result c.compositions-in-Associativity.result) (LawHolds m law c.args.r c.args.s c.args.t)) (sym c.in-Associativity.is)
    (equal_sets c.compositions.result c.compositions-in-Associativity.result
    (composed_with m laws c.args.r c.args.s c.args.t _ _ _ c.compose-in-Associativity.ensures c.single-in-Associativity.ensures c.compositions.ensures)
    (with_composed m laws c.args.r c.args.s c.args.t _ _ _ c.single-in-Associativity-2.ensures c.compose-in-Associativity-2.ensures c.compositions-in-Associativity.ensures))

pub returns-then-fits : goal.returns-then-fits
returns-then-fits g c =
    let m = g.K.Kind.meaning in
    let before : Decides c.fits.result (Fits m (m.converse c.args.r) c.args.t c.args.s) =
    subst (λ (b : ℕ). Decides c.fits.result (Fits m b c.args.t c.args.s)) c.converse-in-Cycle.ensures c.fits.ensures.exactly in
    let after : Decides c.fits-then-fits.result (Fits m c.args.t (m.converse c.args.s) c.args.r) =
    subst (λ (d : ℕ). Decides c.fits-then-fits.result (Fits m c.args.t d c.args.r)) c.converse-then-fits.ensures c.fits-then-fits.ensures.exactly in
    let first = equal_tests c.fits-fits.result c.fits.result c.fits-fits.ensures.exactly before in
    let second = equal_tests c.fits-fits.result c.fits-then-fits.result c.fits-fits.ensures.exactly after in
    subst (λ law. Decides (beq c.fits-fits.result c.fits-then-fits.result) (LawHolds m law c.args.r c.args.s c.args.t)) (sym c.in-Cycle.is)
    (λ same. (first.0 c.if-fits.true, second.0 same), λ both. second.1 both.1)
