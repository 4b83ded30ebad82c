use Rattle.std.proofs.Common.{◌≡◌, ℕ, sym, ap, ◌∙◌, subst, arith}
use Rattle.statements.specs.Drafts.{converses, Turned}
use Rattle.statements.proofs.Turned.{turned}
use Rattle.statements.proofs.converses.converses.Goals as goal

pub returns-clause-turned : goal.returns-clause-turned
returns-clause-turned g c =
    let conv : ℕ → ℕ = g.K.Kind.meaning.converse in
    let last : c.loop-code.code ≡ g.K.Kind.meaning.codes = omega (arith, c.loop-code.auto, c.loop-code-test.false, c.count-code-end.ensures) in
    subst (Turned g.K.Kind.meaning c.args.set) (sym (c.loop-code.invariant ∙ ap (λ (n : ℕ). converses conv n c.args.set) last))
    (turned g.K.Kind.meaning g.met.K.Kind.lawful g.met.K.Kind.involutive c.args.set)
