use Rattle.std.proofs.Common.{ℕ, ◌%◌, ◌^◌, ◌<◌, ◌≤◌, eqb, sym, ap, ◌∙◌, arith, pow_mono}
use native.Mathlib.Nat.{div-eq_of_lt}
use Rattle.std.proofs.lemmas.Bool.{le-ltb}
use Rattle.std.proofs.lemmas.Grind.{common_steps}
use Rattle.points.proofs.set.contains.Goals as goal

-- a set has no bit past its 64
pub returns-else-code-lt64 : goal.returns-else-code-lt64
returns-else-code-lt64 c =
    let long : 2 ^ 64 ≤ 2 ^ c.args.code = pow_mono c.if-code-lt64.false in
    let small : c.args.set < 2 ^ c.args.code = omega arith in
    le-ltb c.args.code 64 c.if-code-lt64.false ∙ sym (ap (λ (q : ℕ). eqb (q % 2) 1) (div-eq_of_lt small))

-- Given, since a wrong body is refused 5 s sooner with it.
pub returns-then-code-lt64 : goal.returns-then-code-lt64
returns-then-code-lt64 c = grind (arith, common_steps) steps 400000
