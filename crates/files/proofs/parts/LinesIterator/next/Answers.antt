use Rattle.std.proofs.Common.{◌∷◌, sym, refl, ap, ◌∙◌, length, arith, false-eqb}
use Rattle.files.specs.Parts.{lines}
use Rattle.files.proofs.Parting.{line_given}
use Rattle.files.proofs.parts.LinesIterator.next.Goals as goal

pub returns-clause-steps : goal.returns-clause-steps
returns-clause-steps c =
    line_given c.args.self.now.rest.now c.split_once.result.0.now c.split_once.result.1 _ (false-eqb _ 0 c.if-is_empty.ensures) c.split_once.ensures refl
    ∙ ap (λ r. c.split_once.result.0.now ∷ lines r.now) (sym c.unwrap_or-self.ensures)

pub returns-clause-goes : goal.returns-clause-goes
returns-clause-goes c =
    let fewer = ap length (returns-clause-steps c) in
    record { on = λ _. (tt, tt, omega (arith, fewer)); keeps = tt; rests = λ _. tt }
