use Rattle.std.proofs.Common.{ap, ◌∙◌, length, arith}
use Rattle.files.specs.Parts.{left}
use Rattle.files.proofs.Parting.{part_given}
use Rattle.files.proofs.parts.PartsIterator.next.Goals as goal

pub returns-clause-steps : goal.returns-clause-steps
returns-clause-steps c =
    ap (λ o. left (record { by = c.args.self.now.by; rest = o })) c.in_ok-text.was
    ∙ part_given c.args.self.now.by c.in_ok-text.text.now c.split_once.result.0.now c.split_once.result.1 c.split_once.ensures

pub returns-clause-goes : goal.returns-clause-goes
returns-clause-goes c =
    let fewer = ap length (returns-clause-steps c) in
    record { on = λ _. (tt, tt, omega (arith, fewer)); keeps = tt; rests = λ _. tt }
