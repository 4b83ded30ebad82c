use Rattle.std.proofs.Common.{List, ℕ, take, replicate, rules, arith, subst}
use Rattle.std.proofs.lemmas.List.{length-replicate}
use Rattle.std.specs.Io.KnownBytes.{Appends}
use Rattle.reports.specs.Faults.{fault_line}
use Rattle.std.proofs.lemmas.Result.{err_from_is_err_and}
use Rattle.settlement.proofs.Lengths.{fault_short, only_memory}
use Rattle.settlement.proofs.Printing.{front}
use Rattle.settlement.proofs.file.print_fault.Goals as goal

-- Given, since a wrong body is refused 15 s sooner with it.
pub returns-clause-printed : goal.returns-clause-printed
returns-clause-printed g c =
    let Prints : List ℕ → Type 0 = Appends (g.W.Write.contents c.args.out.now) (g.W.Write.contents c.write_all.new.self) in
    let wrote : Prints (take c.in_ok-length.length c.write_fault.new.buffer) = search rules in
    let bytes = c.in_ok-length.ensures in
    subst Prints (front (fault_line c.args.fault) _ c.write_fault.new.buffer c.in_ok-length.length bytes.0 bytes.2) wrote

pub returns-in_err-length-clause-fails : goal.returns-in_err-length-clause-fails
returns-in_err-length-clause-fails g c =
    let p = err_from_is_err_and c.from_residual.result c.from_residual.ensures.1 in
    rw (p.1, p.2) (only_memory (fault_line c.args.fault) (replicate 512 0) _ c.in_err-length.field-0.0 (omega (arith, fault_short c.args.fault, length-replicate {A = ℕ} 512 0)) c.in_err-length.ensures)
