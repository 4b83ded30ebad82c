use Rattle.std.proofs.Common.{sym, append_assoc}
use Rattle.std.proofs.lemmas.Result.{IfOk-weaker}
use Rattle.reports.proofs.fault.fault_text.Goals as goal

pub returns : goal.returns
returns c = IfOk-weaker c.format.result _ _ (λ s h. simp append_assoc (rw (sym c.number-number.ensures, sym c.field-field.ensures) h)) c.format.ensures.ok
