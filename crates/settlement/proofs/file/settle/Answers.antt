use Rattle.std.proofs.Common.{◌≡◌, ap, ◌∙◌, subst}
use Rattle.std.proofs.lemmas.Result.{IfOk-weaker}
use Rattle.std.specs.Prelude.{IfOk, OnOk, is_none}
use Rattle.std.specs.Io.KnownBytes.{Appends}
use Rattle.settlement.specs.Output.{AllReliable, fault_of, output_of}
use Rattle.settlement.proofs.Cutting.{if_known, cut_of, cut_fault, cut_output, cut_reliable}
use Rattle.settlement.proofs.file.settle.Goals as goal

pub returns-clause-fits : goal.returns-clause-fits
returns-clause-fits g c = if_known (g.R.Read.remaining c.args.input) _ (λ file e.
    let cut = cut_of _ c.as_slice.result.now _ file c.in_ok-file.ensures c.as_slice.ensures.value e in
    subst (λ o. IfOk c.settle_file.result (λ fits. fits ≡ is_none o)) (ap fault_of cut ∙ cut_fault file) c.settle_file.ensures.fits)

pub returns-clause-printed : goal.returns-clause-printed
returns-clause-printed g c = if_known (g.R.Read.remaining c.args.input) _ (λ file e.
    let cut = cut_of _ c.as_slice.result.now _ file c.in_ok-file.ensures c.as_slice.ensures.value e in
    subst (λ text. OnOk c.settle_file.result (Appends (g.W.Write.contents c.args.out.now) (g.W.Write.contents c.settle_file.new.out) text)) (ap output_of cut ∙ cut_output file) c.settle_file.ensures.printed)

pub returns-clause-reliable : goal.returns-clause-reliable
returns-clause-reliable g c = if_known (g.R.Read.remaining c.args.input) _ (λ file e.
    let cut = cut_of _ c.as_slice.result.now _ file c.in_ok-file.ensures c.as_slice.ensures.value e in
    IfOk-weaker c.settle_file.result _ _ (λ _ h. cut_reliable file h) (subst (λ front. OnOk c.settle_file.result (AllReliable front)) cut c.settle_file.ensures.reliable))
