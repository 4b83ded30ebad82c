-- The published set is compared with ours, which is the composition.
use Rattle.std.proofs.Common.{eqb}
use Rattle.std.proofs.lemmas.Result.{IfOk-weaker}
use Rattle.kinds.specs.Meaning.{Fits}
use Rattle.literature.proofs.Agreeing.{equals_decided}
use Rattle.literature.proofs.Printing.{if_ok_both}
use Rattle.literature.proofs.comparison.Comparison.hold_composition.Goals as goal

pub returns-clause-counted : goal.returns-clause-counted
returns-clause-counted g c =
    let (r, s) = c.args.relations in
    let ours = c.compose.result in
    IfOk-weaker c.hold.result _ _
    (λ _ counted set is. (eqb ours set, equals_decided {P = Fits g.K.Kind.meaning r s} ours set c.compose.ensures, counted set is))
    c.hold.ensures.counted

pub returns-clause-printed : goal.returns-clause-printed
returns-clause-printed g c =
    let ours = c.compose.result in
    if_ok_both c.hold.result _ _ _ (λ _ counted printed set is. (ours, c.compose.ensures, counted set is, printed set is)) c.hold.ensures.counted c.hold.ensures.printed
