use Rattle.std.proofs.Common.{List, ◌∙◌, subst}
use Rattle.std.proofs.lemmas.Result.{IfOk-weaker}
use Rattle.rules.specs.Soundness.{rules}
use Rattle.rules.proofs.Properly.{proper_is}
use Rattle.runs.specs.declared.answer.Answer.{Answer}
use Rattle.runs.specs.Answers.{AnswersScript}
use Rattle.runs.specs.Law.{Law}
use Rattle.runs.specs.States.{draft_view}
use Rattle.reports.proofs.Settled.{IfOk-both, tells, account_law}
use Rattle.reports.proofs.account.settle.Goals as goal

pub returns : goal.returns
returns g c =
    let r = rules g.K.Kind.meaning g.K.Kind.fit g.T.Joins.joining g.T.Tally.order in
    let draft = c.args.draft in
    let script = c.as_slice.ensures.value ∙ c.in_ok-script.ensures in
    let answered = λ (bs : List (Answer _ _)). subst (λ calls. AnswersScript g.K.Kind.meaning g.K.Kind.values r (draft_view draft) calls bs) script in
    record {
      tells = IfOk-weaker c.replay.result _ _ (λ v h. tells g.K.Kind.meaning g.K.Kind.values r draft.items draft.rows.items c.args.steps v.items draft.few c.requires (answered v.items h)) c.replay.ensures.answers;
      law = IfOk-weaker c.replay.result _ _ (λ v h. account_law g.K.Kind.meaning g.K.Kind.values r g.met.T.Joins.monoid draft.items draft.rows.items c.args.steps v.items draft.few c.requires
          (proper_is draft.items draft.rows.items draft.sound) (answered v.items h.1) (subst (λ calls. Law g.K.Kind.meaning r (draft_view draft) calls v.items) script h.0))
          (IfOk-both c.replay.result _ _ c.replay.ensures.law c.replay.ensures.answers);
    }
