-- The account that the answers tell is reported.
use Rattle.std.proofs.Common.{◌≡◌, List, vec_items, rules, ap, ◌∙◌, subst}
use Rattle.runs.specs.declared.answer.Sight.{Sight}
use Rattle.reports.specs.Lines.{print, PutsOrWants}
use Rattle.reports.specs.Account.{Account, report_on}
use Rattle.reports.specs.Found.{charges_in}
use Rattle.reports.proofs.account.account.Goals as goal

abbrev account_by : {V C : Type 0} → Sight V C → List C → Account V C
account_by s charges = record {
  values = vec_items s.values;
  cost = s.shown.cost;
  floor = s.shown.floor;
  finished = s.shown.finished;
  charges = charges;
}

-- Given, since a wrong body is refused 23 s sooner with it.
pub returns-clause-bytes : goal.returns-clause-bytes
returns-clause-bytes g c =
    let tells = c.in_ok-answers.ensures.tells in
    let charges = c.in_ok-charges.charges.items in
    let sight : c.unwrap-sight.result.now ≡ tells.sight = search (rules, tells.shown) in
    let charged : c.in_ok-charges.charges.items ≡ charges_in c.in_ok-answers.answers.items = search rules in
    let Puts : Account _ _ → Type 0 = λ a. PutsOrWants
    (report_on (print g.K.Notation.initial g.T.TallyLetter.initial g.K.PrintedKind.value_text g.T.PrintedTally.cost_text) (λ k. g.T.Tally.order k g.T.Joins.joining.empty) c.args.number a)
    c.args.buffer.now c.write_report.new.buffer c.write_report.result in
    let text : Puts (account_by c.unwrap-sight.result.now c.in_ok-charges.charges.items) = search rules in
    subst Puts (ap (λ (s : Sight _ _). account_by s charges) sight ∙ ap (account_by tells.sight) charged ∙ tells.is) text
