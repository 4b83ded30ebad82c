use Rattle.std.proofs.Common.{Err, sym, ap, ◌∙◌, subst}
use Rattle.std.proofs.lemmas.Result.{err_from_is_err_and}
use Rattle.files.specs.Parts.{lines}
use Rattle.files.specs.Faults.{answered}
use Rattle.files.specs.Drafts.{line_fault, row_in, Entered}
use Rattle.files.specs.Words.{spelled}
use Rattle.files.proofs.Loading.{one_entered, one_refused, stopped, read_fit, read_unfit}
use Rattle.files.proofs.load.load_body.Goals as goal

pub loop-line-preserved : goal.loop-line-preserved
loop-line-preserved g c =
    let s = spelled g.K.Kind.meaning g.K.Notation.words g.K.Notation.initial g.T.TallyLetter.initial in
    let l = c.in-Some.line.now in
    let d = c.loop-line.draft in
    let n = c.enter_line.new.draft in
    let fit = read_fit c.next_statement.new.self.place c.enter_line.result c.in_ok-placed.field-0 c.in_ok-placed.ensures in
    let good = sym fit ∙ c.enter_line.ensures.answer ∙ ap (λ z. answered (line_fault s z d.rows.items l) (tt {0})) c.loop-line.invariant.1 in
    let row = subst (λ r. Entered r (row_in s l) d.items d.rows.items n.items n.rows.items) fit c.enter_line.ensures.entered in (
      one_entered s c.args.draft.now.items c.args.spot.now.place (lines c.args.spot.now.ahead.rest.now) c.args.draft.now.rows.items
          c.loop-line.spot.place (lines c.loop-line.spot.ahead.rest.now) (lines c.next_statement.new.self.ahead.rest.now) d.rows.items l
          c.loop-line.invariant.0 c.in-Some.ensures.0 c.in-Some.ensures.1 _ _ good row.1 c.in-Some.ensures.2,
      row.0 ∙ c.loop-line.invariant.1,
    )

pub returns-in_err-placed : goal.returns-in_err-placed
returns-in_err-placed g c =
    let s = spelled g.K.Kind.meaning g.K.Notation.words g.K.Notation.initial g.T.TallyLetter.initial in
    let l = c.in-Some.line.now in
    let d = c.loop-line.draft in
    let n = c.enter_line.new.draft in
    let f = c.in_err-placed.field-0.0 in
    let p = err_from_is_err_and c.from_residual.result c.from_residual.ensures.1 in
    let unfit = read_unfit c.next_statement.new.self.place c.enter_line.result f c.in_err-placed.ensures in
    let bad = sym unfit.0 ∙ c.enter_line.ensures.answer ∙ ap (λ z. answered (line_fault s z d.rows.items l) (tt {0})) c.loop-line.invariant.1 in
    let row = subst (λ r. Entered r (row_in s l) d.items d.rows.items n.items n.rows.items) unfit.0 c.enter_line.ensures.entered in
    let first = one_refused s c.args.draft.now.items c.args.spot.now.place (lines c.args.spot.now.ahead.rest.now) c.args.draft.now.rows.items
    c.loop-line.spot.place (lines c.loop-line.spot.ahead.rest.now) (lines c.next_statement.new.self.ahead.rest.now) d.rows.items l
    c.loop-line.invariant.0 c.in-Some.ensures.0 c.in-Some.ensures.1 f.fault bad in
    record {
      answer = rw (p.1, p.2) (ap (λ x. Err (record { place = x; fault = f.fault })) (unfit.1 ∙ c.in-Some.ensures.2) ∙ sym (ap (λ o. answered o (tt {0})) first));
      size = row.0 ∙ c.loop-line.invariant.1;
      loaded = rw (p.1, p.2, unfit.1) (stopped s c.args.draft.now.items c.args.spot.now.place (lines c.args.spot.now.ahead.rest.now) c.args.draft.now.rows.items
          c.loop-line.spot.place (lines c.loop-line.spot.ahead.rest.now) (lines c.next_statement.new.self.ahead.rest.now) d.rows.items l
          c.loop-line.invariant.0 c.in-Some.ensures.1 _ _ f.fault row.1 c.in-Some.ensures.2);
    }
