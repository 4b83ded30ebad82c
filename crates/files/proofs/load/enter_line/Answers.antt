use Rattle.std.proofs.Common.{rules}
use Rattle.std.proofs.lemmas.Result.{err_from_is_err_and}
use Rattle.files.specs.Drafts.{refusal_field, entry_refusal}
use Rattle.files.specs.Statements.{statement_fault, entry_of}
use Rattle.files.specs.Words.{spelled}
use Rattle.files.proofs.Loading.{entry_refused}
use Rattle.files.proofs.load.enter_line.Goals as goal

pub returns-in_err-enter_at-clause-answer : goal.returns-in_err-enter_at-clause-answer
returns-in_err-enter_at-clause-answer g c =
    let p = err_from_is_err_and c.from_residual-in_err-enter_at.result c.from_residual-in_err-enter_at.ensures.1 in
    let s = spelled g.K.Kind.meaning g.K.Notation.words g.K.Notation.initial g.T.TallyLetter.initial in
    let d = c.args.draft.now in
    rw (p.1, p.2) (entry_refused (statement_fault s.code c.args.line.now) (refusal_field d.items) (entry_refusal s d.items d.rows.items) c.in_ok-entry.entry (entry_of s.code c.args.line.now) _ c.in_ok-entry.ensures.entry c.in_err-enter_at.ensures.answer)

-- Given, since a wrong body is refused 8 s sooner with it.
pub returns-in_err-entry-clause-entered : goal.returns-in_err-entry-clause-entered
returns-in_err-entry-clause-entered g c = search rules fits 100
