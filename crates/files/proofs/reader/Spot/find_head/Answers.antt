use Rattle.std.proofs.Common.{Err, refl, sym, ap, ◌∙◌}
use Rattle.files.specs.Parts.{lines}
use Rattle.files.specs.Sheets.{onward}
use Rattle.files.proofs.Seeking.{passed, one_read, no_head, some_sheet, no_sheet, strayed}
use Rattle.files.proofs.reader.Spot.find_head.Goals as goal

pub loop-line-preserved : goal.loop-line-preserved
loop-line-preserved c =
    let h = c.in-InSheet-StatementLine in
    passed c.args.self.now.place c.loop-line.self.place (lines c.args.self.now.ahead.rest.now) (lines c.loop-line.self.ahead.rest.now) (lines c.next.new.self.rest.now) c.in-Some.line.now
    c.loop-line.invariant c.in-Some.ensures.steps (no_head c.in-Some.line.now (sym c.class_of.ensures ∙ h.is-1)) (some_sheet c.loop-line.self.place (sym c.state.ensures ∙ h.is-0))

-- These two are given, since a wrong body is refused 18 s sooner with them.
pub returns-in-NoSheet-StatementLine-clause-answer : goal.returns-in-NoSheet-StatementLine-clause-answer
returns-in-NoSheet-StatementLine-clause-answer c =
    let h = c.in-NoSheet-StatementLine in
    let q = c.loop-line.self.place in
    ap (λ f. Err (record { place = onward q; fault = f })) c.stray.ensures
    ∙ strayed c.args.self.now.place q (lines c.args.self.now.ahead.rest.now) (lines c.loop-line.self.ahead.rest.now) (lines c.next.new.self.rest.now) c.in-Some.line.now
    c.loop-line.invariant c.in-Some.ensures.steps (no_head c.in-Some.line.now (sym c.class_of.ensures ∙ h.is-1)) (no_sheet q (sym c.state.ensures ∙ h.is-0))

pub returns-in-NoSheet-StatementLine-clause-moved : goal.returns-in-NoSheet-StatementLine-clause-moved
returns-in-NoSheet-StatementLine-clause-moved c =
    let was = c.loop-line.invariant in (
      refl,
      one_read c.args.self.now.place c.loop-line.self.place (lines c.args.self.now.ahead.rest.now) (lines c.loop-line.self.ahead.rest.now) (lines c.next.new.self.rest.now) c.in-Some.line.now
          was.from was.read c.in-Some.ensures.steps,
    )
