use Rattle.std.proofs.Common.{◌≡◌, ◌+◌, Some, None, Ok, Err, rules, sym, subst}
use Rattle.std.specs.Io.KnownBytes.{Appends}
use Rattle.std.proofs.lemmas.Result.{err_from_is_err_and}
use Rattle.files.specs.Views.{View, view_of, head_answer, head_after, load_fault, load_after, load_contents}
use Rattle.reports.specs.Spellings.{spelling_of}
use Rattle.settlement.specs.Output.{ReliableBelow, report_below}
use Rattle.settlement.specs.Ends.{fresh, Ends, unless_refused}
use Rattle.std.proofs.KnownBytes.{Appends-nil}
use Rattle.settlement.proofs.Settling.{Stands, of_head, start_stands, at_refusal, at_end, at_loaded, at_further, printed_all, reliable_all, stopped, stopped_reliably}
use Rattle.settlement.proofs.file.settle_sheets.Goals as goal

pub loop-head-init : goal.loop-head-init
loop-head-init g c = subst (Stands c.args.file.now _ _ 0) (sym c.new-reader.ensures.view) (start_stands c.args.file.now (g.W.Write.contents c.args.out.now))

pub returns-in_err-head-clause-printed : goal.returns-in_err-head-clause-printed
returns-in_err-head-clause-printed g c =
    let p = err_from_is_err_and c.from_residual.result c.from_residual.ensures.1 in
    let s = c.loop-head.invariant in
    let f = c.in_err-head.field-0.0 in
    let asked : head_answer (view_of c.loop-head.reader) ≡ Err f = search rules in
    rw (p.1, p.2) (printed_all _ _ _ _ _ s (Some f) (at_refusal _ _ _ _ _ s f asked) _ (Appends-nil _))

pub returns-in_err-head-clause-reliable : goal.returns-in_err-head-clause-reliable
returns-in_err-head-clause-reliable g c =
    let p = err_from_is_err_and c.from_residual.result c.from_residual.ensures.1 in
    let s = c.loop-head.invariant in
    let f = c.in_err-head.field-0.0 in
    let asked : head_answer (view_of c.loop-head.reader) ≡ Err f = search rules in
    rw (p.1, p.2) (reliable_all _ _ _ _ _ s (Some f) (at_refusal _ _ _ _ _ s f asked))

pub loop-head-preserved : goal.loop-head-preserved
loop-head-preserved g c =
    let s = c.loop-head.invariant in
    let h = c.in-Some.head in
    let new = g.W.Write.contents c.loop-head.out in
    let new' = g.W.Write.contents c.settle_sheet.new.out in
    let asked : head_answer (view_of c.loop-head.reader) ≡ Ok (Some h) = search rules in
    let after : view_of c.next_head.new.self ≡ head_after (view_of c.loop-head.reader) = search rules in
    let is = of_head _ h (c.loop-head.number + 1) _ _ _ _ _ c.in_ok-settle_sheet.ensures in
    at_loaded _ _ _ _ _ s h asked (view_of c.settle_sheet.new.reader) new'
    (subst (λ w. view_of c.settle_sheet.new.reader ≡ load_after (spelling_of h) w) after is.0)
    (subst (λ w. (load_fault (spelling_of h) w ≡ None) × Appends new new' (unless_refused (load_fault (spelling_of h) w) (report_below h (c.loop-head.number + 1) (load_contents (spelling_of h) w fresh)))) after is.1)
    (subst (λ w. ReliableBelow h (load_contents (spelling_of h) w fresh)) after is.2)

pub loop-head-smaller : goal.loop-head-smaller
loop-head-smaller g c =
    let h = c.in-Some.head in
    let asked : head_answer (view_of c.loop-head.reader) ≡ Ok (Some h) = search rules in
    let after : view_of c.next_head.new.self ≡ head_after (view_of c.loop-head.reader) = search rules in
    let is = of_head _ h (c.loop-head.number + 1) _ _ _ _ _ c.in_ok-settle_sheet.ensures in
    at_further _ _ _ _ _ c.loop-head.invariant h asked (view_of c.settle_sheet.new.reader)
    (subst (λ w. view_of c.settle_sheet.new.reader ≡ load_after (spelling_of h) w) after is.0)
    (subst (λ w. load_fault (spelling_of h) w ≡ None) after is.1.0)

pub returns-in_err-settle_sheet-clause-printed : goal.returns-in_err-settle_sheet-clause-printed
returns-in_err-settle_sheet-clause-printed g c =
    let p = err_from_is_err_and c.from_residual-in_err-settle_sheet.result c.from_residual-in_err-settle_sheet.ensures.1 in
    let h = c.in-Some.head in
    let stop = c.in_err-settle_sheet.field-0.0 in
    let new' = g.W.Write.contents c.settle_sheet.new.out in
    let asked : head_answer (view_of c.loop-head.reader) ≡ Ok (Some h) = search rules in
    let after : view_of c.next_head.new.self ≡ head_after (view_of c.loop-head.reader) = search rules in
    let Ended : View → Type 0 = λ w. Ends (Err stop) (load_fault (spelling_of h) w) (g.W.Write.contents c.loop-head.out) new'
    (unless_refused (load_fault (spelling_of h) w) (report_below h (c.loop-head.number + 1) (load_contents (spelling_of h) w fresh))) in
    rw (p.1, p.2) (stopped _ _ _ _ _ c.loop-head.invariant h asked stop new' _ (subst Ended after (of_head _ h (c.loop-head.number + 1) _ _ _ _ _ c.in_err-settle_sheet.ensures).1))

pub returns-in_err-settle_sheet-clause-reliable : goal.returns-in_err-settle_sheet-clause-reliable
returns-in_err-settle_sheet-clause-reliable g c =
    let p = err_from_is_err_and c.from_residual-in_err-settle_sheet.result c.from_residual-in_err-settle_sheet.ensures.1 in
    let h = c.in-Some.head in
    let stop = c.in_err-settle_sheet.field-0.0 in
    let new' = g.W.Write.contents c.settle_sheet.new.out in
    let asked : head_answer (view_of c.loop-head.reader) ≡ Ok (Some h) = search rules in
    let after : view_of c.next_head.new.self ≡ head_after (view_of c.loop-head.reader) = search rules in
    let Ended : View → Type 0 = λ w. Ends (Err stop) (load_fault (spelling_of h) w) (g.W.Write.contents c.loop-head.out) new'
    (unless_refused (load_fault (spelling_of h) w) (report_below h (c.loop-head.number + 1) (load_contents (spelling_of h) w fresh))) in
    rw (p.1, p.2) (stopped_reliably _ _ _ _ _ c.loop-head.invariant h asked stop new' _ (subst Ended after (of_head _ h (c.loop-head.number + 1) _ _ _ _ _ c.in_err-settle_sheet.ensures).1))

pub returns-clause-printed : goal.returns-clause-printed
returns-clause-printed g c =
    let s = c.loop-head.invariant in
    let asked : head_answer (view_of c.loop-head.reader) ≡ Ok None = search rules in
    printed_all _ _ _ _ _ s None (at_end _ _ _ _ _ s asked) _ (Appends-nil _)

pub returns-clause-reliable : goal.returns-clause-reliable
returns-clause-reliable g c =
    let s = c.loop-head.invariant in
    let asked : head_answer (view_of c.loop-head.reader) ≡ Ok None = search rules in
    reliable_all _ _ _ _ _ s None (at_end _ _ _ _ _ s asked)
