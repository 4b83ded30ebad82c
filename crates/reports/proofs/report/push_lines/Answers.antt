-- Each line is the text that its call gives.
use Rattle.std.proofs.Common.{rules, ◌≡◌, ◌+◌, ◌<◌, ◌++◌, length, ap, ◌∙◌, subst, inl, inr, IfOk, arith}
use Rattle.std.proofs.lemmas.List.{length_push}
use Rattle.reports.specs.Lines.{lines_from}
use Rattle.reports.proofs.Lined.{text_more, left_less, none_left, count_left}
use Rattle.reports.proofs.report.push_lines.Goals as goal

pub loop-i-preserved : goal.loop-i-preserved
loop-i-preserved g c =
    let ys = c.loop-i.yielded in
    let i = c.in-Some.i in
    let member = c.in-Some.member in
    let (callable, start, left, lines) = c.loop-i.invariant in
    let (numbers, members) = c.in-Some.ensures.steps in (
      callable,
      omega (arith, start, numbers.0, numbers.1, length_push ys (i, member)),
      left_less c.args.members.now c.loop-i.i-iterator.b.rest.now c.next.new.self.b.rest.now ys (i, member) left members,
      λ of calls.
          let said = calls (i + 1) member.now c.line.result c.line.ensures in
          let line = subst (λ r. IfOk r (λ v. v.items ≡ of (i + 1) member.now)) (c.in_ok-line.was) said in
          text_more of ys (i, member) c.args.text.now.items c.loop-i.text.items c.extend_from_slice.new.self.items c.as_slice.result.now
          (numbers.0 ∙ start) (lines of calls) (c.as_slice.ensures.value ∙ line) c.in_ok-extend_from_slice.ensures.items,
    )

pub returns : goal.returns
returns g c =
    λ of calls.
    let ys = c.loop-i.yielded in
    let rest = c.loop-i.i-iterator.b.rest.now in
    let (_, start, left, lines) = c.loop-i.invariant in
    let count = count_left c.args.members.now rest ys left in
    let short : length c.args.members.now < 18446744073709551616 = search rules in
    let none : length rest ≡ 0 = elim c.in-None.ensures.steps [
      | inl h ↦ omega (arith, h.1.0, start, count, short)
      | inr h ↦ h.1.0
    ] in
    lines of calls ∙ ap (λ z. c.args.text.now.items ++ lines_from of 1 z) (none_left c.args.members.now rest ys left none)
