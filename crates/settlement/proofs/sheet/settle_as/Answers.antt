use Rattle.std.proofs.Common.{◌≡◌, ℕ, List, Ok, Err, take, replicate, rules, arith, ap, ◌∙◌, subst}
use Rattle.std.proofs.lemmas.List.{length-replicate}
use Rattle.std.proofs.lemmas.Result.{err_from_is_err_and}
use Rattle.std.specs.Io.KnownBytes.{Appends}
use Rattle.files.specs.Faults.{answered}
use Rattle.files.specs.Views.{view_of, load_fault, load_contents, contents}
use Rattle.files.specs.Words.{spelled}
use Rattle.settlement.specs.Named.{of_kind, of_tally}
use Rattle.settlement.specs.Output.{report_as, rules_of, steps, ReliableAs}
use Rattle.settlement.specs.Ends.{fresh}
use Rattle.reports.specs.Lines.{print}
use Rattle.settlement.proofs.Lengths.{account_short, only_memory}
use Rattle.settlement.proofs.Printing.{ends_refused, ends_settled, front}
use Rattle.settlement.proofs.sheet.settle_as.Goals as goal

pub returns : goal.returns
unfolding report_as ReliableAs
returns g c =
    let s = spelled g.K.Kind.meaning g.K.Notation.words g.K.Notation.initial g.T.TallyLetter.initial in
    let k = of_kind g.K.Kind.meaning g.K.Kind.fit g.K.Kind.values g.K.Notation.initial g.K.PrintedKind.value_text in
    let t = of_tally g.T.Joins.joining g.T.Tally.order g.T.TallyLetter.initial g.T.PrintedTally.cost_text in
    let Prints : List ℕ → Type 0 = Appends (g.W.Write.contents c.args.out.now) (g.W.Write.contents c.write_all.new.self) in
    let draft = contents c.load.new.draft.items c.load.new.draft.rows.items in
    let had : draft ≡ load_contents s (view_of c.args.reader.now) fresh = search rules in
    let good : answered (load_fault s (view_of c.args.reader.now)) (tt {0}) ≡ Ok (tt {0}) = search rules in
    let bytes = c.in_ok-length.ensures.bytes in
    let wrote : Prints (take c.in_ok-length.length c.account.new.buffer) = search rules in
    record {
      after = search rules;
      printed = ends_settled _ _ _ _ good
          (subst (λ x. Prints (report_as k t c.args.number x)) had
          (subst Prints (front (report_as k t c.args.number draft) _ c.account.new.buffer c.in_ok-length.length bytes.0 bytes.2) wrote));
      reliable = subst (ReliableAs k t) had c.in_ok-length.ensures.law;
    }

pub returns-in_err-load : goal.returns-in_err-load
returns-in_err-load g c =
    let p = err_from_is_err_and c.from_residual-in_err-load.result c.from_residual-in_err-load.ensures.1 in
    record {
      after = rw (p.1, p.2) (search rules);
      printed = ends_refused _ c.in_err-load.field-0.0 _ _ _ (search rules) (p.1 ∙ ap (λ x. Err x) p.2);
      reliable = rw p.1 tt;
    }

pub returns-in_err-length : goal.returns-in_err-length
unfolding report_as
returns-in_err-length g c =
    let p = err_from_is_err_and c.from_residual-in_err-length.result c.from_residual-in_err-length.ensures.1 in
    let k = of_kind g.K.Kind.meaning g.K.Kind.fit g.K.Kind.values g.K.Notation.initial g.K.PrintedKind.value_text in
    let t = of_tally g.T.Joins.joining g.T.Tally.order g.T.TallyLetter.initial g.T.PrintedTally.cost_text in
    let draft = contents c.load.new.draft.items c.load.new.draft.rows.items in
    let short = account_short (print k.letter t.letter k.text t.text) c.requires.0 c.requires.1 (λ x. t.order x t.joining.empty) c.args.number k.values (rules_of k t) steps
    c.load.new.draft.items c.load.new.draft.rows.items c.load.new.draft.few in
    record {
      after = rw (p.1, p.2) tt;
      printed = rw (p.1, p.2) (only_memory (report_as k t c.args.number draft) (replicate 8192 0) _ c.in_err-length.field-0.0 (omega (arith, short, length-replicate {A = ℕ} 8192 0)) c.in_err-length.ensures.bytes);
      reliable = rw p.1 tt;
    }
