-- Each pair counts in its converse.
use Rattle.std.proofs.Common.{◌≡◌, ℕ, ◌<◌, ◌==◌, [], Ok, get_or, length, ap, sym, ◌+◌, ◌∙◌, subst, refl, codes, arith, rules}
use Rattle.std.proofs.lemmas.Bool.{false≢true}
use Rattle.std.proofs.lemmas.Result.{IfOk-weaker}
use Rattle.std.proofs.lemmas.List.{get_or_default}
use Rattle.literature.specs.Held.{AtEach, ConverseHeld, Entry}
use Rattle.literature.specs.Published.{ConverseAgrees}
use Rattle.literature.specs.Relations.{Single}
use Rattle.literature.specs.Scores.{score_after}
use Rattle.literature.specs.declared.published.Turned.{Turned}
use Rattle.literature.specs.declared.score.Score.{Score}
use Rattle.literature.specs.declared.comparison.Comparison.{Comparison}
use Rattle.literature.proofs.Compared.{entry_read, held_more, none_held, score_none, table_printed}
use Rattle.literature.proofs.Lacking.{counts_all, counts_item}
use Rattle.literature.proofs.Completed.{MetBelow, met_all, met_more}
use Rattle.literature.proofs.Rowed.{code_read, converse_counted, read_then}
use Rattle.literature.proofs.comparison.hold_converses.Goals as goal

pub loop-relation-preserved : goal.loop-relation-preserved
loop-relation-preserved g c =
    let m = g.K.Kind.meaning in
    let words = g.K.Notation.words in
    let letters = c.args.letters.0.now in
    let pairs = c.args.pairs.now in
    let none : Turned = record { 0 = record { ref_ptr = (0, 0); now = [] }; 1 = record { ref_ptr = (0, 0); now = [] } } in
    let k = c.loop-relation.relation-index in
    let within : k < length pairs = omega arith in
    let turned = get_or pairs k none in
    let r = c.in_ok-r.r in
    let old = c.loop-relation.comparison.score in
    let new = c.hold.new.self.score in
    let (one, single, met) = c.in_ok-r.ensures.met in
    let same : c.meet.new.self.score ≡ old = ap (λ (x : Comparison). x.score) met in
    let held = c.in_ok-hold.ensures in
    let here = converse_counted m words letters turned r c.converse.result c.single-ours.result (code_read _ r (Ok r) c.in_ok-r.ensures.read refl)
    c.converse.ensures c.single-ours.ensures old new c.set.result c.set.ensures (λ none. false≢true (held.unread none))
    (λ set is. subst (λ (s : Score). new ≡ score_after s (c.single-ours.result == set)) same (ap (λ (x : Comparison). x.score) (held.counted set is))) in
    let counts = counts_item (ConverseAgrees m words letters) pairs k none 0 old.lacking new.lacking within c.loop-relation.invariant.0.0 here in
    let more = met_more m words letters 0 (λ (x : Turned). x.0.now) pairs g.met.K.WholeNotation.named g.met.K.WholeNotation.worded g.met.K.Kind.lawful.few_codes
    k r one c.loop-relation.comparison.met none within (code_read _ r (Ok r) c.in_ok-r.ensures.read refl) single c.loop-relation.invariant.0.1 in
    let kept : c.hold.new.self.met ≡ c.meet.new.self.met = read_then c.set.result (λ none. false≢true (held.unread none)) (λ set is. ap (λ (x : Comparison). x.met) (held.counted set is)) in
    let P : ℕ → Entry → Type 0 = λ k e. (turned : Turned) → ConverseHeld m words letters (get_or pairs k turned) e in
    let own : Single (m.converse r) c.single-ours.result = subst (λ (n : ℕ). Single n c.single-ours.result) c.converse.ensures c.single-ours.ensures in
    let printed = read_then c.set.result (λ none. false≢true (held.unread none))
    (λ set is.
    let e : Entry = record { first = r; second = r; ours = c.single-ours.result; published = set } in
    let place : P k e = λ d. subst (λ (x : Turned). ConverseHeld m words letters x e) (get_or_default pairs k none d within)
    (code_read _ r (Ok r) c.in_ok-r.ensures.read refl, refl, own, entry_read words letters turned.1.now c.set.result set c.set.ensures is) in
    held_more words g.K.Notation.initial c.default-comparison.result.score P k old new (g.W.Write.contents c.args.out.now) (g.W.Write.contents c.loop-relation.out) (g.W.Write.contents c.hold.new.out) e
    c.loop-relation.invariant.1 place (subst (λ (s : Score). new ≡ score_after s (c.single-ours.result == set)) same (ap (λ (x : Comparison). x.score) (held.counted set is))) (held.printed set is)) in
    ((counts, subst (MetBelow m words letters 0 (λ (x : Turned). x.0.now) pairs (k + 1)) (sym (kept ∙ ap (λ (x : Comparison). x.met) met)) more), printed)

pub returns-clause-agree : goal.returns-clause-agree
returns-clause-agree g c =
    IfOk-weaker c.close.result _ _
    (λ differing closed. counts_all (ConverseAgrees g.K.Kind.meaning g.K.Notation.words c.args.letters.0.now) c.args.pairs.now c.loop-relation.relation-index c.loop-relation.comparison.score.lacking differing (omega arith) closed.0 c.loop-relation.invariant.0.0)
    c.close.ensures.closed

pub returns-clause-complete : goal.returns-clause-complete
returns-clause-complete g c =
    IfOk-weaker c.close.result _ _
    (λ differing closed. met_all g.K.Kind.meaning g.K.Notation.words c.args.letters.0.now 0 (λ (x : Turned). x.0.now) c.args.pairs.now c.loop-relation.relation-index c.loop-relation.comparison.met (omega arith) c.loop-relation.invariant.0.1 closed.1)
    c.close.ensures.closed

pub loop-relation-init : goal.loop-relation-init
loop-relation-init g c =
    let a = g.W.Write.contents c.args.out.now in
    ((search rules, search rules), none_held g.K.Notation.words g.K.Notation.initial c.default-comparison.result.score (λ k e. (turned : Turned) → ConverseHeld g.K.Kind.meaning g.K.Notation.words c.args.letters.0.now (get_or c.args.pairs.now k turned) e) a)

pub returns-clause-printed : goal.returns-clause-printed
returns-clause-printed g c =
    let pairs = c.args.pairs.now in
    let (held, at, counted, printed) = c.loop-relation.invariant.1 in
    let end : c.loop-relation.relation-index ≡ length pairs = omega arith in
    let each = subst (λ (n : ℕ). AtEach (λ k e. (turned : Turned) → ConverseHeld g.K.Kind.meaning g.K.Notation.words c.args.letters.0.now (get_or pairs k turned) e) n held) end at in
    IfOk-weaker c.close.result _ _ (λ differ both. (held, each, both.0, both.1))
    (table_printed g.K.Notation.words g.K.Notation.initial (codes "converse") held c.default-comparison.result.score c.loop-relation.comparison.score
    (g.W.Write.contents c.args.out.now) (g.W.Write.contents c.loop-relation.out) (g.W.Write.contents c.close.new.out) c.close.result
    (score_none c.default-comparison.result.score c.default-comparison.ensures.1.0 c.default-comparison.ensures.1.1) counted printed
    (IfOk-weaker c.close.result _ _ (λ lacking closed. closed.0) c.close.ensures.closed) c.close.ensures.printed)
