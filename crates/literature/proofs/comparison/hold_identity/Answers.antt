-- Each row counts in two compositions with the identity, after that of the identity with itself.
use Rattle.std.proofs.Common.{◌≡◌, ℕ, ◌<◌, List, [], ◌∷◌, Ok, get_or, length, ap, sym, ◌+◌, ◌∙◌, subst, refl, codes, arith, rules}
use Rattle.std.proofs.lemmas.Bool.{false≢true}
use Rattle.std.proofs.lemmas.Result.{IfOk-weaker}
use Rattle.kinds.specs.Meaning.{Fits}
use Rattle.std.proofs.lemmas.List.{get_or_default}
use Rattle.literature.specs.Held.{AtEach, Entry, NeutralHeld, agrees, joined}
use Rattle.literature.specs.Published.{NeutralAgrees}
use Rattle.literature.specs.Relations.{Single}
use Rattle.literature.specs.Scores.{score_after}
use Rattle.literature.specs.declared.published.Entries.{Entries}
use Rattle.literature.specs.declared.score.Score.{Score}
use Rattle.literature.specs.declared.comparison.Comparison.{Comparison}
use Rattle.literature.proofs.Compared.{counted_first, counted_one, entry_read, no_rows, rows_more, score_none, table_printed, two_printed}
use Rattle.literature.proofs.Printing.{appends_more}
use Rattle.literature.proofs.Lacking.{counts_item}
use Rattle.literature.proofs.Completed.{MetBelow, met_all, met_more}
use Rattle.literature.proofs.Rowed.{code_read, held_met, held_score, neutral_counted, no_row, read_then, set_counted}
use Rattle.literature.proofs.comparison.hold_identity.Goals as goal

pub loop-row-preserved : goal.loop-row-preserved
loop-row-preserved g c =
    let m = g.K.Kind.meaning in
    let words = g.K.Notation.words in
    let letters = c.args.table.letters.0.now in
    let rows = c.args.table.rows.now in
    let k = c.loop-row.row-index in
    let within : k < length rows = omega arith in
    let row = get_or rows k no_row in
    let i = c.args.identity in
    let r = c.in_ok-r.r in
    let start = c.hold_composition.new.self.score in
    let old = c.loop-row.comparison.score in
    let mid = c.hold_composition-in-loop-row.new.self.score in
    let new = c.hold_composition-in-loop-row-2.new.self.score in
    let (one, single, met) = c.in_ok-r.ensures.met in
    let same : c.meet.new.self.score ≡ old = ap (λ (x : Comparison). x.score) met in
    let before = c.in_ok-hold_composition-2.ensures in
    let after = c.in_ok-hold_composition-3.ensures in
    let left = set_counted {P = Fits m i r} words letters row.letter.now old mid c.set-itself-in-loop-row.result c.set-itself-in-loop-row.ensures (λ none. false≢true (before.unread none))
    (λ set is. let (agrees, decides, then) = before.counted set is in
    (agrees, decides, subst (λ (s : Score). mid ≡ score_after s agrees) same (ap (λ (x : Comparison). x.score) then))) in
    let right = set_counted {P = Fits m r i} words letters row.letter.now mid new c.set-itself-in-loop-row.result c.set-itself-in-loop-row.ensures (λ none. false≢true (after.unread none))
    (held_score _ _ c.set-itself-in-loop-row.result after.counted) in
    let here = neutral_counted m words letters i r row.letter.now (code_read _ r (Ok r) c.in_ok-r.ensures.read refl) old.lacking mid.lacking new.lacking left right in
    let counts = counts_item (λ (x : Entries). NeutralAgrees m words letters i x.letter.now) rows k no_row start.lacking old.lacking new.lacking within c.loop-row.invariant.0.0 here in
    let more = met_more m words letters c.hold_composition.new.self.met (λ (x : Entries). x.letter.now) rows g.met.K.WholeNotation.named g.met.K.WholeNotation.worded g.met.K.Kind.lawful.few_codes
    k r one c.loop-row.comparison.met no_row within (code_read _ r (Ok r) c.in_ok-r.ensures.read refl) single c.loop-row.invariant.0.1 in
    let first : c.hold_composition-in-loop-row.new.self.met ≡ c.meet.new.self.met =
    held_met _ _ c.set-itself-in-loop-row.result before.counted (λ none. false≢true (before.unread none)) in
    let second : c.hold_composition-in-loop-row-2.new.self.met ≡ c.hold_composition-in-loop-row.new.self.met =
    held_met _ _ c.set-itself-in-loop-row.result after.counted (λ none. false≢true (after.unread none)) in
    let Q : ℕ → List Entry → Type 0 = λ k es. (row : Entries) → NeutralHeld m words letters i (get_or rows k row).letter.now es in
    let code = code_read _ r (Ok r) c.in_ok-r.ensures.read refl in
    let read = c.set-itself-in-loop-row in
    let printed = read_then read.result (λ none. false≢true (before.unread none))
    (λ set is.
    let (ours, composed, counted, lines) = before.printed set is in
    let (ours', composed', counted', lines') = after.printed set is in
    let e : Entry = record { first = i; second = r; ours = ours; published = set } in
    let f : Entry = record { first = r; second = i; ours = ours'; published = set } in
    let entered = entry_read words letters row.letter.now read.result set read.ensures is in
    let place : Q k (e ∷ f ∷ []) = λ d. subst (λ (x : Entries). NeutralHeld m words letters i x.letter.now (e ∷ f ∷ [])) (get_or_default rows k no_row d within)
    (r, code, e, (refl, refl, composed, entered), f, (refl, refl, composed', entered), refl) in
    let scored = counted_first e (f ∷ []) old mid new (ap (λ (x : Comparison). x.score) counted ∙ ap (λ (s : Score). score_after s (agrees e)) same) (counted_one f mid new (ap (λ (x : Comparison). x.score) counted')) in
    rows_more words g.K.Notation.initial start Q k old new (g.W.Write.contents c.hold_composition.new.out) (g.W.Write.contents c.loop-row.out) (g.W.Write.contents c.hold_composition-in-loop-row-2.new.out) (e ∷ f ∷ [])
    c.loop-row.invariant.1 place scored (two_printed words g.K.Notation.initial e f _ _ _ lines lines')) in
    ((counts, subst (MetBelow m words letters c.hold_composition.new.self.met (λ (x : Entries). x.letter.now) rows (k + 1)) (sym (second ∙ first ∙ ap (λ (x : Comparison). x.met) met)) more), printed)

pub loop-row-init : goal.loop-row-init
loop-row-init g c =
    let words = g.K.Notation.words in
    let table = c.args.table in
    let Q : ℕ → List Entry → Type 0 = λ k es. (row : Entries) → NeutralHeld g.K.Kind.meaning words table.letters.0.now c.args.identity (get_or table.rows.now k row).letter.now es in
    ((search rules, search rules), no_rows words g.K.Notation.initial c.hold_composition.new.self.score Q (g.W.Write.contents c.hold_composition.new.out))

pub returns-clause-agree : goal.returns-clause-agree
returns-clause-agree g c =
    let i = c.args.identity in
    let held = c.in_ok-hold_composition.ensures in
    let first = set_counted {P = Fits g.K.Kind.meaning i i} g.K.Notation.words c.args.table.letters.0.now c.args.letter.now c.default.result.score c.hold_composition.new.self.score
    c.set-itself.result c.set-itself.ensures (λ none. false≢true (held.unread none))
    (held_score _ _ c.set-itself.result held.counted) in
    let (forth, back) = c.loop-row.invariant.0.0 in
    IfOk-weaker c.close.result _ _
    (λ differing closed. (
      λ zero. let (none, rows) = forth (omega (arith, closed.0)) in ((first.0 none).1, λ k d l. rows k (omega arith) d),
      λ both. omega (arith, closed.0, back (first.1 (c.default.ensures.1.1, both.0), λ k l d. both.1 k d (omega arith))),
    ))
    c.close.ensures.closed

pub returns-clause-complete : goal.returns-clause-complete
returns-clause-complete g c =
    let held = c.in_ok-hold_composition.ensures in
    let kept : c.hold_composition.new.self.met ≡ c.single.result =
    held_met _ _ c.set-itself.result held.counted (λ none. false≢true (held.unread none)) in
    IfOk-weaker c.close.result _ _
    (λ differing closed. (
      c.hold_composition.new.self.met,
      subst (Single c.args.identity) (sym kept) c.single.ensures,
      met_all g.K.Kind.meaning g.K.Notation.words c.args.table.letters.0.now c.hold_composition.new.self.met (λ (x : Entries). x.letter.now) c.args.table.rows.now c.loop-row.row-index c.loop-row.comparison.met (omega arith) c.loop-row.invariant.0.1 closed.1,
    ))
    c.close.ensures.closed

pub returns-clause-printed : goal.returns-clause-printed
returns-clause-printed g c =
    let m = g.K.Kind.meaning in
    let words = g.K.Notation.words in
    let table = c.args.table in
    let i = c.args.identity in
    let letters = table.letters.0.now in
    let start = c.default.result.score in
    let first = c.in_ok-hold_composition.ensures in
    let (held, at, counted, printed) = c.loop-row.invariant.1 in
    let end : c.loop-row.row-index ≡ length table.rows.now = omega arith in
    let Q : ℕ → List Entry → Type 0 = λ k es. (row : Entries) → NeutralHeld m words letters i (get_or table.rows.now k row).letter.now es in
    let each = subst (λ (n : ℕ). AtEach Q n held) end at in
    read_then c.set-itself.result (λ none. false≢true (first.unread none))
    (λ set is.
    let (ours, composed, after, lines) = first.printed set is in
    let e : Entry = record { first = i; second = i; ours = ours; published = set } in
    let itself = entry_read words letters c.args.letter.now c.set-itself.result set c.set-itself.ensures is in
    IfOk-weaker c.close.result _ _ (λ differ both. (e, held, ((refl, refl, composed, itself), each), both.0, both.1))
    (table_printed words g.K.Notation.initial (codes "identity") (e ∷ joined held) start c.loop-row.comparison.score
    (g.W.Write.contents c.args.out.now) (g.W.Write.contents c.loop-row.out) (g.W.Write.contents c.close.new.out) c.close.result
    (score_none start c.default.ensures.1.0 c.default.ensures.1.1)
    (counted_first e (joined held) start c.hold_composition.new.self.score c.loop-row.comparison.score (ap (λ (x : Comparison). x.score) after) counted)
    (appends_more _ _ _ _ _ lines printed)
    (IfOk-weaker c.close.result _ _ (λ lacking closed. closed.0) c.close.ensures.closed) c.close.ensures.printed))
