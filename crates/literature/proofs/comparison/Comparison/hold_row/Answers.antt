-- Each column counts in its entry.
use Rattle.std.proofs.Common.{◌≡◌, ℕ, ◌<◌, Bor, List, Some, Ok, ap, get_or, length, sym, ◌∙◌, subst, refl, arith, rules}
use Rattle.std.proofs.lemmas.Bool.{false≢true}
use Rattle.std.proofs.lemmas.List.{length_push}
use Rattle.std.proofs.lemmas.Slice.Zip.{zip_end, zip_turn}
use Rattle.std.specs.Iterator.Adapters.{zip_first, zip_second}
use Rattle.std.specs.Slice.Iter.{iter_rest}
use Rattle.literature.specs.Held.{AtEach, CompositionHeld, Entry}
use Rattle.literature.specs.Letters.{Entered, meant_code}
use Rattle.literature.specs.Published.{EntryAgrees}
use Rattle.literature.specs.declared.comparison.Comparison.{Comparison}
use Rattle.literature.specs.declared.published.Entries.{Entries}
use Rattle.literature.proofs.Compared.{HeldBelow, entry_read, held_more, none_held}
use Rattle.literature.proofs.Lacking.{Counts, counts_more}
use Rattle.literature.proofs.Rowed.{at_place, code_read, entry_counted, held_met, held_score, read_then}
use Rattle.literature.proofs.comparison.Comparison.hold_row.Goals as goal

pub loop-column-preserved : goal.loop-column-preserved
loop-column-preserved g c =
    let m = g.K.Kind.meaning in
    let words = g.K.Notation.words in
    let letters = c.args.table.letters.0.now in
    let rows = c.args.table.rows.now in
    let entries = c.args.entries.now in
    let r = c.args.r in
    let k = length c.loop-column.yielded in
    let column = c.in-Some.column in
    let entry = c.in-Some.entry in
    let before = c.args.self.now.score in
    let old = c.loop-column.self.score in
    let new = c.hold_composition.new.self.score in
    let P : ℕ → Type 0 = λ k. (column : Entries) (entry : Bor (List ℕ)) → EntryAgrees m words letters r (get_or rows k column).letter.now (get_or entries k entry).now in
    let first : iter_rest (zip_first c.into_iter-column-iterator.result) ≡ rows = search rules in
    let second : iter_rest (zip_second c.into_iter-column-iterator.result) ≡ entries = search rules in
    let (_, _, of_rows, of_entries) = zip_turn rows entries c.loop-column.yielded c.into_iter-column-iterator.result c.loop-column.column-iterator c.next.new.self c.next.result first second c.loop-column.yielded_by (column, entry) c.in-Some.is c.next.ensures.steps in
    let code = code_read _ c.in_ok-s.s (Ok c.in_ok-s.s) c.in_ok-s.ensures refl in
    let held = c.in_ok-hold_composition.ensures in
    let here = entry_counted m words letters r column.now.letter.now entry.now.now c.in_ok-s.s code old new c.set.result c.set.ensures (λ none. false≢true (held.unread none))
    (held_score _ _ c.set.result held.counted) in
    let counted = subst (λ (n : ℕ). Counts before.lacking new.lacking ((k : ℕ) → k < n → P k)) (sym (length_push c.loop-column.yielded (column, entry)))
    (counts_more before.lacking old.lacking new.lacking P k c.loop-column.invariant.0.0
    (at_place m words letters r rows entries k column.now entry.now of_rows of_entries old.lacking new.lacking here)) in
    let Q : ℕ → Entry → Type 0 = λ k e. (column : Entries) (text : Bor (List ℕ)) → (s : ℕ) × (meant_code words letters (get_or rows k column).letter.now ≡ Some s) × CompositionHeld m words letters r s (get_or entries k text).now e in
    let a = g.W.Write.contents c.args.out.now in
    let b = g.W.Write.contents c.loop-column.out in
    let d = g.W.Write.contents c.hold_composition.new.out in
    let more = read_then c.set.result (λ none. false≢true (held.unread none))
    (λ set is.
    let (ours, composed, after, lines) = held.printed set is in
    let e : Entry = record { first = r; second = c.in_ok-s.s; ours = ours; published = set } in
    let entered = entry_read words letters entry.now.now c.set.result set c.set.ensures is in
    let place : Q k e = λ x t. (
      c.in_ok-s.s,
      subst (λ (y : Entries). meant_code words letters y.letter.now ≡ Some c.in_ok-s.s) (of_rows x) code,
      (refl, refl, composed, subst (λ (y : Bor (List ℕ)). Entered words letters y.now set) (of_entries t) entered),
    ) in
    held_more words g.K.Notation.initial before Q k old new a b d e c.loop-column.invariant.1 place (ap (λ (x : Comparison). x.score) after) lines) in
    let printed = subst (λ (n : ℕ). HeldBelow words g.K.Notation.initial before Q n new a d) (sym (length_push c.loop-column.yielded (column, entry))) more in
    ((counted, held_met _ _ c.set.result held.counted (λ none. false≢true (held.unread none)) ∙ c.loop-column.invariant.0.1), printed)

pub loop-column-init : goal.loop-column-init
loop-column-init g c =
    let letters = c.args.table.letters.0.now in
    let Q : ℕ → Entry → Type 0 = λ k e. (column : Entries) (text : Bor (List ℕ)) → (s : ℕ) × (meant_code g.K.Notation.words letters (get_or c.args.table.rows.now k column).letter.now ≡ Some s) × CompositionHeld g.K.Kind.meaning g.K.Notation.words letters c.args.r s (get_or c.args.entries.now k text).now e in
    ((search rules, refl), none_held g.K.Notation.words g.K.Notation.initial c.args.self.now.score Q (g.W.Write.contents c.args.out.now))

pub returns-clause-printed : goal.returns-clause-printed
returns-clause-printed g c =
    let m = g.K.Kind.meaning in
    let words = g.K.Notation.words in
    let table = c.args.table in
    let letters = table.letters.0.now in
    let rows = table.rows.now in
    let entries = c.args.entries.now in
    let (held, at, counted, printed) = c.loop-column.invariant.1 in
    let first : iter_rest (zip_first c.into_iter-column-iterator.result) ≡ rows = search rules in
    let second : iter_rest (zip_second c.into_iter-column-iterator.result) ≡ entries = search rules in
    let full : length entries ≡ length rows = search rules in
    let turns = zip_end rows entries c.loop-column.yielded c.into_iter-column-iterator.result c.loop-column.column-iterator c.next.new.self c.next.result first second c.loop-column.yielded_by c.in-None.is c.next.ensures.steps in
    let end : length c.loop-column.yielded ≡ length rows = omega (arith, turns, full) in
    let Q : ℕ → Entry → Type 0 = λ k e. (column : Entries) (text : Bor (List ℕ)) → (s : ℕ) × (meant_code words letters (get_or rows k column).letter.now ≡ Some s) × CompositionHeld m words letters c.args.r s (get_or entries k text).now e in
    (held, subst (λ (n : ℕ). AtEach Q n held) end at, counted, printed)
