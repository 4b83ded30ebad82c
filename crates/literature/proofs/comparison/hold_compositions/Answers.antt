-- Each row counts in its entries.
use Rattle.std.proofs.Common.{◌≡◌, ℕ, ◌<◌, List, Some, Ok, get_or, length, ap, sym, ◌+◌, ◌∙◌, subst, refl, codes, arith, rules}
use Rattle.std.proofs.lemmas.Result.{IfOk-weaker}
use Rattle.std.proofs.lemmas.List.{get_or_default}
use Rattle.literature.specs.Held.{AtEach, CountedIn, Entry, RowHeld, agreeing, joined}
use Rattle.literature.specs.Letters.{meant_code}
use Rattle.literature.specs.Published.{EntriesAgree, RowAgrees}
use Rattle.literature.specs.declared.published.Entries.{Entries}
use Rattle.literature.specs.declared.score.Score.{Score}
use Rattle.literature.specs.declared.comparison.Comparison.{Comparison}
use Rattle.literature.proofs.Compared.{no_rows, rows_more, score_none, table_printed}
use Rattle.literature.proofs.Lacking.{Counts, counts_all, counts_item}
use Rattle.literature.proofs.Completed.{MetBelow, met_all, met_more}
use Rattle.literature.proofs.Rowed.{code_read, no_row, row_counted}
use Rattle.literature.proofs.comparison.hold_compositions.Goals as goal

pub loop-row-preserved : goal.loop-row-preserved
loop-row-preserved g c =
    let m = g.K.Kind.meaning in
    let words = g.K.Notation.words in
    let table = c.args.table in
    let rows = table.rows.now in
    let k = c.loop-row.row-index in
    let within : k < length rows = omega arith in
    let row = get_or rows k no_row in
    let r = c.in_ok-r.r in
    let old = c.loop-row.comparison.score.lacking in
    let new = c.hold_row.new.self.score.lacking in
    let (one, single, met) = c.in_ok-r.ensures.met in
    let same : c.meet.new.self.score ≡ c.loop-row.comparison.score = ap (λ (x : Comparison). x.score) met in
    let counted : Counts old new (EntriesAgree m words table r row.entries.now) =
    subst (λ (s : Score). Counts s.lacking new (EntriesAgree m words table r row.entries.now)) same c.in_ok-hold_row.ensures.counted in
    let here = row_counted m words table row r (code_read _ r (Ok r) c.in_ok-r.ensures.read refl) old new counted in
    let counts = counts_item (RowAgrees m words table) rows k no_row 0 old new within c.loop-row.invariant.0.0 here in
    let more = met_more m words table.letters.0.now c.args.left_out (λ (x : Entries). x.letter.now) rows g.met.K.WholeNotation.named g.met.K.WholeNotation.worded g.met.K.Kind.lawful.few_codes
    k r one c.loop-row.comparison.met no_row within (code_read _ r (Ok r) c.in_ok-r.ensures.read refl) single c.loop-row.invariant.0.1 in
    let start = c.default.result.score in
    let Q : ℕ → List Entry → Type 0 = λ k es. (row : Entries) → (r : ℕ) × (meant_code words table.letters.0.now (get_or rows k row).letter.now ≡ Some r) × RowHeld m words table r (get_or rows k row).entries.now es in
    let (es, held, in_row, lines) = c.in_ok-hold_row.ensures.printed in
    let place : Q k es = λ d. subst (λ (x : Entries). (r : ℕ) × (meant_code words table.letters.0.now x.letter.now ≡ Some r) × RowHeld m words table r x.entries.now es) (get_or_default rows k no_row d within) (r, code_read _ r (Ok r) c.in_ok-r.ensures.read refl, held) in
    let printed = rows_more words g.K.Notation.initial start Q k c.loop-row.comparison.score c.hold_row.new.self.score (g.W.Write.contents c.args.out.now) (g.W.Write.contents c.loop-row.out) (g.W.Write.contents c.hold_row.new.out) es
    c.loop-row.invariant.1 place (subst (λ (s : Score). CountedIn s (agreeing es) c.hold_row.new.self.score) same in_row) lines in
    ((counts, subst (MetBelow m words table.letters.0.now c.args.left_out (λ (x : Entries). x.letter.now) rows (k + 1)) (sym (c.in_ok-hold_row.ensures.kept ∙ ap (λ (x : Comparison). x.met) met)) more), printed)

pub loop-row-init : goal.loop-row-init
loop-row-init g c =
    let m = g.K.Kind.meaning in
    let words = g.K.Notation.words in
    let table = c.args.table in
    let Q : ℕ → List Entry → Type 0 = λ k es. (row : Entries) → (r : ℕ) × (meant_code words table.letters.0.now (get_or table.rows.now k row).letter.now ≡ Some r) × RowHeld m words table r (get_or table.rows.now k row).entries.now es in
    ((search rules fits 100, search rules fits 100), no_rows words g.K.Notation.initial c.default.result.score Q (g.W.Write.contents c.args.out.now))

pub returns-clause-agree : goal.returns-clause-agree
returns-clause-agree g c =
    IfOk-weaker c.close.result _ _
    (λ differing closed. counts_all (RowAgrees g.K.Kind.meaning g.K.Notation.words c.args.table) c.args.table.rows.now c.loop-row.row-index c.loop-row.comparison.score.lacking differing (omega arith) closed.0 c.loop-row.invariant.0.0)
    c.close.ensures.closed

pub returns-clause-complete : goal.returns-clause-complete
returns-clause-complete g c =
    IfOk-weaker c.close.result _ _
    (λ differing closed. met_all g.K.Kind.meaning g.K.Notation.words c.args.table.letters.0.now c.args.left_out (λ (x : Entries). x.letter.now) c.args.table.rows.now c.loop-row.row-index c.loop-row.comparison.met (omega arith) c.loop-row.invariant.0.1 closed.1)
    c.close.ensures.closed

pub returns-clause-printed : goal.returns-clause-printed
returns-clause-printed g c =
    let m = g.K.Kind.meaning in
    let words = g.K.Notation.words in
    let table = c.args.table in
    let start = c.default.result.score in
    let (held, at, counted, printed) = c.loop-row.invariant.1 in
    let end : c.loop-row.row-index ≡ length table.rows.now = omega arith in
    let Q : ℕ → List Entry → Type 0 = λ k es. (row : Entries) → (r : ℕ) × (meant_code words table.letters.0.now (get_or table.rows.now k row).letter.now ≡ Some r) × RowHeld m words table r (get_or table.rows.now k row).entries.now es in
    let each = subst (λ (n : ℕ). AtEach Q n held) end at in
    IfOk-weaker c.close.result _ _ (λ differ both. (held, each, both.0, both.1))
    (table_printed words g.K.Notation.initial (codes "composition") (joined held) start c.loop-row.comparison.score
    (g.W.Write.contents c.args.out.now) (g.W.Write.contents c.loop-row.out) (g.W.Write.contents c.close.new.out) c.close.result
    (score_none start c.default.ensures.1.0 c.default.ensures.1.1) counted printed
    (IfOk-weaker c.close.result _ _ (λ lacking closed. closed.0) c.close.ensures.closed) c.close.ensures.printed)
