-- The score lacks nothing exactly if the rows so far agree; their relations were met.
use Rattle.std.proofs.Common.{◌≡◌, ℕ, ◌<◌, Some, get_or}
use Rattle.literature.specs.Held.{RowHeld}
use Rattle.literature.specs.Letters.{meant_code}
use Rattle.literature.specs.Published.{RowAgrees}
use Rattle.literature.specs.declared.published.Entries.{Entries}
use Rattle.literature.proofs.Compared.{RowsBelow}
use Rattle.literature.proofs.Lacking.{Counts}
use Rattle.literature.proofs.Completed.{MetBelow}
use Rattle.literature.proofs.comparison.hold_compositions.Given as goal

abbrev pub invariant-loop-row : goal.invariant-loop-row
invariant-loop-row g l =
    (Counts 0 l.comparison.score.lacking
    ((k : ℕ) → k < l.row-index → (row : Entries) → RowAgrees g.K.Kind.meaning g.K.Notation.words l.table (get_or l.table.rows.now k row)) × MetBelow g.K.Kind.meaning g.K.Notation.words l.table.letters.0.now l.left_out (λ row. row.letter.now) l.table.rows.now l.row-index l.comparison.met)
    × RowsBelow g.K.Notation.words g.K.Notation.initial l.initial.comparison.score
    (λ k es. (row : Entries) → (r : ℕ) × (meant_code g.K.Notation.words l.table.letters.0.now (get_or l.table.rows.now k row).letter.now ≡ Some r)
    × RowHeld g.K.Kind.meaning g.K.Notation.words l.table r (get_or l.table.rows.now k row).entries.now es)
    l.row-index l.comparison.score (g.W.Write.contents l.initial.out) (g.W.Write.contents l.out)
