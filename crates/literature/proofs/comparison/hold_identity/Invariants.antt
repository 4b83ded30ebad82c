-- The score lacks nothing exactly if it lacked nothing before the rows and those so far agree; their relations were met.
use Rattle.std.proofs.Common.{ℕ, ◌<◌, get_or}
use Rattle.literature.specs.Held.{NeutralHeld}
use Rattle.literature.specs.Published.{NeutralAgrees}
use Rattle.literature.specs.declared.published.Entries.{Entries}
use Rattle.literature.proofs.Compared.{RowsBelow}
use Rattle.literature.proofs.Lacking.{Counts}
use Rattle.literature.proofs.Completed.{MetBelow}
use Rattle.literature.proofs.comparison.hold_identity.Given as goal

abbrev pub invariant-loop-row : goal.invariant-loop-row
invariant-loop-row g l =
    (Counts l.initial.comparison.score.lacking l.comparison.score.lacking
    ((k : ℕ) → k < l.row-index → (row : Entries) → NeutralAgrees g.K.Kind.meaning g.K.Notation.words l.table.letters.0.now l.identity (get_or l.table.rows.now k row).letter.now) × MetBelow g.K.Kind.meaning g.K.Notation.words l.table.letters.0.now l.initial.comparison.met (λ row. row.letter.now) l.table.rows.now l.row-index l.comparison.met)
    × RowsBelow g.K.Notation.words g.K.Notation.initial l.initial.comparison.score
    (λ k es. (row : Entries) → NeutralHeld g.K.Kind.meaning g.K.Notation.words l.table.letters.0.now l.identity (get_or l.table.rows.now k row).letter.now es)
    l.row-index l.comparison.score (g.W.Write.contents l.initial.out) (g.W.Write.contents l.out)
