-- The score lacks nothing exactly if it lacked nothing and the entries so far agree; the relations met stay.
use Rattle.std.proofs.Common.{◌≡◌, ℕ, ◌<◌, Bor, List, Some, get_or, length}
use Rattle.literature.specs.Held.{CompositionHeld}
use Rattle.literature.specs.Letters.{meant_code}
use Rattle.literature.specs.Published.{EntryAgrees}
use Rattle.literature.specs.declared.published.Entries.{Entries}
use Rattle.literature.proofs.Compared.{HeldBelow}
use Rattle.literature.proofs.Lacking.{Counts}
use Rattle.literature.proofs.comparison.Comparison.hold_row.Given as goal

abbrev pub invariant-loop-column : goal.invariant-loop-column
invariant-loop-column g l =
    (Counts l.initial.self.score.lacking l.self.score.lacking
    ((k : ℕ) → k < length l.yielded → (column : Entries) (entry : Bor (List ℕ)) → EntryAgrees g.K.Kind.meaning g.K.Notation.words l.table.letters.0.now l.r (get_or l.table.rows.now k column).letter.now (get_or l.entries k entry).now) × (l.self.met ≡ l.initial.self.met))
    × HeldBelow g.K.Notation.words g.K.Notation.initial l.initial.self.score
    (λ k e. (column : Entries) (text : Bor (List ℕ)) → (s : ℕ) × (meant_code g.K.Notation.words l.table.letters.0.now (get_or l.table.rows.now k column).letter.now ≡ Some s)
    × CompositionHeld g.K.Kind.meaning g.K.Notation.words l.table.letters.0.now l.r s (get_or l.entries k text).now e)
    (length l.yielded) l.self.score (g.W.Write.contents l.initial.out) (g.W.Write.contents l.out)
