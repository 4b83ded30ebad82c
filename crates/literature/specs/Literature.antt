-- What is published of the three kinds as a whole.
use Rattle.std.specs.Prelude.{◌≡◌, ℕ, ◌+◌, Some, List, ◌∷◌, ◌++◌, codes}
use Rattle.std.specs.List.{All}
use Rattle.moments.specs.Moments.{moments, moment_words}
use Rattle.spells.specs.Spells.{spells, spell_words}
use Rattle.dwellings.specs.Dwellings.{dwellings, dwelling_words}
use Rattle.literature.specs.Held.{ChartHeld, ConversesHeld, Entry, IdentityHeld, TableHeld, differing, joined, table_lines}
use Rattle.literature.specs.Letters.{meant_code}
use Rattle.literature.specs.Published.{ChartAgrees, Complete, ConverseAgrees, IdempotentAgrees, NeutralAgrees, TableAgrees}
use Rattle.literature.specs.Relations.{Single}
use Rattle.literature.specs.Scores.{capped}
use Rattle.literature.specs.declared.literature.Literature.{Literature}

-- The letter of the identity of intervals stands for the base relation i.
abbrev pub Identity : Literature → ℕ → Type 0
Identity l i = meant_code spell_words l.intervals.letters.0.now l.identity.now ≡ Some i

-- All published tables agree: the converses and the compositions of each kind, and the row and the column of the identity of intervals.
pub record LiteratureAgrees (l : Literature) : Type 0 where
  pub point_converses : All (ConverseAgrees moments moment_words l.points.letters.0.now) l.point_converses.now
  pub points : TableAgrees moments moment_words l.points
  pub interval_converses : All (ConverseAgrees spells spell_words l.interval_letters.0.now) l.interval_converses.now
  pub intervals : TableAgrees spells spell_words l.intervals
  pub identity : (i : ℕ) × Identity l i × IdempotentAgrees spells spell_words l.intervals.letters.0.now i l.identity.now
      × All (λ row. NeutralAgrees spells spell_words l.intervals.letters.0.now i row.letter.now) l.intervals.rows.now
  pub direction_converses : All (ConverseAgrees dwellings dwelling_words l.chart.letters.0.now) l.direction_converses.now
  pub directions : ChartAgrees l.chart

-- All published tables are complete: only that of intervals leaves out a relation, the identity.
pub record LiteratureComplete (l : Literature) : Type 0 where
  pub point_converses : Complete moments moment_words l.points.letters.0.now 0 (λ turned. turned.0.now) l.point_converses.now
  pub points : Complete moments moment_words l.points.letters.0.now 0 (λ row. row.letter.now) l.points.rows.now
  pub interval_converses : Complete spells spell_words l.interval_letters.0.now 0 (λ turned. turned.0.now) l.interval_converses.now
  pub intervals : (i : ℕ) × Identity l i × (one : ℕ) × Single i one
      × Complete spells spell_words l.intervals.letters.0.now one (λ row. row.letter.now) l.intervals.rows.now
  pub direction_converses : Complete dwellings dwelling_words l.chart.letters.0.now 0 (λ turned. turned.0.now) l.direction_converses.now
  pub directions : Complete dwellings dwelling_words l.chart.letters.0.now 0 (λ direction. direction.letter.now) l.chart.directions.now

-- The entries of each published table as they are held against ours.
pub record HeldTables : Type 0 where
  pub point_converses : List Entry
  pub points : List Entry
  pub interval_converses : List Entry
  pub intervals : List Entry
  pub identity : List Entry
  pub direction_converses : List Entry
  pub directions : List Entry

-- These are all entries, each with what it stands for and with what we have.
pub record LiteratureHeld (l : Literature) (h : HeldTables) : Type 0 where
  pub point_converses : ConversesHeld moments moment_words l.points.letters.0.now l.point_converses.now h.point_converses
  pub points : (rows : List (List Entry)) × TableHeld moments moment_words l.points rows × (h.points ≡ joined rows)
  pub interval_converses : ConversesHeld spells spell_words l.interval_letters.0.now l.interval_converses.now h.interval_converses
  pub intervals : (rows : List (List Entry)) × TableHeld spells spell_words l.intervals rows × (h.intervals ≡ joined rows)
  pub identity : (i : ℕ) × Identity l i × (itself : Entry) × (rows : List (List Entry)) × IdentityHeld spells spell_words l.intervals i l.identity.now itself rows
      × (h.identity ≡ itself ∷ joined rows)
  pub direction_converses : ConversesHeld dwellings dwelling_words l.chart.letters.0.now l.direction_converses.now h.direction_converses
  pub directions : (rows : List (List Entry)) × ChartHeld l.chart rows × (h.directions ≡ joined rows)

-- The lines of all published tables, in their order. The letters of the kinds are M, S and D.
abbrev pub literature_lines : HeldTables → List ℕ
literature_lines h =
    table_lines moment_words 77 (codes "converse") h.point_converses ++ table_lines moment_words 77 (codes "composition") h.points
    ++ table_lines spell_words 83 (codes "converse") h.interval_converses ++ table_lines spell_words 83 (codes "composition") h.intervals
    ++ table_lines spell_words 83 (codes "identity") h.identity ++ table_lines dwelling_words 68 (codes "converse") h.direction_converses
    ++ table_lines dwelling_words 68 (codes "composition") h.directions

-- how many entries of all of them differ, as a program counts them
abbrev pub literature_differs : HeldTables → ℕ
literature_differs h =
    capped
    (differing h.point_converses + (differing h.points + (differing h.interval_converses + (differing h.intervals + (differing h.identity
    + (differing h.direction_converses + differing h.directions))))))
