-- Published tables of compositions and converses, and whether they agree with a kind.
use Rattle.std.specs.Prelude.{◌≡◌, ℕ, ◌<◌, ◌↔◌, ◌⊎◌, ⊤, List, Option, None, Some, MatchOption, Decides, true, find, length, option_and_then, position, slice_get, slice_index_or}
use Rattle.std.specs.Borrow.{Bor}
use Rattle.std.specs.List.{All, Any}
use Rattle.std.specs.Str.{bytes_eq}
use Rattle.points.specs.Sets.{has}
use Rattle.kinds.specs.Meaning.{Meaning}
use Rattle.kinds.specs.Composition.{Composition}
use Rattle.moments.specs.Moments.{moment_words}
use Rattle.dwellings.specs.Dwellings.{dwellings, dwelling_words}
use Rattle.literature.specs.Letters.{Entered, Unread, meant_code}
use Rattle.literature.specs.declared.published.Letter.{Letter}
use Rattle.literature.specs.Relations.{Single}
use Rattle.literature.specs.declared.published.Entries.{Entries}
use Rattle.literature.specs.declared.published.Turned.{Turned}
use Rattle.literature.specs.declared.published.Direction.{Direction}
use Rattle.literature.specs.declared.comparison.Table.{Table}
use Rattle.literature.specs.declared.literature.Chart.{Chart}

-- A published table is complete: each base relation of the kind is in the set of those left out, or the letter of an item stands for it;
-- and nothing else is in that set, or is what a letter of an item stands for.
abbrev pub Complete : {V A : Type 0} → Meaning V → List (List ℕ) → List Letter → ℕ → (A → List ℕ) → List A → Type 0
Complete m words letters left_out letter_of items =
    (c : ℕ) → (c < m.codes) ↔ ((has left_out c ≡ true) ⊎ Any (λ x. meant_code words letters (letter_of x) ≡ Some c) items)

-- The entry stands for the composition of r and the base relation that the letter of its column stands for.
abbrev pub EntryAgrees : {V : Type 0} → Meaning V → List (List ℕ) → List Letter → ℕ → List ℕ → List ℕ → Type 0
EntryAgrees m words letters r column entry =
    (s : ℕ) × (meant_code words letters column ≡ Some s) × (set : ℕ) × Entered words letters entry set × Composition m r s set

-- The entries in the row of r agree, one for each column. The columns have the letters of the rows.
abbrev pub EntriesAgree : {V : Type 0} → Meaning V → List (List ℕ) → Table → ℕ → List (Bor (List ℕ)) → Type 0
EntriesAgree m words table r entries =
    (k : ℕ) → k < length table.rows.now → (column : Entries) (entry : Bor (List ℕ)) →
    EntryAgrees m words table.letters.0.now r (slice_index_or table.rows.now k column).letter.now (slice_index_or entries k entry).now

-- The entries of a row agree, with the base relation that its letter stands for.
abbrev pub RowAgrees : {V : Type 0} → Meaning V → List (List ℕ) → Table → Entries → Type 0
RowAgrees m words table row =
    (r : ℕ) × (meant_code words table.letters.0.now row.letter.now ≡ Some r) × EntriesAgree m words table r row.entries.now

-- Each row agrees.
abbrev pub TableAgrees : {V : Type 0} → Meaning V → List (List ℕ) → Table → Type 0
TableAgrees m words table = All (RowAgrees m words table) table.rows.now

-- The letter of the converse stands for the converse of the base relation that the letter stands for.
abbrev pub ConverseAgrees : {V : Type 0} → Meaning V → List (List ℕ) → List Letter → Turned → Type 0
ConverseAgrees m words letters turned =
    (r : ℕ) × (meant_code words letters turned.0.now ≡ Some r) × (set : ℕ) × Entered words letters turned.1.now set × Single (m.converse r) set

-- The letter stands for the set that the base relation i gives composed with itself.
abbrev pub IdempotentAgrees : {V : Type 0} → Meaning V → List (List ℕ) → List Letter → ℕ → List ℕ → Type 0
IdempotentAgrees m words letters i letter = (set : ℕ) × Entered words letters letter set × Composition m i i set

-- The letter stands for a base relation, and for the set that it gives composed with the base relation i on either side.
abbrev pub NeutralAgrees : {V : Type 0} → Meaning V → List (List ℕ) → List Letter → ℕ → List ℕ → Type 0
NeutralAgrees m words letters i letter =
    (r : ℕ) × (meant_code words letters letter ≡ Some r) × (set : ℕ) × Entered words letters letter set × Composition m i r set × Composition m r i set

-- the entry in the row of one letter and the column of another, or none where the table has no such row, column or entry
abbrev pub entry_at : Table → List ℕ → List ℕ → Option (Bor (List ℕ))
entry_at table first second =
    option_and_then
    (λ row. option_and_then (λ k. slice_get row.entries.now k) (position (λ column. bytes_eq column.letter.now second) table.rows.now))
    (find (λ row. bytes_eq row.letter.now first) table.rows.now)

-- The entry of two letters in the table stands for the set.
abbrev pub Composes : List (List ℕ) → Table → List ℕ → List ℕ → ℕ → Type 0
Composes words table first second set =
    (entry : Bor (List ℕ)) × (entry_at table first second ≡ Some entry) × Entered words table.letters.0.now entry.now set

-- Two letters have no entry in the table, or one that stands for nothing.
abbrev pub Uncomposed : List (List ℕ) → Table → List ℕ → List ℕ → Type 0
Uncomposed words table first second = MatchOption (entry_at table first second) ⊤ (λ entry. Unread words table.letters.0.now entry.now)

-- The letter stands for a base relation of points that is in the set.
abbrev pub PartIn : Chart → List ℕ → ℕ → Type 0
PartIn chart letter set = (c : ℕ) × (meant_code moment_words chart.points.letters.0.now letter ≡ Some c) × (has set c ≡ true)

-- The part of the direction along each axis is in one of the two sets, and its letter stands for a set that has e.
abbrev pub DirectionIn : Chart → ℕ → ℕ → ℕ → Direction → Type 0
DirectionIn chart east north e direction =
    PartIn chart direction.eastward.now east × PartIn chart direction.northward.now north
    × (given : ℕ) × Entered dwelling_words chart.letters.0.now direction.letter.now given × (has given e ≡ true)

-- The set is the composition of two directions by points on both axes: it has just the directions whose part along each axis is in the
-- published composition of the parts of the two along that axis.
abbrev pub ComposesByParts : Chart → Direction → Direction → ℕ → Type 0
ComposesByParts chart first second set =
    (east : ℕ) × Composes moment_words chart.points first.eastward.now second.eastward.now east
    × (north : ℕ) × Composes moment_words chart.points first.northward.now second.northward.now north
    × ((e : ℕ) → Decides (has set e) (Any (DirectionIn chart east north e) chart.directions.now))

-- A part of the direction stands for no base relation of points, or its letter stands for nothing.
abbrev pub DirectionUnread : Chart → Direction → Type 0
DirectionUnread chart direction =
    (meant_code moment_words chart.points.letters.0.now direction.eastward.now ≡ None)
    ⊎ ((meant_code moment_words chart.points.letters.0.now direction.northward.now ≡ None)
    ⊎ Unread dwelling_words chart.letters.0.now direction.letter.now)

-- Two directions have no composition by points on both axes: the parts along an axis have none, or some direction is not read.
abbrev pub UncomposedByParts : Chart → Direction → Direction → Type 0
UncomposedByParts chart first second =
    Uncomposed moment_words chart.points first.eastward.now second.eastward.now
    ⊎ (Uncomposed moment_words chart.points first.northward.now second.northward.now
    ⊎ Any (DirectionUnread chart) chart.directions.now)

-- The composition of two directions by points on both axes is that of the base relations that their letters stand for.
abbrev pub DirectionsAgree : Chart → Direction → Direction → Type 0
DirectionsAgree chart first second =
    (r : ℕ) × (meant_code dwelling_words chart.letters.0.now first.letter.now ≡ Some r)
    × (s : ℕ) × (meant_code dwelling_words chart.letters.0.now second.letter.now ≡ Some s)
    × (set : ℕ) × ComposesByParts chart first second set × Composition dwellings r s set

-- Each two directions agree.
abbrev pub ChartAgrees : Chart → Type 0
ChartAgrees chart = All (λ first. All (DirectionsAgree chart first) chart.directions.now) chart.directions.now
