-- Published tables as they are held against ours, entry by entry, and what is printed of them.
use Rattle.std.specs.Prelude.{◌≡◌, ℕ, ◌<◌, ◌==◌, Bool, cond, List, [], ◌∷◌, ◌++◌, Some, codes, length, map, slice_index_or}
use Rattle.std.specs.Borrow.{Bor}
use Rattle.std.specs.List.{flat_map}
use Rattle.points.specs.Sets.{has}
use Rattle.kinds.specs.Meaning.{Meaning}
use Rattle.kinds.specs.Composition.{Composition}
use Rattle.dwellings.specs.Dwellings.{dwellings, dwelling_words}
use Rattle.literature.specs.Letters.{Entered, meant_code}
use Rattle.literature.specs.Published.{ComposesByParts}
use Rattle.literature.specs.Printed.{score_text, set_words, word_of}
use Rattle.literature.specs.Relations.{Single}
use Rattle.literature.specs.Scores.{capped, failed, score_of}
use Rattle.literature.specs.declared.comparison.Table.{Table}
use Rattle.literature.specs.declared.literature.Chart.{Chart}
use Rattle.literature.specs.declared.published.Direction.{Direction}
use Rattle.literature.specs.declared.published.Entries.{Entries}
use Rattle.literature.specs.declared.score.Score.{Score}
use Rattle.literature.specs.declared.published.Letter.{Letter}
use Rattle.literature.specs.declared.published.Turned.{Turned}

-- An entry as it is held: two base relations, the set that we have for them, and the published one.
pub record Entry : Type 0 where
  pub first : ℕ
  pub second : ℕ
  pub ours : ℕ
  pub published : ℕ

-- the two sets are the same
abbrev pub agrees : Entry → Bool
agrees e = e.ours == e.published

-- which entries agree
abbrev pub agreeing : List Entry → List Bool
agreeing entries = map agrees entries

-- `  differs: M < >: ours = < >, published <`
abbrev pub differs_line : List (List ℕ) → ℕ → Entry → List ℕ
differs_line words letter e =
    codes "  differs: " ++ (letter ∷ 32 ∷ []) ++ word_of words e.first ++ (32 ∷ []) ++ word_of words e.second ++ codes ": ours" ++ set_words words (has e.ours)
    ++ codes ", published" ++ set_words words (has e.published) ++ (10 ∷ [])

-- that line where the sets differ, or none
abbrev pub entry_lines : List (List ℕ) → ℕ → Entry → List ℕ
entry_lines words letter e = cond (agrees e) [] (differs_line words letter e)

-- `published M composition: 9 of 9 agree`
abbrev pub table_line : ℕ → List ℕ → List Bool → List ℕ
table_line letter name tests = codes "published " ++ (letter ∷ 32 ∷ []) ++ name ++ codes ": " ++ score_text tests ++ codes " agree\n"

-- The lines of a table: one for each entry that differs, in their order, and then that of the table.
abbrev pub table_lines : List (List ℕ) → ℕ → List ℕ → List Entry → List ℕ
table_lines words letter name entries = flat_map (entry_lines words letter) entries ++ table_line letter name (agreeing entries)

-- how many entries differ, as a program counts them
abbrev pub differing : List Entry → ℕ
differing entries = capped (failed (agreeing entries))

-- The list has n items, and P holds of each with its place.
abbrev pub AtEach : {A : Type 0} → (ℕ → A → Type 0) → ℕ → List A → Type 0
AtEach {A} P n xs = (length xs ≡ n) × ((k : ℕ) → k < n → (d : A) → P k (slice_index_or xs k d))

-- A published converse is held: the base relation of its letter, our converse, and what the other letter stands for.
abbrev pub ConverseHeld : {V : Type 0} → Meaning V → List (List ℕ) → List Letter → Turned → Entry → Type 0
ConverseHeld m words letters turned e =
    (meant_code words letters turned.0.now ≡ Some e.first) × (e.second ≡ e.first) × Single (m.converse e.first) e.ours × Entered words letters turned.1.now e.published

-- Each published converse is held, in their order.
abbrev pub ConversesHeld : {V : Type 0} → Meaning V → List (List ℕ) → List Letter → List Turned → List Entry → Type 0
ConversesHeld m words letters pairs entries = AtEach (λ k e. (turned : Turned) → ConverseHeld m words letters (slice_index_or pairs k turned) e) (length pairs) entries

-- A text is held as the published composition of two base relations.
abbrev pub CompositionHeld : {V : Type 0} → Meaning V → List (List ℕ) → List Letter → ℕ → ℕ → List ℕ → Entry → Type 0
CompositionHeld m words letters r s text e =
    (e.first ≡ r) × (e.second ≡ s) × Composition m r s e.ours × Entered words letters text e.published

-- The entries in the row of r are held, one for each column. The columns have the letters of the rows.
abbrev pub RowHeld : {V : Type 0} → Meaning V → List (List ℕ) → Table → ℕ → List (Bor (List ℕ)) → List Entry → Type 0
RowHeld m words table r texts entries =
    AtEach
    (λ k e. (column : Entries) (text : Bor (List ℕ)) →
    (s : ℕ) × (meant_code words table.letters.0.now (slice_index_or table.rows.now k column).letter.now ≡ Some s)
    × CompositionHeld m words table.letters.0.now r s (slice_index_or texts k text).now e)
    (length table.rows.now)
    entries

-- Each row of the table is held, with the base relation that its letter stands for.
abbrev pub TableHeld : {V : Type 0} → Meaning V → List (List ℕ) → Table → List (List Entry) → Type 0
TableHeld m words table rows =
    AtEach
    (λ k entries. (row : Entries) →
    (r : ℕ) × (meant_code words table.letters.0.now (slice_index_or table.rows.now k row).letter.now ≡ Some r)
    × RowHeld m words table r (slice_index_or table.rows.now k row).entries.now entries)
    (length table.rows.now)
    rows

-- A base relation is held composed with the base relation i on either side: each composition is published as the relation itself.
abbrev pub NeutralHeld : {V : Type 0} → Meaning V → List (List ℕ) → List Letter → ℕ → List ℕ → List Entry → Type 0
NeutralHeld m words letters i letter entries =
    (r : ℕ) × (meant_code words letters letter ≡ Some r)
    × (before : Entry) × CompositionHeld m words letters i r letter before
    × (after : Entry) × CompositionHeld m words letters r i letter after
    × (entries ≡ before ∷ after ∷ [])

-- The base relation i, which the letter stands for, is held composed with itself, and then with the relation of each row.
abbrev pub IdentityHeld : {V : Type 0} → Meaning V → List (List ℕ) → Table → ℕ → List ℕ → Entry → List (List Entry) → Type 0
IdentityHeld m words table i letter itself rows =
    CompositionHeld m words table.letters.0.now i i letter itself
    × AtEach (λ k entries. (row : Entries) → NeutralHeld m words table.letters.0.now i (slice_index_or table.rows.now k row).letter.now entries) (length table.rows.now) rows

-- The composition of two directions by their parts is held, with the base relations that their letters stand for.
abbrev pub DirectionHeld : Chart → ℕ → Direction → Direction → Entry → Type 0
DirectionHeld chart r first second e =
    (s : ℕ) × (meant_code dwelling_words chart.letters.0.now second.letter.now ≡ Some s)
    × ((e.first ≡ r) × (e.second ≡ s) × Composition dwellings r s e.ours × ComposesByParts chart first second e.published)

-- The compositions of a direction with each are held.
abbrev pub DirectionsHeld : Chart → Direction → List Entry → Type 0
DirectionsHeld chart first entries =
    (r : ℕ) × (meant_code dwelling_words chart.letters.0.now first.letter.now ≡ Some r)
    × AtEach (λ j e. (second : Direction) → DirectionHeld chart r first (slice_index_or chart.directions.now j second) e) (length chart.directions.now) entries

-- Those of each direction are held.
abbrev pub ChartHeld : Chart → List (List Entry) → Type 0
ChartHeld chart rows =
    AtEach (λ k entries. (first : Direction) → DirectionsHeld chart (slice_index_or chart.directions.now k first) entries) (length chart.directions.now) rows

-- the entries of all rows, one row after another
abbrev pub joined : List (List Entry) → List Entry
joined rows = flat_map (λ entries. entries) rows

-- The second score is the first after the tests were counted in.
abbrev pub CountedIn : Score → List Bool → Score → Type 0
CountedIn old tests new = (before : List Bool) → old ≡ score_of before → new ≡ score_of (before ++ tests)
