-- The letters of the literature, and what they stand for.
use Rattle.std.specs.Prelude.{◌≡◌, ℕ, ◌==◌, List, ⊤, Option, None, Some, MatchOption, find, option_and_then, option_map}
use Rattle.std.specs.List.{Contains, slice_split}
use Rattle.std.specs.Str.{bytes_eq}
use Rattle.kinds.specs.Words.{read}
use Rattle.literature.specs.Relations.{Single, UnionOf}
use Rattle.literature.specs.declared.published.Letter.{Letter}

-- the words that a letter stands for, or none where it is not among the letters
abbrev pub meant : List Letter → List ℕ → Option (List ℕ)
meant letters text = option_map (λ l. l.1.now) (find (λ l. bytes_eq l.0.now text) letters)

-- the code of the base relation that a letter stands for, or none where it stands for no single one
abbrev pub meant_code : List (List ℕ) → List Letter → List ℕ → Option ℕ
meant_code words letters text = option_and_then (read words) (meant letters text)

-- the parts of a text between its spaces
abbrev pub parts : List ℕ → List (List ℕ)
parts text = slice_split (λ b. b == 32) text

-- P holds of some part of a text.
abbrev pub SomePart : List ℕ → (List ℕ → Type 0) → Type 0
SomePart text P = (part : List ℕ) × Contains (parts text) part × P part

-- The set has the base relation of a word alone.
abbrev pub WordNamed : List (List ℕ) → List ℕ → ℕ → Type 0
WordNamed words word one = (c : ℕ) × (read words word ≡ Some c) × Single c one

-- The set has the base relations that the parts of a text name; each part is a word.
abbrev pub Named : List (List ℕ) → List ℕ → ℕ → Type 0
Named words text set = UnionOf (WordNamed words) (parts text) set

-- Some part of the text is no word.
abbrev pub Unnamed : List (List ℕ) → List ℕ → Type 0
Unnamed words text = (part : List ℕ) × Contains (parts text) part × (read words part ≡ None)

-- The set has what a letter stands for.
abbrev pub PartNamed : List (List ℕ) → List Letter → List ℕ → ℕ → Type 0
PartNamed words letters part given = (text : List ℕ) × (meant letters part ≡ Some text) × Named words text given

-- It is no letter, or one that stands for no words of the kind.
abbrev pub PartUnread : List (List ℕ) → List Letter → List ℕ → Type 0
PartUnread words letters part = MatchOption (meant letters part) ⊤ (λ text. Unnamed words text)

-- The set has what an entry stands for: a letter, or else its parts, each of which is one.
abbrev pub Entered : List (List ℕ) → List Letter → List ℕ → ℕ → Type 0
Entered words letters entry set =
    MatchOption (meant letters entry)
    (UnionOf (PartNamed words letters) (parts entry) set)
    (λ text. Named words text set)

-- The entry stands for nothing: it is a letter that stands for no words of the kind, or some part of it is no letter or such a letter.
abbrev pub Unread : List (List ℕ) → List Letter → List ℕ → Type 0
Unread words letters entry =
    MatchOption (meant letters entry)
    (SomePart entry (PartUnread words letters))
    (λ text. Unnamed words text)
