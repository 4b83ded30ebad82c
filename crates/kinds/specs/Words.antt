-- Relation words: the texts by which files and reports name the base relations of a kind, in the order of their codes.
use Rattle.std.specs.Prelude.{◌≡◌, ℕ, suc, ◌<◌, Bool, true, cond, ◌&&◌, List, [], ◌∷◌, length, Some, None, Option, ◌==◌, ◌↔◌, ◌||◌, not, nat_le, slice_index, slice_index_or}
use Rattle.std.specs.List.{list_all}

-- from place i on, the text has the bytes of the word
abbrev pub goes_on : List ℕ → ℕ → List ℕ → Bool
goes_on text i [] = true
goes_on text i (b ∷ word) = slice_index text i == b && goes_on text (suc i) word

-- the text is the word
abbrev pub is : List ℕ → List ℕ → Bool
is text word = length text == length word && goes_on text 0 word

-- the place of the text among the words, which are counted from c
abbrev pub place_from : ℕ → List (List ℕ) → List ℕ → Option ℕ
place_from c [] text = None
place_from c (word ∷ words) text = cond (is text word) (Some c) (place_from (suc c) words text)

-- the code that the text stands for, if it is one of the words
abbrev pub read : List (List ℕ) → List ℕ → Option ℕ
read words text = place_from 0 words text

-- each word stands for its own code, so no two are alike
abbrev pub Unambiguous : List (List ℕ) → Type 0
Unambiguous words = (c : ℕ) → c < length words → read words (slice_index_or words c []) ≡ Some c

-- a text stands for a code exactly if it is the code's word
abbrev pub Named : List (List ℕ) → Type 0
Named words = (text : List ℕ) (c : ℕ) → (read words text ≡ Some c) ↔ ((c < length words) × (text ≡ slice_index_or words c []))

-- A line of a file can hold the word: it has 1 to 64 bytes, none of which parts words, fields or lines.
abbrev pub writable : List ℕ → Bool
writable word = nat_le 1 (length word) && (nat_le (length word) 64 && list_all (λ b. not (b == 47 || (b == 32 || b == 10))) word)
