-- What is printed of a kind, as bytes.
use Rattle.std.specs.Prelude.{ℕ, zero, suc, ◌==◌, Bool, cond, nat_lt, List, [], ◌∷◌, ◌++◌, codes, length, slice_index_or}
use Rattle.std.specs.Fmt.{decimal}
use Rattle.literature.specs.Scores.{capped, passed}

-- the items that are given at the numbers below n, one list after another
abbrev pub below : {A : Type 0} → (ℕ → List A) → ℕ → List A
below given zero = []
below given (suc n) = below given n ++ given n

-- the word of a base relation
abbrev pub word_of : List (List ℕ) → ℕ → List ℕ
word_of words c = slice_index_or words c []

-- ` < >`: the words of the base relations that pass a test, in the order of their codes, each after a space
unfoldable pub set_words : List (List ℕ) → (ℕ → Bool) → List ℕ
set_words words test = below (λ c. cond (test c) (32 ∷ word_of words c) []) 64

-- `words = < >` of the codes of a kind
abbrev pub words_line : List (List ℕ) → ℕ → List ℕ
words_line words b = codes "words" ++ set_words words (λ c. nat_lt c b) ++ (10 ∷ [])

-- `converse < >`: a base relation and its converse
abbrev pub converse_line : List (List ℕ) → (ℕ → ℕ) → ℕ → List ℕ
converse_line words converse c = codes "converse " ++ word_of words c ++ (32 ∷ []) ++ word_of words (converse c) ++ (10 ∷ [])

-- `M < >: = < >`: two base relations and all those with which they fit
abbrev pub composition_line : List (List ℕ) → ℕ → (ℕ → ℕ → ℕ → Bool) → ℕ → ℕ → List ℕ
composition_line words letter fit c d =
    (letter ∷ 32 ∷ []) ++ word_of words c ++ (32 ∷ []) ++ word_of words d ++ (58 ∷ []) ++ set_words words (fit c d) ++ (10 ∷ [])

-- which triples of codes fit, one by one in the order of the codes
abbrev pub fitting_tests : (ℕ → ℕ → ℕ → Bool) → ℕ → List Bool
fitting_tests fit b = below (λ c. below (λ d. below (λ e. fit c d e ∷ []) b) b) b

-- `13 of 27`: how many of the tests are passed, and how many there are
abbrev pub score_text : List Bool → List ℕ
score_text tests = decimal (capped (passed tests)) ++ codes " of " ++ decimal (capped (length tests))

-- `fitting triples 13 of 27`
abbrev pub fitting_line : List Bool → List ℕ
fitting_line tests = codes "fitting triples " ++ score_text tests ++ (10 ∷ [])

-- `kind M moments`
abbrev pub kind_line : ℕ → List ℕ → List ℕ
kind_line letter name = codes "kind " ++ (letter ∷ 32 ∷ []) ++ name ++ (10 ∷ [])

-- The table of a kind: its line, the words, each converse, each composition, and how many triples fit.
unfoldable pub kind_lines : List (List ℕ) → ℕ → ℕ → (ℕ → ℕ) → (ℕ → ℕ → ℕ → Bool) → List ℕ → List ℕ
kind_lines words letter b converse fit name =
    kind_line letter name ++ words_line words b ++ below (converse_line words converse) b
    ++ below (λ c. below (composition_line words letter fit c) b) b ++ fitting_line (fitting_tests fit b)

-- `all agree`, or how many differ
abbrev pub summary_line : ℕ → List ℕ
summary_line differ = cond (differ == 0) (codes "all agree\n") (decimal differ ++ codes " differ\n")
