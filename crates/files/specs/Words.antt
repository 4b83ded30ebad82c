-- The words of a field, and the set that they name.
use Rattle.std.specs.Prelude.{◌≡◌, ℕ, ◌^◌, Bool, cond, List, [], ◌∷◌, length, is_some, Some, None, Option, Result, ◌==◌, bit_or, nat_lt}
use Rattle.std.specs.List.{Any, fold, list_all}
use Rattle.kinds.specs.Meaning.{Meaning}
use Rattle.kinds.specs.Words.{read}
use Rattle.files.specs.declared.fault.FieldFault.{FieldFault}
use Rattle.files.specs.declared.fault.FieldFault.TheVariants.{NotWord}
use Rattle.files.specs.Faults.{given}
use Rattle.files.specs.Parts.{parted}

-- How a draft's kind and tally are written: the letter of each, the code that a word of the kind stands for, how many codes there are, and
-- the converse of each.
pub record Spelling : Type 0 where
  pub kind : ℕ
  pub tally : ℕ
  pub code : List ℕ → Option ℕ
  pub codes : ℕ
  pub converse : ℕ → ℕ

-- a code, if it is one of so many
abbrev pub below : ℕ → Option ℕ → Option ℕ
below codes (Some c) = cond (nat_lt c codes) (Some c) None
below codes None = None

-- the code that a text stands for, if it is a word of a kind with so many codes and these words; an empty text is none
abbrev pub code_of : ℕ → List (List ℕ) → List ℕ → Option ℕ
code_of codes names text = cond (length text == 0) None (below codes (read names text))

-- a kind with these words and this letter, and a tally with this letter
abbrev pub spelled : {V : Type 0} → Meaning V → List (List ℕ) → ℕ → ℕ → Spelling
spelled m names kind tally = record { kind = kind; tally = tally; code = code_of m.codes names; codes = m.codes; converse = m.converse }

-- the words of a field, parted by '/'; an empty field has none
abbrev pub words : List ℕ → List (List ℕ)
words [] = []
words (b ∷ bs) = parted 47 (b ∷ bs)

-- each is a word of the kind
abbrev pub all_words : (List ℕ → Option ℕ) → List (List ℕ) → Bool
all_words code ws = list_all (λ w. is_some (code w)) ws

-- a set with the codes of some words, a bit for each, beside those that it has
abbrev pub with_words : (List ℕ → Option ℕ) → ℕ → List (List ℕ) → ℕ
with_words code set ws = fold (λ s w. elim (code w) [ Some c ↦ bit_or s (2 ^ c) | None ↦ s ]) set ws

-- each word of a field is a word of the kind
unfoldable pub are_words : (List ℕ → Option ℕ) → List ℕ → Bool
are_words code field = all_words code (words field)

-- the codes of the words of a field, as bits
unfoldable pub set_of : (List ℕ → Option ℕ) → List ℕ → ℕ
set_of code field = with_words code 0 (words field)

-- the set that a field names, or the fault that one of its words is none
abbrev pub set_in : (List ℕ → Option ℕ) → List ℕ → Result ℕ FieldFault
set_in code field = given (are_words code field) (set_of code field) NotWord

-- some word of a field has the code c
abbrev pub Names : (List ℕ → Option ℕ) → List ℕ → ℕ → Type 0
Names code field c = Any (λ word. code word ≡ Some c) (words field)
