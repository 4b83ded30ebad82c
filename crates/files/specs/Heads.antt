-- A head: the kind's letter, the number of items, the tally's letter.
use Rattle.std.specs.Prelude.{◌≡◌, ℕ, ◌-◌, ◌≤◌, Bool, true, cond, ◌||◌, List, [], ◌∷◌, length, Option, Result, ◌==◌, nat_le, slice_index, slice_index_or}
use Rattle.std.specs.Fmt.{decimal}
use Rattle.std.specs.Int.{is_in_range}
use Rattle.std.specs.List.{join_with_byte}
use Rattle.statements.specs.declared.fault.Fault.TheVariants.{Size}
use Rattle.files.specs.declared.fault.FieldFault.TheVariants.{NotNumber, Unknown}
use Rattle.files.specs.declared.fault.LineFault.{LineFault}
use Rattle.files.specs.declared.fault.LineFault.TheVariants.{TooLong, FieldCount, Field, Draft}
use Rattle.files.specs.declared.head.Head.{Head}
use Rattle.files.specs.Faults.{first, unless, answered}
use Rattle.files.specs.Parts.{fields}
use Rattle.files.specs.Numbers.{is_number, value_of}

-- a line whose first byte is A to Z is a head, however unfit it is otherwise; every other line is a statement
abbrev pub is_head : List ℕ → Bool
is_head line = is_in_range 65 90 (slice_index line 0)

-- at most 80 bytes stand in a line
abbrev pub line_fits : List ℕ → Bool
line_fits line = nat_le (length line) 80

-- field k of a line, counted from 1; past the last it is empty
abbrev pub field : ℕ → List ℕ → List ℕ
field k line = slice_index_or (fields line) (k - 1) []

-- the letter in a field of one byte
abbrev pub letter : List ℕ → ℕ
letter f = cond (length f == 1) (slice_index f 0) 0

-- M, S or D
abbrev pub is_kind : ℕ → Bool
is_kind l = l == 77 || l == 83 || l == 68

-- w or r
abbrev pub is_tally : ℕ → Bool
is_tally l = l == 119 || l == 114

-- what is wrong with a head, in the order of the checks
abbrev pub head_fault : List ℕ → Option LineFault
head_fault line = first
    (unless (line_fits line) TooLong
    ∷ unless (length (fields line) == 3) FieldCount
    ∷ unless (is_kind (letter (field 1 line))) (Field 1 Unknown)
    ∷ unless (is_number (field 2 line)) (Field 2 NotNumber)
    ∷ unless (is_tally (letter (field 3 line))) (Field 3 Unknown)
    ∷ unless (is_in_range 1 12 (value_of (field 2 line))) (Draft 2 Size)
    ∷ [])

-- what the fields of a head say
abbrev pub head_of : List ℕ → Head
head_of line = record { letter = letter (field 1 line); size = value_of (field 2 line); tally = letter (field 3 line) }

-- the head that a line is, or its first fault
abbrev pub head_in : List ℕ → Result Head LineFault
head_in line = answered (head_fault line) (head_of line)

-- That a line says a head, by its bytes, field after field.
pub record SaysHead (line : List ℕ) (h : Head) : Type 0 where
  -- the line is these fields, with single spaces between them
  pub fields : line ≡ join_with_byte 32 (
      -- 1: the kind, by its letter
      (h.letter ∷ [])
      -- 2: the number of items
      ∷ decimal h.size
      -- 3: the tally, by its letter
      ∷ (h.tally ∷ [])
      ∷ []
      )
  -- it has at most 80 bytes
  pub short : length line ≤ 80
  -- M, S or D
  pub kind : is_kind h.letter ≡ true
  -- 1 to 12
  pub size : is_in_range 1 12 h.size ≡ true
  -- w or r
  pub tally : is_tally h.tally ≡ true
