-- A statement's line: first item, second item, words, weight, person, and '!' if it is sworn.
use Rattle.std.specs.Prelude.{◌≡◌, ℕ, ◌^◌, ◌<◌, ◌≤◌, Bool, true, false, cond, ◌||◌, List, [], ◌∷◌, length, Some, None, Ok, codes, Option, Result, ◌==◌, nat_le}
use Rattle.std.specs.Borrow.{Bor}
use Rattle.std.specs.Fmt.{decimal}
use Rattle.std.specs.List.{join_with_byte}
use Rattle.kinds.specs.Words.{is}
use Rattle.statements.specs.declared.entry.Entry.{Entry}
use Rattle.files.specs.declared.fault.FieldFault.{FieldFault}
use Rattle.files.specs.declared.fault.FieldFault.TheVariants.{NotNumber, NotWord, NotMark}
use Rattle.files.specs.declared.fault.LineFault.{LineFault}
use Rattle.files.specs.declared.fault.LineFault.TheVariants.{TooLong, FieldCount, Field}
use Rattle.files.specs.Faults.{first, unless, given, answered}
use Rattle.files.specs.Parts.{fields, Lacks}
use Rattle.files.specs.Numbers.{is_number, value_of}
use Rattle.files.specs.Words.{are_words, set_of, set_in}
use Rattle.files.specs.Heads.{line_fits, field}

-- a field is '!'
abbrev pub is_mark : List ℕ → Bool
is_mark f = is f (codes "!")

-- what a sixth field says: there is none, or it is the mark of a sworn statement
abbrev pub mark_in : Option (Bor (List ℕ)) → Result Bool FieldFault
mark_in None = Ok false
mark_in (Some f) = given (is_mark f.now) true NotMark

-- a line has a field k
abbrev pub has_field : ℕ → List ℕ → Bool
has_field k line = nat_le k (length (fields line))

-- what is wrong with a statement's line by itself, in the order of the checks
abbrev pub statement_fault : (List ℕ → Option ℕ) → List ℕ → Option LineFault
statement_fault code line = first
    (unless (line_fits line) TooLong
    ∷ unless (length (fields line) == 5 || length (fields line) == 6) FieldCount
    ∷ unless (is_number (field 1 line)) (Field 1 NotNumber)
    ∷ unless (is_number (field 2 line)) (Field 2 NotNumber)
    ∷ unless (are_words code (field 3 line)) (Field 3 NotWord)
    ∷ unless (is_number (field 4 line)) (Field 4 NotNumber)
    ∷ unless (is_number (field 5 line)) (Field 5 NotNumber)
    ∷ unless (cond (has_field 6 line) (is_mark (field 6 line)) true) (Field 6 NotMark)
    ∷ [])

-- what the fields of a statement say
abbrev pub entry_of : (List ℕ → Option ℕ) → List ℕ → Entry
entry_of code line = record {
  first = value_of (field 1 line);
  second = value_of (field 2 line);
  set = set_of code (field 3 line);
  weight = value_of (field 4 line);
  person = value_of (field 5 line);
  sworn = has_field 6 line;
}

-- the entry that a line is, or its first fault
abbrev pub entry_in : (List ℕ → Option ℕ) → List ℕ → Result Entry LineFault
entry_in code line = answered (statement_fault code line) (entry_of code line)

-- That a line says an entry, by its bytes, field after field.
pub record SaysEntry (code : List ℕ → Option ℕ) (line : List ℕ) (e : Entry) : Type 0 where
  -- the third field, in which no space stands
  pub words : List ℕ
  pub one_field : Lacks 32 words
  -- the line is these fields, with single spaces between them
  pub fields : line ≡ join_with_byte 32 (
      -- 1: the first item
      decimal e.first
      -- 2: the second item
      ∷ decimal e.second
      -- 3: the words
      ∷ words
      -- 4: the weight
      ∷ decimal e.weight
      -- 5: the person
      ∷ decimal e.person
      -- 6: '!', if it is sworn
      ∷ cond e.sworn (codes "!" ∷ []) []
      )
  -- it has at most 80 bytes
  pub short : length line ≤ 80
  -- each number has at most six digits
  pub first : e.first < 10 ^ 6
  pub second : e.second < 10 ^ 6
  pub weight : e.weight < 10 ^ 6
  pub person : e.person < 10 ^ 6
  -- the words name the set
  pub set : set_in code words ≡ Ok e.set
