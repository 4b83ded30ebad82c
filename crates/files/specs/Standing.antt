-- A reader's place is counted through its file.
use Rattle.std.specs.Prelude.{◌≡◌, ℕ, List, take, drop, count_by}
use Rattle.files.specs.Heads.{is_head}
use Rattle.files.specs.Views.{View, lines_of}

-- how many of some lines are heads
abbrev pub heads : List (List ℕ) → ℕ
heads ls = count_by is_head ls

-- The line of the place says how many lines of the file are read; the others are to come; and the sheet is the number of heads among
-- those read.
abbrev pub Stands : List ℕ → View → Type 0
Stands file v = (v.ahead ≡ drop v.place.line (lines_of file)) × (v.place.sheet ≡ heads (take v.place.line (lines_of file)))
