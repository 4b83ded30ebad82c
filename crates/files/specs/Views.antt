-- What a reader answers to each call, where it stands then, and what the draft has.
use Rattle.std.specs.Prelude.{ℕ, ◌+◌, Bool, true, false, cond, ◌&&◌, List, [], length, drop, Some, None, Ok, Err, Option, Result, ◌==◌, nat_lt}
use Rattle.rules.specs.declared.row.Row.{Row}
use Rattle.files.specs.declared.fault.FieldFault.TheVariants.{Unknown}
use Rattle.files.specs.declared.fault.LineFault.TheVariants.{TooLong, NoHead, Field}
use Rattle.files.specs.declared.fault.Place.{Place}
use Rattle.files.specs.declared.head.Head.{Head}
use Rattle.files.specs.declared.reader.Reader.{Reader}
use Rattle.files.specs.declared.reader.Spot.{Spot}
use Rattle.files.specs.Faults.{SheetFault}
use Rattle.files.specs.Loads.{body, body_fault, rows_in}
use Rattle.files.specs.Parts.{lines}
use Rattle.files.specs.Sheets.{before, head_place, next_head, nowhere}
use Rattle.files.specs.Words.{Spelling}

-- A reader is seen as whether its file is too long, the place of the last line read, the lines still to come, and the head that waits.
pub record View : Type 0 where
  pub too_long : Bool
  pub place : Place
  pub ahead : List (List ℕ)
  pub waiting : Option Head

-- the lines still to come
abbrev pub ahead_of : Spot → List (List ℕ)
ahead_of s = lines s.ahead.rest.now

-- how a reader is seen: a file that is too long has no lines to come
abbrev pub view_of : Reader → View
view_of r = elim r.spot [
  | Some s ↦ record { too_long = false; place = s.place; ahead = ahead_of s; waiting = r.waiting }
  | None ↦ record { too_long = true; place = record { sheet = 0; line = 0 }; ahead = []; waiting = r.waiting }
]

-- a file has at most 65,536 bytes
abbrev pub too_long : List ℕ → Bool
too_long file = nat_lt 65536 (length file)

-- the lines of a file; none of one that is too long is read
abbrev pub lines_of : List ℕ → List (List ℕ)
lines_of file = cond (too_long file) [] (lines file)

-- before the first line of a file
abbrev pub start_of : List ℕ → View
start_of file = record { too_long = too_long file; place = record { sheet = 0; line = 0 }; ahead = lines_of file; waiting = None }

-- Asked for the next head, it answers the head, or that there is none, or the first fault.
abbrev pub head_answer : View → Result (Option Head) SheetFault
head_answer v = cond v.too_long (Err (nowhere TooLong)) (next_head v.place v.ahead)

-- Then it stands past the head, which waits; at the end if there is none, and no head waits; and where it was if it is refused, the same
-- head waiting as before.
abbrev pub head_move : View → Result (Option Head) SheetFault → View
head_move v (Ok (Some h)) = record { too_long = v.too_long; place = head_place v.place (before v.ahead); ahead = drop (before v.ahead + 1) v.ahead; waiting = Some h }
head_move v (Ok None) = record { too_long = v.too_long; place = record { sheet = v.place.sheet; line = v.place.line + length v.ahead }; ahead = []; waiting = None }
head_move v (Err f) = v

-- where a reader stands once it has been asked for a head
abbrev pub head_after : View → View
head_after v = head_move v (head_answer v)

-- the letters of a head are those of a draft
abbrev pub fits_draft : Spelling → Head → Bool
fits_draft s h = h.letter == s.kind && h.tally == s.tally

-- Asked to load the head that waits into a draft, it is refused by the first fault: that no head waits, that the draft is of another
-- kind or tally, or that of the statements.
abbrev pub waiting_fault : Spelling → View → Option Head → Option SheetFault
waiting_fault s v None = Some (nowhere NoHead)
waiting_fault s v (Some h) = cond (fits_draft s h) (body_fault s h.size v.place [] (body v.ahead)) (Some (nowhere (Field 0 Unknown)))

-- before all of these, that the file is too long
abbrev pub load_fault : Spelling → View → Option SheetFault
load_fault s v = cond v.too_long (Some (nowhere TooLong)) (waiting_fault s v v.waiting)

-- Then it stands past the statements, and no head waits; and where it was if it is refused, the head still waiting.
abbrev pub load_move : View → Option SheetFault → View
load_move v (Some f) = v
load_move v None = record { too_long = v.too_long; place = record { sheet = v.place.sheet; line = v.place.line + before v.ahead }; ahead = drop (before v.ahead) v.ahead; waiting = None }

-- where a reader stands once it has been asked to load
abbrev pub load_after : Spelling → View → View
load_after s v = load_move v (load_fault s v)

-- what a draft has
pub record Contents : Type 0 where
  pub items : ℕ
  pub rows : List Row

-- a draft, by its number of items and its rows
abbrev pub contents : ℕ → List Row → Contents
contents items rows = record { items = items; rows = rows }

-- the rows of a sheet's statements, none where one of them is refused
abbrev pub loaded_rows : Option SheetFault → List Row → List Row
loaded_rows (Some f) rows = []
loaded_rows None rows = rows

-- The draft has the head's size and the rows of the sheet, none where a statement is refused; where no head of its kind and tally waits,
-- it is as it was.
abbrev pub waiting_contents : Spelling → View → Option Head → Contents → Contents
waiting_contents s v None old = old
waiting_contents s v (Some h) old = cond (fits_draft s h)
    (record { items = h.size; rows = loaded_rows (body_fault s h.size v.place [] (body v.ahead)) (rows_in s (body v.ahead)) })
    old

-- what the draft has once a reader has been asked to load; where the file is too long, what it had
abbrev pub load_contents : Spelling → View → Contents → Contents
load_contents s v old = cond v.too_long old (waiting_contents s v v.waiting old)
