-- What a whole file stands for, and which of its faults is the first, where each sheet is loaded in turn.
use Rattle.std.specs.Prelude.{◌≡◌, ℕ, zero, suc, ◌+◌, ◌-◌, true, false, cond, ◌||◌, List, [], ◌∷◌, ◌++◌, length, take, Some, None, Ok, Err, Option, Result, ◌==◌}
use Rattle.std.specs.Option.{option_map, option_or, option_to_list}
use Rattle.rules.specs.declared.row.Row.{Row}
use Rattle.files.specs.declared.fault.LineFault.TheVariants.{TooLong}
use Rattle.files.specs.declared.fault.Place.{Place}
use Rattle.files.specs.declared.head.Head.{Head}
use Rattle.files.specs.Drafts.{line_fault, row_in}
use Rattle.files.specs.Faults.{SheetFault}
use Rattle.files.specs.Loads.{body, rows_in}
use Rattle.files.specs.Heads.{is_head, is_kind, is_tally, head_in, head_of}
use Rattle.files.specs.Parts.{lines}
use Rattle.files.specs.Sheets.{before, onward, head_place, stray_fault, nowhere}
use Rattle.files.specs.Views.{View, Contents, too_long, start_of, fits_draft, head_answer, head_after, load_fault, load_after, load_contents}
use Rattle.files.specs.Words.{Spelling}

-- A sheet: its head, and the rows of its statements.
pub record Sheet : Type 0 where
  pub head : Head
  pub rows : List Row

-- a sheet with no statement yet
abbrev pub begun : Head → Sheet
begun h = record { head = h; rows = [] }

-- with a statement more
abbrev pub extended : Spelling → Sheet → List ℕ → Sheet
extended s t line = record { head = t.head; rows = t.rows ++ (row_in s line ∷ []) }

-- The first fault of some lines that come after place p, where t is the sheet whose statements they go on with, if they do. How the kind
-- and the tally of each head are written is told by `spell`.
abbrev pub lines_fault : (Head → Spelling) → Place → Option Sheet → List (List ℕ) → Option SheetFault
lines_fault spell p t [] = None
lines_fault spell p t (l ∷ ls) = cond (is_head l)
    (elim (head_in l) [
      | Ok h ↦ lines_fault spell (head_place p 0) (Some (begun h)) ls
      | Err f ↦ Some (record { place = head_place p 0; fault = f })
    ])
    (elim t [
      | None ↦ Some (record { place = onward p; fault = stray_fault l })
      | Some s ↦ elim (line_fault (spell s.head) s.head.size s.rows l) [
        | Some f ↦ Some (record { place = onward p; fault = f })
        | None ↦ lines_fault spell (onward p) (Some (extended (spell s.head) s l)) ls
      ]
    ])

-- the first fault of a file
abbrev pub file_fault : (Head → Spelling) → List ℕ → Option SheetFault
file_fault spell file = cond (too_long file) (Some (nowhere TooLong)) (lines_fault spell (record { sheet = 0; line = 0 }) None (lines file))

-- A file is well formed where it has none.
abbrev pub WellFormed : (Head → Spelling) → List ℕ → Type 0
WellFormed spell file = file_fault spell file ≡ None

-- the sheet that has begun, if one has, with a statement more
abbrev pub goes_on : (Head → Spelling) → Option Sheet → List ℕ → Option Sheet
goes_on spell t line = option_map (λ s. extended (spell s.head) s line) t

-- the sheets that some lines stand for, t being the one that they go on with
abbrev pub sheets_in : (Head → Spelling) → Option Sheet → List (List ℕ) → List Sheet
sheets_in spell t [] = option_to_list t
sheets_in spell t (l ∷ ls) = cond (is_head l) (option_to_list t ++ sheets_in spell (Some (begun (head_of l))) ls) (sheets_in spell (goes_on spell t l) ls)

-- the sheets that a well-formed file stands for
abbrev pub sheets_of : (Head → Spelling) → List ℕ → List Sheet
sheets_of spell file = sheets_in spell None (lines file)

-- A reader stands between two sheets: no head waits, and the next line is a head, or there is none, or no head has come yet.
pub record Between (v : View) : Type 0 where
  pub fits : v.too_long ≡ false
  pub idle : v.waiting ≡ None
  pub next : (before v.ahead == 0 || v.place.sheet == 0) ≡ true

-- the first fault of what is still to come, and the sheets that it stands for
abbrev pub rest_fault : (Head → Spelling) → View → Option SheetFault
rest_fault spell v = lines_fault spell v.place None v.ahead

abbrev pub rest_sheets : (Head → Spelling) → View → List Sheet
rest_sheets spell v = sheets_in spell None v.ahead

-- the first refusal of a reader that goes on from v once a load has been answered
abbrev pub after_load : (Head → Spelling) → View → Option SheetFault → Option SheetFault
after_load spell v o = option_or o (rest_fault spell v)

-- and of one that loads the head that it was answered, v being where it stands then
abbrev pub after_head : (Head → Spelling) → View → Result (Option Head) SheetFault → Option SheetFault
after_head spell v (Err f) = Some f
after_head spell v (Ok None) = None
after_head spell v (Ok (Some h)) = after_load spell (load_after (spell h) v) (load_fault (spell h) v)

-- A head h is answered to a reader at v, and its statements are loaded without a refusal.
pub record Takes (spell : Head → Spelling) (v : View) (h : Head) : Type 0 where
  pub answered : head_answer v ≡ Ok (Some h)
  pub loaded : load_fault (spell h) (head_after v) ≡ None

-- What was read of a file: the sheets that were loaded, and the refusal that ended the reading, if one did.
pub record Reading : Type 0 where
  pub sheets : List Sheet
  pub fault : Option SheetFault

-- the reading is at its end
abbrev pub ended : Option SheetFault → Reading
ended o = record { sheets = []; fault = o }

-- a sheet was loaded, unless its load was refused, and what was read after it
abbrev pub then_load : Sheet → Reading → Option SheetFault → Reading
then_load t rest (Some f) = ended (Some f)
then_load t rest None = record { sheets = t ∷ rest.sheets; fault = rest.fault }

-- a head was answered, or that there is none, or a refusal
abbrev pub then_head : (Head → Reading) → Result (Option Head) SheetFault → Reading
then_head load (Err f) = ended (Some f)
then_head load (Ok None) = ended None
then_head load (Ok (Some h)) = load h

-- the sheet that a draft has
abbrev pub drafted : Head → Contents → Sheet
drafted h c = record { head = h; rows = c.rows }

-- A whole reading from v on, of at most n heads. The reader is asked for a head, and loads its statements into a draft of its kind and
-- tally, which has `had` before; and so on, until it is refused, or there is no head.
abbrev pub read_all : (Head → Spelling) → (Head → Contents) → ℕ → View → Reading
read_all spell had zero v = ended None
read_all spell had (suc n) v =
    let w = head_after v in
    then_head (λ h. then_load (drafted h (load_contents (spell h) w (had h))) (read_all spell had n (load_after (spell h) w)) (load_fault (spell h) w)) (head_answer v)

-- the sheets before the one that a fault is in; all, where there is no fault
abbrev pub sheets_before : Option SheetFault → List Sheet → List Sheet
sheets_before (Some f) ts = take (f.place.sheet - 1) ts
sheets_before None ts = ts

-- each head is written as its own letters say, where they are those of a kind and a tally
abbrev pub Own : (Head → Spelling) → Type 0
Own spell = (h : Head) → is_kind h.letter ≡ true → is_tally h.tally ≡ true → fits_draft (spell h) h ≡ true

-- A reader at v that reads the whole file meets just the first fault of the file, if it has one, and loads just the sheets before it; of a
-- well-formed file it loads just the sheets. No more heads come than the file has bytes.
pub record ReadsWith (spell : Head → Spelling) (had : Head → Contents) (file : List ℕ) (v : View) : Type 0 where
  pub refused : (read_all spell had (length file + 1) v).fault ≡ file_fault spell file
  pub loaded : (read_all spell had (length file + 1) v).sheets ≡ sheets_before (file_fault spell file) (sheets_of spell file)
  pub whole : WellFormed spell file → read_all spell had (length file + 1) v ≡ record { sheets = sheets_of spell file; fault = None }

-- So it reads with any spelling that is its heads' own, and whatever the drafts had.
abbrev pub ReadsFile : List ℕ → View → Type 0
ReadsFile file v = (spell : Head → Spelling) (had : Head → Contents) → Own spell → ReadsWith spell had file v

-- The same, turn by turn: how a reader that is asked for a head, and then loads it into a draft of its kind and tally, goes through the
-- first fault and the sheets of what is still to come.
pub record ReadsInTurn : Type 0 where
  -- it begins between two sheets, with the whole file to come
  pub start : (file : List ℕ) → too_long file ≡ false → Between (start_of file)
  -- and stands there again after each sheet
  pub next : (spell : Head → Spelling) (v : View) (h : Head) → Between v → Takes spell v h → Between (load_after (spell h) (head_after v))
  -- The first fault of what is to come is that of the next two calls, and of what is to come after them.
  pub fault : (spell : Head → Spelling) → Own spell → (v : View) → Between v
      → rest_fault spell v ≡ after_head spell (head_after v) (head_answer v)
  -- The next sheet to come is the one that is loaded; where there is no head, there is none.
  pub sheet : (spell : Head → Spelling) (v : View) (h : Head) → Between v → Takes spell v h
      → rest_sheets spell v ≡ record { head = h; rows = rows_in (spell h) (body (head_after v).ahead) } ∷ rest_sheets spell (load_after (spell h) (head_after v))
  pub end : (spell : Head → Spelling) (v : View) → Between v → head_answer v ≡ Ok None → rest_sheets spell v ≡ []
