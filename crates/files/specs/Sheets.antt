-- Where heads stand among the lines of a file, and what is answered to whoever asks for the next.
use Rattle.std.specs.Prelude.{◌≡◌, ℕ, ◌+◌, ◌-◌, false, cond, ◌&&◌, List, [], ◌∷◌, length, drop, Some, None, Ok, Err, Option, Result, ◌==◌, nat_le, slice_index_or}
use Rattle.std.specs.Borrow.{Bor}
use Rattle.std.specs.List.{position_or_len}
use Rattle.files.specs.declared.fault.LineFault.{LineFault}
use Rattle.files.specs.declared.fault.LineFault.TheVariants.{TooLong, NoHead}
use Rattle.files.specs.declared.fault.Place.{Place}
use Rattle.files.specs.declared.head.Head.{Head}
use Rattle.files.specs.declared.class.Class.{Class}
use Rattle.files.specs.declared.class.Class.TheVariants.{HeadLine, StatementLine}
use Rattle.files.specs.declared.class.State.{State}
use Rattle.files.specs.declared.class.State.TheVariants.{NoSheet, InSheet}
use Rattle.files.specs.Faults.{SheetFault}
use Rattle.files.specs.Heads.{is_head, line_fits, head_in}

-- a line's class
abbrev pub class_of : List ℕ → Class
class_of line = cond (is_head line) HeadLine StatementLine

-- A place is that of the last line read: its sheet, which is 0 before the first head, and its line, counted through the file from 1.
-- No sheet has begun, or one has.
abbrev pub state_of : Place → State
state_of p = cond (p.sheet == 0) NoSheet InSheet

-- how many lines stand before the next head
abbrev pub before : List (List ℕ) → ℕ
before ls = position_or_len is_head ls

-- the place of the next line
abbrev pub onward : Place → Place
onward p = record { sheet = p.sheet; line = p.line + 1 }

-- the place of a head that has k lines before it: it is the first line of the next sheet
abbrev pub head_place : Place → ℕ → Place
head_place p k = record { sheet = p.sheet + 1; line = p.line + k + 1 }

-- a head, or its fault at this place
abbrev pub located : Place → Result Head LineFault → Result (Option Head) SheetFault
located p (Ok h) = Ok (Some h)
located p (Err f) = Err (record { place = p; fault = f })

-- the fault of a statement's line before the first head
abbrev pub stray_fault : List ℕ → LineFault
stray_fault line = cond (line_fits line) NoHead TooLong

-- The answer after place p, with the lines ls still to come. Before the first head no statement may come. Later, those that stand before
-- the next head are passed over. The head may be unfit, or there may be none.
abbrev pub next_head : Place → List (List ℕ) → Result (Option Head) SheetFault
next_head p ls =
    cond (p.sheet == 0 && nat_le 1 (before ls)) (Err (record { place = record { sheet = 0; line = p.line + 1 }; fault = stray_fault (slice_index_or ls 0 []) }))
    (cond (nat_le (length ls) (before ls)) (Ok None) (located (head_place p (before ls)) (head_in (slice_index_or ls (before ls) []))))

-- a fault that is at no line
abbrev pub nowhere : LineFault → SheetFault
nowhere f = record { place = record { sheet = 0; line = 0 }; fault = f }

-- where a cursor stands after an answer: past the head, at the end, or past the line that the fault is at
abbrev pub Moved : Place → List (List ℕ) → Result (Option Head) SheetFault → Place → List (List ℕ) → Type 0
Moved p ls (Ok (Some h)) q ms = (q ≡ head_place p (before ls)) × (ms ≡ drop (before ls + 1) ls)
Moved p ls (Ok None) q ms = (q.sheet ≡ p.sheet) × (q.line ≡ p.line + length ls) × (ms ≡ [])
Moved p ls (Err f) q ms = (q ≡ f.place) × (ms ≡ drop (q.line - p.line) ls)

-- the next line is given, and read, if it is a statement's
abbrev pub GivesStatement : Place → List (List ℕ) → Option (Bor (List ℕ)) → Place → List (List ℕ) → Type 0
GivesStatement p ls (Some l) q ms = (is_head l.now ≡ false) × (ls ≡ l.now ∷ ms) × (q ≡ onward p)
GivesStatement p ls None q ms = (before ls ≡ 0) × (q ≡ p) × (ms ≡ ls)
