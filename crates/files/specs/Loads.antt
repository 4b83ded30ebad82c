-- The sheet that the lines after a head stand for.
use Rattle.std.specs.Prelude.{◌≡◌, ℕ, ◌+◌, ◌-◌, List, [], ◌∷◌, ◌++◌, map, take, drop, Some, None, Ok, Err, Option, Result}
use Rattle.std.specs.List.{before_first}
use Rattle.rules.specs.declared.row.Row.{Row}
use Rattle.files.specs.declared.fault.Place.{Place}
use Rattle.files.specs.Drafts.{line_fault, row_in}
use Rattle.files.specs.Faults.{SheetFault}
use Rattle.files.specs.Heads.{is_head}
use Rattle.files.specs.Sheets.{before, onward}
use Rattle.files.specs.Words.{Spelling}

-- the statements of a sheet: the lines up to the next head, however unfit that is
abbrev pub body : List (List ℕ) → List (List ℕ)
body ls = before_first is_head ls

-- the rows that they stand for
abbrev pub rows_in : Spelling → List (List ℕ) → List Row
rows_in s ls = map (row_in s) ls

-- the first fault of the statements ls after place p, for a draft with so many items and the rows of the statements before them
abbrev pub body_fault : Spelling → ℕ → Place → List Row → List (List ℕ) → Option SheetFault
body_fault s items p rows [] = None
body_fault s items p rows (l ∷ ls) =
    elim (line_fault s items rows l) [ Some f ↦ Some (record { place = onward p; fault = f }) | None ↦ body_fault s items (onward p) (rows ++ (row_in s l ∷ [])) ls ]

-- After a load that is not refused the rows stand behind those that were there, and the cursor past the statements. After one that is
-- refused the cursor stands past the line that the fault is at, and the rows of the statements before that line are entered.
abbrev pub Loaded : Result (Unit {0}) SheetFault → List Row → Place → List (List ℕ) → List Row → Place → List (List ℕ) → List Row → Type 0
Loaded (Ok _) new p ls rows q ms rows' = (rows' ≡ rows ++ new) × (q.sheet ≡ p.sheet) × (q.line ≡ p.line + before ls) × (ms ≡ drop (before ls) ls)
Loaded (Err f) new p ls rows q ms rows' = (q ≡ f.place) × (ms ≡ drop (q.line - p.line) ls) × (rows' ≡ rows ++ take (q.line - p.line - 1) new)
