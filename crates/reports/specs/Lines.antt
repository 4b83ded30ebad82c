-- The lines that are printed of a settled sheet, as bytes.
use Rattle.std.specs.Prelude.{◌≡◌, ℕ, ◌+◌, ◌<◌, ◌≤◌, Bool, cond, List, [], ◌∷◌, ◌++◌, length, drop, Ok, Err, Result, codes}
use Rattle.std.specs.Fmt.{decimal}
use Rattle.statements.specs.declared.fault.Fault.{Fault}
use Rattle.statements.specs.declared.fault.Fault.TheVariants.{Short, Memory}

-- How values and costs are printed, and the letters of the kind and the tally.
pub record Print (V C : Type 0) : Type 0 where
  pub kind : ℕ
  pub tally : ℕ
  pub value : V → List ℕ
  pub cost : C → List ℕ

-- the two letters, and the texts of values and costs
abbrev pub print : {V C : Type 0} → ℕ → ℕ → (V → List ℕ) → (C → List ℕ) → Print V C
print kind tally value cost = record { kind = kind; tally = tally; value = value; cost = cost }

-- ` cost 2 floor 0 final`, or `open` if the search has not finished
abbrev pub costs_part : {C : Type 0} → (C → List ℕ) → C → C → Bool → List ℕ
costs_part text cost floor finished =
    codes " cost " ++ text cost ++ codes " floor " ++ text floor ++ cond finished (codes " final\n") (codes " open\n")

-- `sheet 1 M 3 w` and the costs
abbrev pub sheet_line : {V C : Type 0} → Print V C → ℕ → ℕ → C → C → Bool → List ℕ
sheet_line p number items cost floor finished =
    codes "sheet " ++ decimal number ++ (32 ∷ p.kind ∷ 32 ∷ []) ++ decimal items ++ (32 ∷ p.tally ∷ []) ++ costs_part p.cost cost floor finished

-- `item 1 4 7`: an item, counted from 1, and the numbers of its value
abbrev pub item_line : {V C : Type 0} → Print V C → ℕ → V → List ℕ
item_line p i value = codes "item " ++ decimal i ++ (32 ∷ []) ++ p.value value ++ (10 ∷ [])

-- `person 3 charge 12`, or no line for a person who is charged nothing: at most the empty cost
abbrev pub person_line : {V C : Type 0} → Print V C → (C → Bool) → ℕ → C → List ℕ
person_line p nothing person charge =
    cond (nothing charge) [] (codes "person " ++ decimal person ++ codes " charge " ++ p.cost charge ++ (10 ∷ []))

-- the lines of the members of a list, of which the first is counted as i
abbrev pub lines_from : {X : Type 0} → (ℕ → X → List ℕ) → ℕ → List X → List ℕ
lines_from line i [] = []
lines_from line i (x ∷ xs) = line i x ++ lines_from line (i + 1) xs

-- The whole report: the sheet's line, a line for each item, and one for each person who is charged more than nothing.
abbrev pub report_of : {V C : Type 0} → Print V C → (C → Bool) → ℕ → List V → C → C → Bool → List C → List ℕ
report_of p nothing number values cost floor finished charges =
    sheet_line p number (length values) cost floor finished ++ lines_from (item_line p) 1 values ++ lines_from (person_line p nothing) 1 charges

-- A text is put at the front of a buffer and its length answered, or the buffer is too short and stays as it was.
abbrev pub Puts : List ℕ → List ℕ → List ℕ → Result ℕ Fault → Type 0
Puts text old new (Ok n) = (n ≡ length text) × (length text ≤ length old) × (new ≡ text ++ drop (length text) old)
Puts text old new (Err f) = (f ≡ Short) × (length old < length text) × (new ≡ old)

-- The same, or there is no memory to make the text, and the buffer stays as it was.
abbrev pub PutsOrWants : List ℕ → List ℕ → List ℕ → Result ℕ Fault → Type 0
PutsOrWants text old new (Ok n) = Puts text old new (Ok n)
PutsOrWants text old new (Err Memory) = new ≡ old
PutsOrWants text old new (Err f) = Puts text old new (Err f)
