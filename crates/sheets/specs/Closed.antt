-- What the calls of a closed sheet keep and answer.
use Rattle.std.specs.Prelude.{◌≡◌, ℕ, ◌+◌, ◌≤◌, true, false, List, slice_index_or}
use Rattle.kinds.specs.Meaning.{Meaning}
use Rattle.kinds.specs.Pages.{Written}
use Rattle.rules.specs.declared.row.Row.{Row}
use Rattle.rules.specs.Costs.{sheet_bound}
use Rattle.rules.specs.Steps.{Rules, Position, best_cost, advance, taken, finished}
use Rattle.rules.specs.Soundness.{Assignment, cost_by, Sound, Settled}
use Rattle.search.specs.declared.sheet.Sheet.{Sheet}
use Rattle.search.specs.Closed.{rows_of, position_of}
use Rattle.sheets.specs.declared.closed.Shown.{Shown}

-- The items and rows of a sheet are these, and it has so many codes.
pub record HasParts (s : Sheet) (n : ℕ) (rows : List Row) (b : ℕ) : Type 0 where
  pub same_items : s.items ≡ n
  pub same_rows : rows_of s ≡ rows
  pub same_codes : s.codes ≡ b

-- A sheet has the codes of its kind, and its search is sound.
pub record SoundSheet {V C : Type 0} (m : Meaning V) (r : Rules C) (s : Sheet) : Type 0 where
  pub coded : s.codes ≡ m.codes
  pub sound : Sound m r s.items (rows_of s) (position_of s)

-- A search of up to k steps has taken t and left the sheet as s'; the rules are those of its kind and tally, with the codes of the sheet.
pub record Searched {C : Type 0} (r : Rules C) (s s' : Sheet) (k t : ℕ) : Type 0 where
  pub parts : HasParts s' s.items (rows_of s) s.codes
  pub count : t ≡ taken r s.items (rows_of s) k (position_of s)
  pub moved : position_of s' ≡ advance r s.items (rows_of s) k (position_of s)

-- What a sound search keeps: it is sound, each step has moved the cursor on, and fewer than k are taken only if it has finished.
pub record Keeps {V C : Type 0} (m : Meaning V) (r : Rules C) (s s' : Sheet) (k t : ℕ) : Type 0 where
  pub sound : SoundSheet m r s'
  pub on : (position_of s).cursor + t ≤ (position_of s').cursor
  pub most : t ≤ k
  pub all : finished r s.items (position_of s') ≡ false → t ≡ k

-- What a show tells beside the values, of n items and their rows where the search stands at s: the cost of the incumbent, the lower
-- bound of the sheet, and whether the search has finished.
pub record CostsShown {C : Type 0} (r : Rules C) (n : ℕ) (rows : List Row) (s : Position) (a : Shown C) : Type 0 where
  pub cost_is : a.cost ≡ best_cost r rows s
  pub floor_is : a.floor ≡ sheet_bound r.joining r.at_most r.codes n rows
  pub finished_is : a.finished ≡ finished r n s

-- A show of a sheet: the values of the incumbent at the front of the page, whose rest stays; and what it tells beside them.
pub record Shows {V C : Type 0} (values : ℕ → List ℕ → ℕ → V) (r : Rules C) (s : Sheet) (old new : List V) (a : Shown C) : Type 0 where
  pub written : Written s.items (values s.items (position_of s).incumbent) old new
  pub costs : CostsShown r s.items (rows_of s) (position_of s) a

-- What a show of a sound sheet promises of the values on the page, and of the lower bound that it answers: it is at most the cost of any
-- assignment.
pub record Settles {V C : Type 0} (m : Meaning V) (r : Rules C) (s : Sheet) (page : List V) (a : Shown C) : Type 0 where
  pub settled : (other : V) → Settled m r s.items (rows_of s) (position_of s) (λ i. slice_index_or page i other) a.cost a.finished
  pub below : (y : ℕ → V) → Assignment m s.items y → r.at_most a.floor (cost_by m r.joining (rows_of s) y) ≡ true
