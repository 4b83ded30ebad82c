-- What the calls of a draft answer and leave, over its number of items and its list of rows.
use Rattle.std.specs.Prelude.{◌≡◌, ℕ, zero, suc, ◌+◌, ◌-◌, ◌^◌, ◌<◌, Bool, true, false, Decides, cond, not, ◌&&◌, List, [], ◌∷◌, ◌++◌, length, Some, None, Ok, Err, Result, ◌==◌, bit_or, nat_lt, slice_index_or}
use Rattle.points.specs.Sets.{has}
use Rattle.kinds.specs.Meaning.{Meaning}
use Rattle.rules.specs.declared.row.Row.{Row}
use Rattle.rules.specs.Rows.{no_row}
use Rattle.rules.specs.Soundness.{Assignment}
use Rattle.statements.specs.declared.entry.Entry.{Entry}
use Rattle.statements.specs.declared.statement.Statement.{Statement}
use Rattle.statements.specs.declared.fault.Fault.{Fault}
use Rattle.statements.specs.declared.fault.Fault.TheVariants.{Size, Item, Same, Code, Weight, Person, Full, Missing, Struck}
use Rattle.statements.specs.Faults.{Check, first_fault}
use Rattle.std.specs.Int.{is_in_range}

-- A call is accepted where every check passes, and P then holds of its answer; else it is refused by the first check that fails, and U
-- holds: nothing has changed.
abbrev pub ByChecks : {A : Type 0} → List Check → Result A Fault → (A → Type 0) → Type 0 → Type 0
ByChecks checks (Ok a) P U = (first_fault checks ≡ None) × P a
ByChecks checks (Err f) P U = (first_fault checks ≡ Some f) × U

-- Size: 1 to 12 items; the list is emptied.
abbrev pub size_checks : ℕ → List Check
size_checks n = (is_in_range 1 12 n, Size) ∷ []

-- The set of the converses of the codes below b that are in a set; a converse of 64 or more, which no lawful kind has, is left out.
abbrev pub converses : (ℕ → ℕ) → ℕ → ℕ → ℕ
converses conv zero s = 0
converses conv (suc c) s = cond (has s c && nat_lt (conv c) 64) (bit_or (converses conv c s) (2 ^ conv c)) (converses conv c s)

-- The codes of the second set are the converses of those of the kind's codes that are in the first, and no others.
abbrev pub Turned : {V : Type 0} → Meaning V → ℕ → ℕ → Type 0
Turned m set turned = (e : ℕ) → Decides (has turned e) ((c : ℕ) × (c < m.codes) × (has set c ≡ true) × (m.converse c ≡ e))

-- The checks of an entry on a draft of so many items, in their order.
abbrev pub entry_checks : ℕ → ℕ → Entry → List Check
entry_checks codes items e =
    (is_in_range 1 items e.first && is_in_range 1 items e.second, Item)
    ∷ (not (e.first == e.second), Same)
    ∷ (nat_lt e.set (2 ^ codes), Code)
    ∷ (is_in_range 1 1000 e.weight, Weight)
    ∷ (is_in_range 1 20 e.person, Person)
    ∷ []

-- Enter: those, and then that there is room.
abbrev pub enter_checks : ℕ → ℕ → List Row → Entry → List Check
enter_checks codes items rows e = entry_checks codes items e ++ ((nat_lt (length rows) 256, Full) ∷ [])

-- The row of an entry: given higher item first, the items are exchanged and the set becomes its converses.
abbrev pub row_of : (ℕ → ℕ) → ℕ → Entry → Row
row_of conv codes e = record {
  low = cond (nat_lt e.first e.second) (e.first - 1) (e.second - 1);
  high = cond (nat_lt e.first e.second) (e.second - 1) (e.first - 1);
  set = cond (nat_lt e.first e.second) e.set (converses conv codes e.set);
  weight = e.weight;
  person = e.person;
  sworn = e.sworn;
  struck = false;
}

-- A row says of lawful values what its entry says: it allows the base relation from the lower of its items to the higher exactly where
-- the entry allows that from its first item to its second.
abbrev pub Means : {V : Type 0} → Meaning V → ℕ → Entry → Row → Type 0
Means {V = V} m items e row = (x : ℕ → V) → Assignment m items x
    → has row.set (m.relation (x row.low) (x row.high)) ≡ has e.set (m.relation (x (e.first - 1)) (x (e.second - 1)))

-- the row of the statement with a number, from 1
abbrev pub numbered : List Row → ℕ → Row
numbered rows i = slice_index_or rows (i - 1) no_row

-- a statement has this number, counted from 1
abbrev pub is_there : List Row → ℕ → Bool
is_there rows i = is_in_range 1 (length rows) i

-- Strike: the statement is there and has not been struck; its mark is set, and no other row is touched.
abbrev pub strike_checks : List Row → ℕ → List Check
strike_checks rows i = (is_there rows i, Missing) ∷ (not (numbered rows i).struck, Struck) ∷ []

-- Reweigh: a live statement is given another weight.
abbrev pub reweigh_checks : List Row → ℕ → ℕ → List Check
reweigh_checks rows i w = (is_there rows i, Missing) ∷ (not (numbered rows i).struck, Struck) ∷ (is_in_range 1 1000 w, Weight) ∷ []

-- Look: the statement is there.
abbrev pub look_checks : List Row → ℕ → List Check
look_checks rows i = (is_there rows i, Missing) ∷ []

-- The statement says what the row says; its items are counted from 1.
pub record Says (s : Statement) (r : Row) : Type 0 where
  pub first : s.first ≡ r.low + 1
  pub second : s.second ≡ r.high + 1
  pub set : s.set ≡ r.set
  pub weight : s.weight ≡ r.weight
  pub person : s.person ≡ r.person
  pub sworn : s.sworn ≡ r.sworn

-- the entry that a statement stands for
abbrev pub entered_as : Statement → Entry
entered_as s = record { first = s.first; second = s.second; set = s.set; weight = s.weight; person = s.person; sworn = s.sworn }
