-- What a closed sheet holds: its rows, its incumbent, and where its search stands.
use Rattle.std.specs.Prelude.{ℕ, ◌^◌, Bool, ◌&&◌, List, take, vec_items, vec_capacity, Vec, nat_le}
use Rattle.std.specs.declared.alloc.Global.{Global}
use Rattle.points.specs.Scenarios.{pairs}
use Rattle.tallies.specs.Joins.{Joining}
use Rattle.tallies.specs.declared.claim.Claim.{Claim}
use Rattle.rules.specs.declared.row.Row.{Row}
use Rattle.search.specs.declared.sheet.Sheet.{Sheet}
use Rattle.std.specs.Int.{is_in_range}
use Rattle.rules.specs.Properly.{proper}
use Rattle.search.specs.Sheets.{stands_at}
use Rattle.rules.specs.Steps.{Rules, Position}

-- the rows of the sheet
abbrev pub rows_of : Sheet → List Row
rows_of s = vec_items s.rows

-- the codes of the incumbent, one for each pair
abbrev pub incumbent_of : Sheet → List ℕ
incumbent_of s = take (pairs s.items) s.incumbent

-- where the search stands
abbrev pub position_of : Sheet → Position
position_of s = stands_at s.codes s.items s.incumbent s.cursor

-- the rules of the search, with the number of codes that the sheet has
abbrev pub rules_of : {C : Type 0} → Sheet → (ℕ → ℕ → ℕ → Bool) → Joining Claim C → (C → C → Bool) → Rules C
rules_of s fit j at_most = record { codes = s.codes; fit = fit; joining = j; at_most = at_most }

-- The cursor has passed the last scenario.
abbrev pub is_finished : Sheet → Bool
is_finished s = nat_le (s.codes ^ pairs s.items) (position_of s).cursor

-- What can be closed: 1 to 12 items, 1 to 64 codes, and proper rows with room for 256.
abbrev pub closes : ℕ → Vec Row Global → ℕ → Bool
closes n rows b = (is_in_range 1 12 n && is_in_range 1 64 b) && (nat_le 256 (vec_capacity rows) && proper n (vec_items rows))
