-- What every row of a draft has: two of its items, the lower first, a weight from 1 to 1,000 and a person from 1 to 20.
use Rattle.std.specs.Prelude.{ℕ, Bool, ◌&&◌, List, length, nat_le, nat_lt}
use Rattle.std.specs.Int.{is_in_range}
use Rattle.std.specs.List.{list_all}
use Rattle.rules.specs.declared.row.Row.{Row}

-- a row on two of n items, the lower first, with a weight from 1 to 1,000 and a person from 1 to 20
abbrev pub row_proper : ℕ → Row → Bool
row_proper n r = nat_lt r.low r.high && (nat_lt r.high n && (is_in_range 1 1000 r.weight && is_in_range 1 20 r.person))

-- all rows are such rows
abbrev pub all_proper : ℕ → List Row → Bool
all_proper n rows = list_all (row_proper n) rows

-- and there are at most 256 rows
abbrev pub proper : ℕ → List Row → Bool
proper n rows = nat_le (length rows) 256 && all_proper n rows
