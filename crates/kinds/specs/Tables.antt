-- Composition tables: for each first base relation a row, in it a set for each second one.
use Rattle.std.specs.Prelude.{ℕ, List, [], slice_index, slice_index_or}
use Rattle.kinds.specs.declared.table.Row.{Row}

-- the set of a table for c and d, empty where one is no code
abbrev pub entry : {n : ℕ} → List (Row n) → ℕ → ℕ → ℕ
entry table c d = slice_index (slice_index_or table c (record { masks = [] })).masks d
