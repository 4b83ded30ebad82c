-- Scenarios: one base relation for each pair of items i < j, by its code, in the order (0, 1), (0, 2), (1, 2), (0, 3), ..
-- A scenario here is any choice of a base relation for each pair, consistent or not. (In the literature a scenario is consistent, and
-- any choice is an atomic network.) Items are counted from 0 here, and from 1 where they are printed.
use Rattle.std.specs.Prelude.{ℕ, zero, suc, ◌+◌, List, slice_index}

-- how many pairs n items have
abbrev pub pairs : ℕ → ℕ
pairs zero = 0
pairs (suc n) = pairs n + n

-- where the pair of i and j stands, i < j
abbrev pub place : ℕ → ℕ → ℕ
place i j = pairs j + i

-- the code of the pair of i and j, i < j; a place past the end has code 0
abbrev pub entry : List ℕ → ℕ → ℕ → ℕ
entry scenario i j = slice_index scenario (place i j)
