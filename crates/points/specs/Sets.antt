-- Sets of base relations, as bits: the base relation with the code c is in the set where bit c is 1.
use Rattle.std.specs.Prelude.{ℕ, ◌/◌, ◌%◌, ◌^◌, Bool, ◌==◌}

-- the code is in the set: its bit is 1
abbrev pub has : ℕ → ℕ → Bool
has set c = (set / 2 ^ c % 2) == 1
