-- A page: a list of values whose front is written over.
use Rattle.std.specs.Prelude.{◌≡◌, ℕ, ◌<◌, ◌≤◌, List, length, slice_index_or}

-- The first n places of the page, or all if it has fewer, hold the values of their items; the rest is as it was.
pub record Written {V : Type 0} (n : ℕ) (value : ℕ → V) (old new : List V) : Type 0 where
  pub long : length new ≡ length old
  pub front : (i : ℕ) (other : V) → i < n → i < length old → slice_index_or new i other ≡ value i
  pub rest : (i : ℕ) (other : V) → n ≤ i → slice_index_or new i other ≡ slice_index_or old i other
