-- Composition: the base relations that can hold from u to w, given those from u to v and from v to w. It is the weak composition over
-- natural numbers: e is in it if some values have the three relations.
use Rattle.std.specs.Prelude.{ℕ, Decides}
use Rattle.points.specs.Sets.{has}
use Rattle.kinds.specs.Meaning.{Meaning, Fits}

-- The set, as bits, has exactly the codes e with which the triple (c, d, e) fits.
abbrev pub Composition : {V : Type 0} → Meaning V → ℕ → ℕ → ℕ → Type 0
Composition m c d set = (e : ℕ) → Decides (has set e) (Fits m c d e)
