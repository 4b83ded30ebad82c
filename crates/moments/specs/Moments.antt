-- Moments: the point algebra. Codes 0 =, 1 <, 2 >.
use Rattle.std.specs.Prelude.{ℕ, ◌<◌, List, [], ◌∷◌, codes, slice_index_or}
use Prim.Native.Nat.{Ordering, compare}
use Rattle.points.specs.Points.{Says}
use Rattle.moments.specs.declared.Moment.{Moment}
use Rattle.kinds.specs.Meaning.{Meaning}
use Rattle.kinds.specs.Layouts.{Layout, rank_on}

-- the base relation with this code
abbrev pub coded : ℕ → Ordering
coded c = slice_index_or (Ordering.eq ∷ Ordering.lt ∷ Ordering.gt ∷ []) c Ordering.eq

-- the code of the base relation, by how the numbers compare
abbrev pub code : Ordering → ℕ
code Ordering.eq = 0
code Ordering.lt = 1
code Ordering.gt = 2

-- The kind of moments: three base relations, which compare the numbers of two moments. Every moment is lawful.
abbrev pub moments : Meaning Moment
moments = record {
  codes = 3;
  lawful = λ u. Unit {0};
  holds = λ c u v. (c < 3) × Says (coded c) u.at v.at;
  relation = λ u v. code (compare u.at v.at);
  converse = λ c. slice_index_or (0 ∷ 2 ∷ 1 ∷ []) c c;
}

-- a moment is one mark on one line
abbrev pub line : Layout
line = record { codes = 3; axes = 1; marks = 1; side = λ a c s t. coded c }

-- a moment is written as how many items lie strictly before it
abbrev pub moment : ℕ → List ℕ → ℕ → Moment
moment n scenario i = record { at = rank_on line n scenario i 0 0 }

-- = < >
abbrev pub moment_words : List (List ℕ)
moment_words = codes "=" ∷ codes "<" ∷ codes ">" ∷ []
