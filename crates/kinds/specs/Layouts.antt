-- Kinds that are marks on axes: a moment is one mark on one axis, a spell two marks on one axis, a dwelling one mark on each of two.
use Rattle.std.specs.Prelude.{ℕ, Bool, ◌&&◌, List, nat_lt}
use Prim.Native.Nat.{Ordering}
use Rattle.points.specs.Points.{compose}
use Rattle.points.specs.Tests.{upto}
use Rattle.points.specs.Marks.{mark_rank}

-- How a kind is laid out: how many base relations, axes and marks there are, and how marks stand under each code.
pub record Layout : Type 0 where
  pub codes : ℕ
  pub axes : ℕ
  -- how many marks an item has on each axis
  pub marks : ℕ
  -- by axis and code: how mark s of the first item stands to mark t of the second
  pub side : ℕ → ℕ → ℕ → ℕ → Ordering

-- Along each axis, one mark of the first item, one of the second and one of the third always fit.
abbrev pub marks_fit : Layout → ℕ → ℕ → ℕ → Bool
marks_fit l c d e = upto l.axes (λ a. upto l.marks (λ s. upto l.marks (λ t. upto l.marks (λ r.
    compose (l.side a c s t) (l.side a d t r) (l.side a e s r)))))

-- The test of a triple: three codes whose marks fit.
abbrev pub fit : Layout → ℕ → ℕ → ℕ → Bool
fit l c d e = nat_lt c l.codes && (nat_lt d l.codes && (nat_lt e l.codes && marks_fit l c d e))

-- How many marks of n items on the axis a lie strictly before mark s of item i.
abbrev pub rank_on : Layout → ℕ → List ℕ → ℕ → ℕ → ℕ → ℕ
rank_on l n scenario i a s = mark_rank (l.side a) l.marks n scenario i s
