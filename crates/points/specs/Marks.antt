-- Marks on an axis. Each item has the same number of marks there, 0, 1, .., in ascending order: a moment has one on its line,
-- a spell has its start and its end, a dwelling has one on each of two axes. A mark is an item and a number: (i, s).
use Rattle.std.specs.Prelude.{◌≡◌, ℕ, zero, suc, ◌<◌, cond, List, [], ◌∷◌, length, slice_index_or}
use Prim.Native.Nat.{Ordering, compare}
use Rattle.points.specs.Points.{converse}
use Rattle.points.specs.Sets.{has}
use Rattle.points.specs.Scenarios.{entry}
use Rattle.points.specs.Ranks.{rank}
use Rattle.points.specs.declared.axis.Order.{Order}

-- the m marks of item k, ahead of others
abbrev pub of_item : ℕ → ℕ → List (ℕ × ℕ) → List (ℕ × ℕ)
of_item k zero others = others
of_item k (suc m) others = (k, m) ∷ of_item k m others

-- the marks of n items that have m each
abbrev pub marks : ℕ → ℕ → List (ℕ × ℕ)
marks m zero = []
marks m (suc n) = of_item n m (marks m n)

-- one of three, by how two marks stand
abbrev pub choose : {A : Type 0} → Ordering → A → A → A → A
choose Ordering.lt a b c = a
choose Ordering.eq a b c = b
choose Ordering.gt a b c = c

-- How two marks stand, where `at i j s t` says it of mark s of item i and mark t of item j, i < j.
abbrev pub stands : (ℕ → ℕ → ℕ → ℕ → Ordering) → ℕ × ℕ → ℕ × ℕ → Ordering
stands at x y = choose (compare x.0 y.0)
    (at x.0 y.0 x.1 y.1)
    (compare x.1 y.1)
    (converse (at y.0 x.0 y.1 x.1))

-- The same in a scenario, where `sides c s t` says how mark s of the first item stands to mark t of the second under the code c.
abbrev pub in_scenario : (ℕ → ℕ → ℕ → Ordering) → List ℕ → ℕ → ℕ → ℕ → ℕ → Ordering
in_scenario sides scenario i j s t = sides (entry scenario i j) s t

-- How many of all marks of n items stand strictly before mark s of item i.
abbrev pub mark_rank : (ℕ → ℕ → ℕ → Ordering) → ℕ → ℕ → List ℕ → ℕ → ℕ → ℕ
mark_rank sides m n scenario i s = rank (stands (in_scenario sides scenario)) (marks m n) (i, s)

-- the order of two marks in a table of rows, or that of two empty sets
abbrev pub order_of : List (List Order) → ℕ → ℕ → Order
order_of table s t = slice_index_or (slice_index_or table s []) t (record { before = 0; after = 0 })

-- What an axis says of two marks: before under the codes of one set, after under the others of the other set, equal under the rest.
abbrev pub drawn : List (List Order) → ℕ → ℕ → ℕ → Ordering
drawn orders c s t =
    let order = order_of orders s t in
    cond (has order.before c) Ordering.lt (cond (has order.after c) Ordering.gt Ordering.eq)

-- The axis has m marks an item, which stand as `sides` says.
pub record Draws (orders : List (List Order)) (m : ℕ) (sides : ℕ → ℕ → ℕ → Ordering) : Type 0 where
  pub many : length orders ≡ m
  pub stand : (c s t : ℕ) → s < m → t < m → drawn orders c s t ≡ sides c s t
