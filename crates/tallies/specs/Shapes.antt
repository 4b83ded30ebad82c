-- Joins of any shape, and the laws over them: stating the laws over lists loses nothing.
use Rattle.std.specs.Prelude.{◌≡◌, ℕ, ◌+◌, ◌≤◌, Bool, true, false, List, [], ◌∷◌, ◌++◌}
use Rattle.tallies.specs.Joins.{Joining, joined, most_penalties}

-- A join of penalties, by the way in which it is made: the empty cost, one penalty, or the join of two joins.
pub data Shape (P : Type 0) : Type 0 where
  empty : Shape P
  one : P → Shape P
  both : Shape P → Shape P → Shape P

-- How many penalties a join has.
abbrev pub size : {P : Type 0} → Shape P → ℕ
size empty = 0
size (one x) = 1
size (both s t) = size s + size t

-- What has the penalties of a join, from left to right.
abbrev pub listing : {P : Type 0} → Shape P → List P
listing empty = []
listing (one x) = x ∷ []
listing (both s t) = listing s ++ listing t

-- The cost that a join comes to.
abbrev pub cost_of : {P C : Type 0} → Joining P C → Shape P → C
cost_of j empty = j.empty
cost_of j (one x) = j.penalty x
cost_of j (both s t) = j.join (cost_of j s) (cost_of j t)

-- A join of any shape comes to the join of the list of its penalties.
abbrev pub Listed : {P C : Type 0} → Joining P C → Type 0
Listed {P = P} j = (s : Shape P) → size s ≤ most_penalties → cost_of j s ≡ joined j (listing s)

-- The laws of joining, for joins of any shape.
pub record MonoidOfShapes {P C : Type 0} (j : Joining P C) : Type 0 where
  pub identity_left : (s : Shape P) → size s ≤ most_penalties → j.join j.empty (cost_of j s) ≡ cost_of j s
  pub identity_right : (s : Shape P) → size s ≤ most_penalties → j.join (cost_of j s) j.empty ≡ cost_of j s
  pub assoc : (s t u : Shape P) → size s + size t + size u ≤ most_penalties
      → j.join (j.join (cost_of j s) (cost_of j t)) (cost_of j u) ≡ j.join (cost_of j s) (j.join (cost_of j t) (cost_of j u))
  pub comm : (s t : Shape P) → size s + size t ≤ most_penalties
      → j.join (cost_of j s) (cost_of j t) ≡ j.join (cost_of j t) (cost_of j s)

-- The laws of comparing, for joins of any shape.
pub record RankingOfShapes {P C : Type 0} (j : Joining P C) (at_most : C → C → Bool) : Type 0 where
  -- A join of one penalty or more is above the empty cost.
  pub above : (s : Shape P) → 1 ≤ size s → size s ≤ most_penalties → at_most (cost_of j s) j.empty ≡ false
  pub reflexive : (s : Shape P) → size s ≤ most_penalties → at_most (cost_of j s) (cost_of j s) ≡ true
  pub total : (s t : Shape P) → size s ≤ most_penalties → size t ≤ most_penalties
      → at_most (cost_of j s) (cost_of j t) ≡ false → at_most (cost_of j t) (cost_of j s) ≡ true
  pub transitive : (s t u : Shape P) → size s ≤ most_penalties → size t ≤ most_penalties → size u ≤ most_penalties
      → at_most (cost_of j s) (cost_of j t) ≡ true → at_most (cost_of j t) (cost_of j u) ≡ true → at_most (cost_of j s) (cost_of j u) ≡ true
  pub antisymmetric : (s t : Shape P) → size s ≤ most_penalties → size t ≤ most_penalties
      → at_most (cost_of j s) (cost_of j t) ≡ true → at_most (cost_of j t) (cost_of j s) ≡ true → cost_of j s ≡ cost_of j t
  pub monotone : (s t u : Shape P) → size s + size u ≤ most_penalties → size t + size u ≤ most_penalties
      → at_most (cost_of j s) (cost_of j t) ≡ true
      → at_most (j.join (cost_of j s) (cost_of j u)) (j.join (cost_of j t) (cost_of j u)) ≡ true
