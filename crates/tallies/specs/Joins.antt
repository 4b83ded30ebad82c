-- Penalties that join to costs, costs that are compared, and the laws of both.
-- A joining is data only; its laws, and the laws of comparing, are records apart, so that what joins need not be compared.
use Rattle.std.specs.Prelude.{◌≡◌, ℕ, ◌+◌, ◌≤◌, Bool, true, false, List, [], ◌∷◌, length}

-- The most penalties in a join. A sheet has at most 256 statements, so the laws are owed for no longer joins.
abbrev pub most_penalties : ℕ
most_penalties = 256

-- The data of a joining: the empty cost, the penalty for what is broken, and the join of two costs.
pub record Joining (P C : Type 0) : Type 0 where
  pub empty : C
  pub penalty : P → C
  pub join : C → C → C

-- The join of the penalties of a list.
abbrev pub joined : {P C : Type 0} → Joining P C → List P → C
joined j [] = j.empty
joined j (x ∷ xs) = j.join (j.penalty x) (joined j xs)

-- The same joining over R, where each r in R has the penalty of f r.
abbrev pub along : {R P C : Type 0} → (R → P) → Joining P C → Joining R C
along f j = record { empty = j.empty; penalty = λ r. j.penalty (f r); join = j.join }

-- The laws of joining: a commutative monoid, for joins of up to most_penalties penalties.
pub record Monoid {P C : Type 0} (j : Joining P C) : Type 0 where
  -- The empty cost joined with a cost is that cost.
  pub identity : (xs : List P) → length xs ≤ most_penalties → j.join j.empty (joined j xs) ≡ joined j xs
  -- A penalty joined with the empty cost is that penalty.
  pub single : (x : P) → j.join (j.penalty x) j.empty ≡ j.penalty x
  -- Joining is associative.
  pub assoc : (xs ys zs : List P) → length xs + length ys + length zs ≤ most_penalties
      → j.join (j.join (joined j xs) (joined j ys)) (joined j zs) ≡ j.join (joined j xs) (j.join (joined j ys) (joined j zs))
  -- Joining is commutative.
  pub comm : (xs ys : List P) → length xs + length ys ≤ most_penalties
      → j.join (joined j xs) (joined j ys) ≡ j.join (joined j ys) (joined j xs)

-- The laws of comparing: a total order without ties that joining keeps, for costs of up to most_penalties penalties on each side.
pub record Ranking {P C : Type 0} (j : Joining P C) (at_most : C → C → Bool) : Type 0 where
  -- Each penalty is above the empty cost.
  pub above : (x : P) → at_most (j.penalty x) j.empty ≡ false
  -- Of two costs one is at most the other.
  pub total : (xs ys : List P) → length xs ≤ most_penalties → length ys ≤ most_penalties
      → at_most (joined j xs) (joined j ys) ≡ false → at_most (joined j ys) (joined j xs) ≡ true
  -- The order is transitive.
  pub transitive : (xs ys zs : List P) → length xs ≤ most_penalties → length ys ≤ most_penalties → length zs ≤ most_penalties
      → at_most (joined j xs) (joined j ys) ≡ true → at_most (joined j ys) (joined j zs) ≡ true → at_most (joined j xs) (joined j zs) ≡ true
  -- Two costs that are at most each other are one cost: different costs never tie.
  pub antisymmetric : (xs ys : List P) → length xs ≤ most_penalties → length ys ≤ most_penalties
      → at_most (joined j xs) (joined j ys) ≡ true → at_most (joined j ys) (joined j xs) ≡ true → joined j xs ≡ joined j ys
  -- Joining the same cost to two costs keeps which is at most the other; different costs may become one.
  pub monotone : (xs ys zs : List P) → length xs + length zs ≤ most_penalties → length ys + length zs ≤ most_penalties
      → at_most (joined j xs) (joined j ys) ≡ true
      → at_most (j.join (joined j xs) (joined j zs)) (j.join (joined j ys) (joined j zs)) ≡ true
