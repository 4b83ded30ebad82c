-- A law that is tried only of the relations that it speaks of is tried of all.
use Rattle.std.proofs.Common.{◌≡◌, ℕ, ◌<◌, ◌≤◌, cond, nat_lt, arith}
use Rattle.kinds.specs.Meaning.{Meaning}
use Rattle.literature.specs.Laws.{LawHolds, HoldsOfAll, speaks_of}
use Rattle.literature.specs.declared.laws.AlgebraLaw.{AlgebraLaw}
use Rattle.literature.specs.declared.laws.AlgebraLaw.TheVariants.{LeftIdentity, RightIdentity, ConverseOfConverse, ConverseOfComposition, Associativity, Cycle}

-- the law holds of all first relations, and of the second and third ones below these numbers
abbrev pub HoldsBelow : {V : Type 0} → Meaning V → AlgebraLaw → ℕ → ℕ → Type 0
HoldsBelow m law second third = (r : ℕ) → r < m.codes → (s : ℕ) → s < second → (t : ℕ) → t < third → LawHolds m law r s t

module _ {V : Type 0} (m : Meaning V) (some : 1 ≤ m.codes) (second third : ℕ) where
  -- a law that was tried holds of all
  pub of_all : (law : AlgebraLaw) → second ≡ cond (nat_lt 1 (speaks_of law)) m.codes 1 → third ≡ cond (nat_lt 2 (speaks_of law)) m.codes 1 →
      HoldsBelow m law second third → HoldsOfAll m law
  of_all LeftIdentity p q h r s t x y z = h r x 0 (omega arith) 0 (omega arith)
  of_all RightIdentity p q h r s t x y z = h r x 0 (omega arith) 0 (omega arith)
  of_all ConverseOfConverse p q h r s t x y z = h r x 0 (omega arith) 0 (omega arith)
  of_all ConverseOfComposition p q h r s t x y z = h r x s (omega arith) 0 (omega arith)
  of_all Associativity p q h r s t x y z = h r x s (omega arith) t (omega arith)
  of_all Cycle p q h r s t x y z = h r x s (omega arith) t (omega arith)

  -- a law that holds of all holds of those that are tried
  pub of_tried : (law : AlgebraLaw) → second ≡ cond (nat_lt 1 (speaks_of law)) m.codes 1 → third ≡ cond (nat_lt 2 (speaks_of law)) m.codes 1 →
      HoldsOfAll m law → HoldsBelow m law second third
  of_tried LeftIdentity p q h r x s y t z = h r 0 0 x (omega arith) (omega arith)
  of_tried RightIdentity p q h r x s y t z = h r 0 0 x (omega arith) (omega arith)
  of_tried ConverseOfConverse p q h r x s y t z = h r 0 0 x (omega arith) (omega arith)
  of_tried ConverseOfComposition p q h r x s y t z = h r s 0 x (omega arith) (omega arith)
  of_tried Associativity p q h r x s y t z = h r s t x (omega arith) (omega arith)
  of_tried Cycle p q h r x s y t z = h r s t x (omega arith) (omega arith)
