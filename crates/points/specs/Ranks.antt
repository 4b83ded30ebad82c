-- The rank of a mark: how many marks of a list stand strictly before it.
use Rattle.std.specs.Prelude.{◌≡◌, ℕ, T, ◌⊎◌, List, [], ◌∷◌, count_by}
use Prim.Native.Nat.{Ordering, compare}
use Rattle.points.specs.Points.{converse, is_lt, compose}

-- x stands in the list
abbrev pub Has : {A : Type 0} → A → List A → Type 0
Has x [] = ⊥
Has x (y ∷ ys) = (x ≡ y) ⊎ Has x ys

-- how many of the list stand before x
abbrev pub rank : {A : Type 0} → (A → A → Ordering) → List A → A → ℕ
rank cmp xs x = count_by (λ y. is_lt (cmp y x)) xs

-- A comparison of the marks of a list that points of a line could have: turned round it is the converse, and each triple fits.
pub record Consistent {A : Type 0} (cmp : A → A → Ordering) (xs : List A) : Type 0 where
  pub turned : (x y : A) → Has x xs → Has y xs → cmp y x ≡ converse (cmp x y)
  pub triple : (x y z : A) → Has x xs → Has y xs → Has z xs → T (compose (cmp x y) (cmp y z) (cmp x z))

-- The rank lemma: the ranks of marks compare as the marks do, for any number of marks and any consistent comparison.
abbrev pub RankLemma : Type 0 → Type 0
RankLemma A = (cmp : A → A → Ordering) (xs : List A) → Consistent cmp xs
    → (x y : A) → Has x xs → Has y xs → compare (rank cmp xs x) (rank cmp xs y) ≡ cmp x y
