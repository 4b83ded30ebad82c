-- The point algebra: how one point of a line stands to another. `Ordering` has its three base relations, lt, eq and gt.
use Rattle.std.specs.Prelude.{◌≡◌, ℕ, ◌<◌, Bool, true, false}
use Prim.Native.Nat.{Ordering}
use Rattle.std.specs.declared.cmp.Ordering.{Ordering as Answer}
use Rattle.std.specs.declared.cmp.Ordering.TheVariants.{Less, Equal, Greater}

-- what a base relation says of two numbers
abbrev pub Says : Ordering → ℕ → ℕ → Type 0
Says Ordering.lt x y = x < y
Says Ordering.eq x y = x ≡ y
Says Ordering.gt x y = y < x

-- the relation from the second point to the first
abbrev pub converse : Ordering → Ordering
converse Ordering.lt = Ordering.gt
converse Ordering.eq = Ordering.eq
converse Ordering.gt = Ordering.lt

-- a base relation, as the Rust type `Ordering` has it
abbrev pub told : Ordering → Answer
told Ordering.lt = Less
told Ordering.eq = Equal
told Ordering.gt = Greater

-- before
abbrev pub is_lt : Ordering → Bool
is_lt Ordering.lt = true
is_lt Ordering.eq = false
is_lt Ordering.gt = false

-- the two are the same
abbrev pub same : Ordering → Ordering → Bool
same Ordering.lt Ordering.lt = true
same Ordering.lt Ordering.eq = false
same Ordering.lt Ordering.gt = false
same Ordering.eq Ordering.lt = false
same Ordering.eq Ordering.eq = true
same Ordering.eq Ordering.gt = false
same Ordering.gt Ordering.lt = false
same Ordering.gt Ordering.eq = false
same Ordering.gt Ordering.gt = true

-- The composition table: three points can have a from the first to the second, b from the second to the third, c from the first to the third.
abbrev pub compose : Ordering → Ordering → Ordering → Bool
compose Ordering.lt Ordering.lt c = same Ordering.lt c
compose Ordering.lt Ordering.eq c = same Ordering.lt c
compose Ordering.lt Ordering.gt c = true
compose Ordering.eq b c = same b c
compose Ordering.gt Ordering.lt c = true
compose Ordering.gt Ordering.eq c = same Ordering.gt c
compose Ordering.gt Ordering.gt c = same Ordering.gt c
