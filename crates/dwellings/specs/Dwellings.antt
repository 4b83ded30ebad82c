-- Dwellings: the cardinal directions, from the second dwelling to the first. Codes 0 eq, 1 n, 2 ne, 3 e, 4 se, 5 s, 6 sw, 7 w, 8 nw.
use Rattle.std.specs.Prelude.{◌≡◌, ℕ, zero, suc, ◌<◌, List, [], ◌∷◌, codes, slice_index_or}
use Prim.Native.Nat.{Ordering, compare}
use Rattle.dwellings.specs.declared.Dwelling.{Dwelling}
use Rattle.kinds.specs.Meaning.{Meaning}
use Rattle.kinds.specs.Layouts.{Layout, rank_on}

pub data Direction : Type 0 where
  same north north_east east south_east south south_west west north_west : Direction

-- where the first dwelling lies, seen from the second
abbrev pub Holds : Direction → Dwelling → Dwelling → Type 0
Holds same u v = (u.east ≡ v.east) × (u.north ≡ v.north)
Holds north u v = (u.east ≡ v.east) × (v.north < u.north)
Holds north_east u v = (v.east < u.east) × (v.north < u.north)
Holds east u v = (v.east < u.east) × (u.north ≡ v.north)
Holds south_east u v = (v.east < u.east) × (u.north < v.north)
Holds south u v = (u.east ≡ v.east) × (u.north < v.north)
Holds south_west u v = (u.east < v.east) × (u.north < v.north)
Holds west u v = (u.east < v.east) × (u.north ≡ v.north)
Holds north_west u v = (u.east < v.east) × (v.north < u.north)

-- the directions, in the order of their codes
abbrev pub directions : List Direction
directions = same ∷ north ∷ north_east ∷ east ∷ south_east ∷ south ∷ south_west ∷ west ∷ north_west ∷ []

-- the direction with this code
abbrev pub coded : ℕ → Direction
coded c = slice_index_or directions c same

-- the code, by how the east numbers compare and how the north numbers compare
abbrev pub code : Ordering → Ordering → ℕ
code Ordering.eq Ordering.eq = 0
code Ordering.eq Ordering.gt = 1
code Ordering.gt Ordering.gt = 2
code Ordering.gt Ordering.eq = 3
code Ordering.gt Ordering.lt = 4
code Ordering.eq Ordering.lt = 5
code Ordering.lt Ordering.lt = 6
code Ordering.lt Ordering.eq = 7
code Ordering.lt Ordering.gt = 8

-- The kind of dwellings: nine base relations, which compare both numbers of two dwellings. Every dwelling is lawful.
abbrev pub dwellings : Meaning Dwelling
dwellings = record {
  codes = 9;
  lawful = λ u. Unit {0};
  holds = λ c u v. (c < 9) × Holds (coded c) u v;
  relation = λ u v. code (compare u.east v.east) (compare u.north v.north);
  converse = λ c. slice_index_or (0 ∷ 5 ∷ 6 ∷ 7 ∷ 8 ∷ 1 ∷ 2 ∷ 3 ∷ 4 ∷ []) c c;
}

-- how the first stands to the second along the axis to the east, and along the axis to the north
abbrev pub eastward : Direction → Ordering
eastward same = Ordering.eq
eastward north = Ordering.eq
eastward north_east = Ordering.gt
eastward east = Ordering.gt
eastward south_east = Ordering.gt
eastward south = Ordering.eq
eastward south_west = Ordering.lt
eastward west = Ordering.lt
eastward north_west = Ordering.lt

abbrev pub northward : Direction → Ordering
northward same = Ordering.eq
northward north = Ordering.gt
northward north_east = Ordering.gt
northward east = Ordering.eq
northward south_east = Ordering.lt
northward south = Ordering.lt
northward south_west = Ordering.lt
northward west = Ordering.eq
northward north_west = Ordering.gt

-- how two dwellings stand along an axis, 0 the east, under a direction
abbrev pub along : ℕ → Direction → Ordering
along zero d = eastward d
along (suc a) d = northward d

-- a dwelling is one mark on each of two axes: 0 to the east, 1 to the north
abbrev pub compass : Layout
compass = record { codes = 9; axes = 2; marks = 1; side = λ a c s t. along a (coded c) }

-- its east number counts the items strictly west of it, its north number those strictly south
abbrev pub dwelling : ℕ → List ℕ → ℕ → Dwelling
dwelling n scenario i = record { east = rank_on compass n scenario i 0 0; north = rank_on compass n scenario i 1 0 }

-- eq n ne e se s sw w nw
abbrev pub dwelling_words : List (List ℕ)
dwelling_words = codes "eq" ∷ codes "n" ∷ codes "ne" ∷ codes "e" ∷ codes "se" ∷ codes "s" ∷ codes "sw" ∷ codes "w" ∷ codes "nw" ∷ []
