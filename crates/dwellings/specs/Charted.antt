-- Dwellings are one mark on each of two axes.
use Rattle.std.specs.Prelude.{◌≡◌, ℕ, zero, suc, ◌<◌, ◌≤◌, Bool, ◌&&◌, T, nat_lt, refl}
use Rattle.std.proofs.Common.{ap, ap₂, arith, not-suc-le-zero, le_of_suc-le-suc}
use Prim.Native.Nat.{Ordering, compare}
use Rattle.std.proofs.lemmas.Bool.{ltb-true}
use Rattle.std.proofs.lemmas.List.{get_or_past}
use Rattle.points.specs.Points.{Says, same as alike}
use Rattle.points.proofs.Finite.{both_left, both_right, true_from, every, every_at}
use Rattle.points.proofs.Compare.{said, says, same_eq, compare_self}
use Rattle.dwellings.specs.declared.Dwelling.{Dwelling}
use Rattle.kinds.specs.Meaning.{Partition, Realisation}
use Rattle.dwellings.specs.Dwellings.{Direction, directions, same, north, north_east, east, south_east, south, south_west, west, north_west, Holds, coded, code, dwellings, eastward, northward, along, compass, dwelling}
use Rattle.kinds.proofs.Framed.{Frame, partition, realises}

-- a direction by its two comparisons
abbrev Axes : Direction → Dwelling → Dwelling → Type 0
Axes d u v = Says (eastward d) u.east v.east × Says (northward d) u.north v.north

axes_of : (d : Direction) (u v : Dwelling) → Holds d u v → Axes d u v
axes_of same u v h = h
axes_of north u v h = h
axes_of north_east u v h = h
axes_of east u v h = h
axes_of south_east u v h = h
axes_of south u v h = h
axes_of south_west u v h = h
axes_of west u v h = h
axes_of north_west u v h = h

of_axes : (d : Direction) (u v : Dwelling) → Axes d u v → Holds d u v
of_axes same u v h = h
of_axes north u v h = h
of_axes north_east u v h = h
of_axes east u v h = h
of_axes south_east u v h = h
of_axes south u v h = h
of_axes south_west u v h = h
of_axes west u v h = h
of_axes north_west u v h = h

-- the code of two comparisons has them
abbrev told : Ordering → Ordering → Bool
told o p = nat_lt (code o p) 9 && (alike o (eastward (coded (code o p))) && alike p (northward (coded (code o p))))

all_told : (o p : Ordering) → T (told o p)
all_told o p = every_at (λ p. told o p) (every_at (λ o. every (λ p. told o p)) tt o) p

code_below : (o p : Ordering) → code o p < 9
code_below o p =
    ltb-true (code o p) 9 (true_from (nat_lt (code o p) 9) (both_left (nat_lt (code o p) 9) (alike o (eastward (coded (code o p))) && alike p (northward (coded (code o p)))) (all_told o p)))

code_eastward : (o p : Ordering) → o ≡ eastward (coded (code o p))
code_eastward o p =
    same_eq o (eastward (coded (code o p)))
    (both_left (alike o (eastward (coded (code o p)))) (alike p (northward (coded (code o p))))
    (both_right (nat_lt (code o p) 9) (alike o (eastward (coded (code o p))) && alike p (northward (coded (code o p)))) (all_told o p)))

code_northward : (o p : Ordering) → p ≡ northward (coded (code o p))
code_northward o p =
    same_eq p (northward (coded (code o p)))
    (both_right (alike o (eastward (coded (code o p)))) (alike p (northward (coded (code o p))))
    (both_right (nat_lt (code o p) 9) (alike o (eastward (coded (code o p))) && alike p (northward (coded (code o p)))) (all_told o p)))

-- a number that is no code has two dwellings at the same place, along each axis
pub eastward_beyond : (c : ℕ) → 9 ≤ c → eastward (coded c) ≡ Ordering.eq
eastward_beyond c h = ap eastward (get_or_past directions c same h)

pub northward_beyond : (c : ℕ) → 9 ≤ c → northward (coded c) ≡ Ordering.eq
northward_beyond c h = ap northward (get_or_past directions c same h)

abbrev number : Dwelling → ℕ → ℕ → ℕ
number v zero s = v.east
number v (suc a) s = v.north

-- the dwelling with these two numbers
abbrev at_numbers : ℕ → ℕ → Dwelling
at_numbers x y = record { east = x; north = y }

pub charted : Frame dwellings compass
charted = record {
  number = number;
  make = λ f. at_numbers (f 0 0) (f 1 0);
  made = made;
  same_codes = refl;
  ascends = λ v h a s t ha hs ht. alone v a s t hs ht;
  lawful = λ v h. tt;
  seen = λ u v hu hv c h. (h.0, λ a s t ha hs ht. seen u v c (axes_of (coded c) u v h.1) a s t);
  holds = λ u v hu hv c h e. (
    h,
    of_axes (coded c) u v (
      says (eastward (coded c)) u.east v.east (e 0 0 0 (omega arith) (omega arith) (omega arith)),
      says (northward (coded c)) u.north v.north (e 1 0 0 (omega arith) (omega arith) (omega arith)),
    ),
  );
  told = λ u v hu hv. (code_below (compare u.east v.east) (compare u.north v.north), λ a s t ha hs ht. told_along u v a s t);
  items = tt;
  selves = tt;
  converses = tt;
  differ = tt;
  some = omega arith;
  few = omega arith;
}
  where
    made : (f : ℕ → ℕ → ℕ) (a s : ℕ) → a < 2 → s < 1 → number (at_numbers (f 0 0) (f 1 0)) a s ≡ f a s
    made f zero zero ha hs = refl
    made f zero (suc s) ha hs = absurd (not-suc-le-zero (le_of_suc-le-suc hs))
    made f (suc zero) zero ha hs = refl
    made f (suc zero) (suc s) ha hs = absurd (not-suc-le-zero (le_of_suc-le-suc hs))
    made f (suc (suc a)) s ha hs = absurd (not-suc-le-zero (le_of_suc-le-suc (le_of_suc-le-suc ha)))

    alone : (v : Dwelling) (a s t : ℕ) → s < 1 → t < 1 → compare (number v a s) (number v a t) ≡ compare s t
    alone v zero zero zero hs ht = compare_self v.east
    alone v (suc a) zero zero hs ht = compare_self v.north
    alone v a zero (suc t) hs ht = absurd (not-suc-le-zero (le_of_suc-le-suc ht))
    alone v a (suc s) t hs ht = absurd (not-suc-le-zero (le_of_suc-le-suc hs))

    seen : (u v : Dwelling) (c : ℕ) → Axes (coded c) u v → (a s t : ℕ) → compare (number u a s) (number v a t) ≡ along a (coded c)
    seen u v c h zero s t = said (eastward (coded c)) u.east v.east h.0
    seen u v c h (suc a) s t = said (northward (coded c)) u.north v.north h.1

    told_along : (u v : Dwelling) (a s t : ℕ) → compare (number u a s) (number v a t) ≡ along a (coded (dwellings.relation u v))
    told_along u v zero s t = code_eastward (compare u.east v.east) (compare u.north v.north)
    told_along u v (suc a) s t = code_northward (compare u.east v.east) (compare u.north v.north)

-- each of the nine directions holds of some dwellings, and `eq` of no two that differ
pub dwellings_partition : Partition dwellings
unfolding charted
dwellings_partition = partition dwellings compass charted (λ u v e. ap₂ at_numbers (e 0 0 (omega arith) (omega arith)) (e 1 0 (omega arith) (omega arith)))

-- counting the items to the west and to the south realises a scenario of dwellings
pub dwellings_realise : Realisation dwellings dwelling
unfolding charted
dwellings_realise n scenario some few h = realises dwellings compass charted n scenario h
