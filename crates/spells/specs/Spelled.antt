-- Spells are two marks on one line.
use Rattle.std.specs.Prelude.{◌≡◌, ℕ, zero, suc, ◌<◌, ◌≤◌, Bool, ◌&&◌, T, map, get_or, slice_index_or, refl}
use Rattle.std.proofs.Common.{sym, ap, ap₂, ◌∙◌, subst, arith, not-suc-le-zero, le_of_suc-le-suc}
use Prim.Native.Nat.{Ordering, compare}
use Rattle.std.proofs.lemmas.List.{get_or-map, get_or_past}
use Rattle.points.specs.Points.{Says, compose, same}
use Rattle.points.proofs.Finite.{both_left, both_right, both_from, implies, implied, every, every_at}
use Rattle.points.proofs.Compare.{said, says, same_eq, compare_lt, compare_gt, compare_self, compose_compare}
use Rattle.kinds.specs.Meaning.{Partition, Realisation}
use Rattle.kinds.proofs.Framed.{Frame, partition, realises}
use Rattle.spells.specs.declared.spell.Spell.{Spell}
use Rattle.spells.specs.declared.spell.Relation.{Relation}
use Rattle.spells.specs.declared.spell.Relation.TheVariants.{Equals, Before, After, Meets, MetBy, Overlaps, OverlappedBy, Starts, StartedBy, During, Contains, Finishes, FinishedBy}
use Rattle.spells.specs.Relations.{Lawful, Holds, relations, coded, code, by_ends, related, Ends, ends}
use Rattle.spells.specs.Spells.{spells, pick, level, side, timeline, spell}

-- what the four comparisons of a relation say
abbrev AllSay : Ends → Spell → Spell → Type 0
AllSay q u v = Says q.0 u.start v.start × Says q.1 u.start v.end × Says q.2 u.end v.start × Says q.3 u.end v.end

ends_of : (p : Relation) (u v : Spell) → Lawful u → Lawful v → Holds p u v → AllSay (ends p) u v
ends_of Equals u v hu hv h = omega arith
ends_of Before u v hu hv h = omega arith
ends_of After u v hu hv h = omega arith
ends_of Meets u v hu hv h = omega arith
ends_of MetBy u v hu hv h = omega arith
ends_of Overlaps u v hu hv h = omega arith
ends_of OverlappedBy u v hu hv h = omega arith
ends_of Starts u v hu hv h = omega arith
ends_of StartedBy u v hu hv h = omega arith
ends_of During u v hu hv h = omega arith
ends_of Contains u v hu hv h = omega arith
ends_of Finishes u v hu hv h = omega arith
ends_of FinishedBy u v hu hv h = omega arith

of_ends : (p : Relation) (u v : Spell) → Lawful u → Lawful v → AllSay (ends p) u v → Holds p u v
of_ends Equals u v hu hv h = omega arith
of_ends Before u v hu hv h = omega arith
of_ends After u v hu hv h = omega arith
of_ends Meets u v hu hv h = omega arith
of_ends MetBy u v hu hv h = omega arith
of_ends Overlaps u v hu hv h = omega arith
of_ends OverlappedBy u v hu hv h = omega arith
of_ends Starts u v hu hv h = omega arith
of_ends StartedBy u v hu hv h = omega arith
of_ends During u v hu hv h = omega arith
of_ends Contains u v hu hv h = omega arith
of_ends Finishes u v hu hv h = omega arith
of_ends FinishedBy u v hu hv h = omega arith

code_below : (p : Relation) → code p < 13
code_below Equals = omega arith
code_below Before = omega arith
code_below After = omega arith
code_below Meets = omega arith
code_below MetBy = omega arith
code_below Overlaps = omega arith
code_below OverlappedBy = omega arith
code_below Starts = omega arith
code_below StartedBy = omega arith
code_below During = omega arith
code_below Contains = omega arith
code_below Finishes = omega arith
code_below FinishedBy = omega arith

ends_coded : (p : Relation) → slice_index_or (map ends relations) (code p) level ≡ ends p
ends_coded Equals = refl
ends_coded Before = refl
ends_coded After = refl
ends_coded Meets = refl
ends_coded MetBy = refl
ends_coded Overlaps = refl
ends_coded OverlappedBy = refl
ends_coded Starts = refl
ends_coded StartedBy = refl
ends_coded During = refl
ends_coded Contains = refl
ends_coded Finishes = refl
ends_coded FinishedBy = refl

-- four comparisons that the ends of lawful spells can have
abbrev possible : Ordering → Ordering → Ordering → Ordering → Bool
possible ss se es ee = (compose ss Prim.Native.Nat.Ordering.lt se && compose es Prim.Native.Nat.Ordering.lt ee) && (compose Prim.Native.Nat.Ordering.lt es ss && compose Prim.Native.Nat.Ordering.lt ee se)

abbrev these : Ends → Ordering → Ordering → Ordering → Ordering → Bool
these q ss se es ee = (same ss q.0 && same se q.1) && (same es q.2 && same ee q.3)

-- are those of the relation that they single out
abbrev told : Ordering → Ordering → Ordering → Ordering → Bool
told ss se es ee = implies (possible ss se es ee) (these (ends (by_ends ss se es ee)) ss se es ee)

all_told : (ss se es ee : Ordering) → T (told ss se es ee)
all_told ss se es ee =
    every_at (λ d. told ss se es d) (every_at (λ c. every (λ d. told ss se c d)) (every_at (λ b. every (λ c. every (λ d. told ss b c d)))
    (every_at (λ a. every (λ b. every (λ c. every (λ d. told a b c d)))) tt ss) se) es) ee

later_lt : (x y z : ℕ) → y < z → T (compose (compare x y) Prim.Native.Nat.Ordering.lt (compare x z))
later_lt x y z h = subst (λ (o : Ordering). T (compose (compare x y) o (compare x z))) (compare_lt y z h) (compose_compare x y z)

first_lt : (x y z : ℕ) → x < y → T (compose Prim.Native.Nat.Ordering.lt (compare y z) (compare x z))
first_lt x y z h = subst (λ (o : Ordering). T (compose o (compare y z) (compare x z))) (compare_lt x y h) (compose_compare x y z)

-- the comparisons of two lawful spells are those of their relation
pub record Told (u v : Spell) : Type 0 where
  pub start_start : compare u.start v.start ≡ (ends (related u v)).0
  pub start_end : compare u.start v.end ≡ (ends (related u v)).1
  pub end_start : compare u.end v.start ≡ (ends (related u v)).2
  pub end_end : compare u.end v.end ≡ (ends (related u v)).3

related_told : (u v : Spell) → Lawful u → Lawful v → Told u v
related_told u v hu hv =
    let ss : Ordering = compare u.start v.start in
    let se : Ordering = compare u.start v.end in
    let es : Ordering = compare u.end v.start in
    let ee : Ordering = compare u.end v.end in
    let q : Ends = ends (related u v) in
    let can : T (possible ss se es ee) =
    both_from (compose ss Prim.Native.Nat.Ordering.lt se && compose es Prim.Native.Nat.Ordering.lt ee) (compose Prim.Native.Nat.Ordering.lt es ss && compose Prim.Native.Nat.Ordering.lt ee se)
    (both_from (compose ss Prim.Native.Nat.Ordering.lt se) (compose es Prim.Native.Nat.Ordering.lt ee) (later_lt u.start v.start v.end hv) (later_lt u.end v.start v.end hv))
    (both_from (compose Prim.Native.Nat.Ordering.lt es ss) (compose Prim.Native.Nat.Ordering.lt ee se) (first_lt u.start u.end v.start hu) (first_lt u.start u.end v.end hu)) in
    let all : T (these q ss se es ee) = implied (possible ss se es ee) (these q ss se es ee) (all_told ss se es ee) can in
    let starts : T (same ss q.0 && same se q.1) = both_left (same ss q.0 && same se q.1) (same es q.2 && same ee q.3) all in
    let finishes : T (same es q.2 && same ee q.3) = both_right (same ss q.0 && same se q.1) (same es q.2 && same ee q.3) all in
    record {
      start_start = same_eq ss q.0 (both_left (same ss q.0) (same se q.1) starts);
      start_end = same_eq se q.1 (both_right (same ss q.0) (same se q.1) starts);
      end_start = same_eq es q.2 (both_left (same es q.2) (same ee q.3) finishes);
      end_end = same_eq ee q.3 (both_right (same es q.2) (same ee q.3) finishes);
    }

-- the number of an end
abbrev number : Spell → ℕ → ℕ → ℕ
number v a zero = v.start
number v a (suc s) = v.end

-- four comparisons, by the marks
by_marks : (u v : Spell) (q : Ends) → compare u.start v.start ≡ q.0 → compare u.start v.end ≡ q.1 → compare u.end v.start ≡ q.2 → compare u.end v.end ≡ q.3 →
    (a s t : ℕ) → compare (number u a s) (number v a t) ≡ pick q s t
by_marks u v q x y z w a zero zero = x
by_marks u v q x y z w a zero (suc t) = y
by_marks u v q x y z w a (suc s) zero = z
by_marks u v q x y z w a (suc s) (suc t) = w

-- a number that is no code says nothing
pub side_beyond : (c s t : ℕ) → 13 ≤ c → side c s t ≡ Ordering.eq
side_beyond c s t h = ap (λ (q : Ends). pick q s t) (get_or_past (map ends relations) c level h) ∙ level_side s t
  where
    level_side : (s t : ℕ) → pick level s t ≡ Ordering.eq
    level_side zero zero = refl
    level_side zero (suc t) = refl
    level_side (suc s) zero = refl
    level_side (suc s) (suc t) = refl

-- the spell with these two ends
abbrev from_to : ℕ → ℕ → Spell
from_to x y = record { start = x; end = y }

pub spelled : Frame spells timeline
spelled = record {
  number = number;
  make = λ f. from_to (f 0 0) (f 0 1);
  made = made;
  same_codes = refl;
  ascends = λ v h a s t ha hs ht. ascends v h a s t hs ht;
  lawful = λ v h. says Prim.Native.Nat.Ordering.lt v.start v.end (h 0 0 1 (omega arith) (omega arith) (omega arith));
  seen = λ u v hu hv c h.
      let k : AllSay (ends (coded c)) u v = ends_of (coded c) u v hu hv h.1 in (
        h.0,
        λ a s t ha hs ht.
            by_marks u v (ends (coded c)) (said (ends (coded c)).0 u.start v.start k.0) (said (ends (coded c)).1 u.start v.end k.1)
            (said (ends (coded c)).2 u.end v.start k.2) (said (ends (coded c)).3 u.end v.end k.3) a s t
            ∙ ap (λ (q : Ends). pick q s t) (sym (get_or-map ends relations c Equals level h.0)),
      );
  holds = λ u v hu hv c h e.
      let q : get_or (map ends relations) c level ≡ ends (coded c) = get_or-map ends relations c Equals level h in (
        h,
        of_ends (coded c) u v hu hv (
          says (ends (coded c)).0 u.start v.start (e 0 0 0 (omega arith) (omega arith) (omega arith) ∙ ap (λ (p : Ends). p.0) q),
          says (ends (coded c)).1 u.start v.end (e 0 0 1 (omega arith) (omega arith) (omega arith) ∙ ap (λ (p : Ends). p.1) q),
          says (ends (coded c)).2 u.end v.start (e 0 1 0 (omega arith) (omega arith) (omega arith) ∙ ap (λ (p : Ends). p.2) q),
          says (ends (coded c)).3 u.end v.end (e 0 1 1 (omega arith) (omega arith) (omega arith) ∙ ap (λ (p : Ends). p.3) q),
        ),
      );
  told = λ u v hu hv. (
    code_below (related u v),
    λ a s t ha hs ht.
        let k : Told u v = related_told u v hu hv in
        by_marks u v (ends (related u v)) k.start_start k.start_end k.end_start k.end_end a s t
        ∙ ap (λ (q : Ends). pick q s t) (sym (ends_coded (related u v))),
  );
  items = tt;
  selves = tt;
  converses = tt;
  differ = tt;
  some = omega arith;
  few = omega arith;
}
  where
    made : (f : ℕ → ℕ → ℕ) (a s : ℕ) → a < 1 → s < 2 → number (from_to (f 0 0) (f 0 1)) a s ≡ f a s
    made f zero zero ha hs = refl
    made f zero (suc zero) ha hs = refl
    made f zero (suc (suc s)) ha hs = absurd (not-suc-le-zero (le_of_suc-le-suc (le_of_suc-le-suc hs)))
    made f (suc a) s ha hs = absurd (not-suc-le-zero (le_of_suc-le-suc ha))

    ascends : (v : Spell) → Lawful v → (a s t : ℕ) → s < 2 → t < 2 → compare (number v a s) (number v a t) ≡ compare s t
    ascends v h a zero zero hs ht = compare_self v.start
    ascends v h a zero (suc zero) hs ht = compare_lt v.start v.end h
    ascends v h a (suc zero) zero hs ht = compare_gt v.end v.start h
    ascends v h a (suc zero) (suc zero) hs ht = compare_self v.end
    ascends v h a zero (suc (suc t)) hs ht = absurd (not-suc-le-zero (le_of_suc-le-suc (le_of_suc-le-suc ht)))
    ascends v h a (suc zero) (suc (suc t)) hs ht = absurd (not-suc-le-zero (le_of_suc-le-suc (le_of_suc-le-suc ht)))
    ascends v h a (suc (suc s)) t hs ht = absurd (not-suc-le-zero (le_of_suc-le-suc (le_of_suc-le-suc hs)))

-- each of the thirteen relations holds of some spells, and `eq` of no two that differ
pub spells_partition : Partition spells
unfolding spelled
spells_partition = partition spells timeline spelled (λ u v e. ap₂ from_to (e 0 0 (omega arith) (omega arith)) (e 0 1 (omega arith) (omega arith)))

-- counting the starts and ends before realises a scenario of spells
pub spells_realise : Realisation spells spell
unfolding spelled
spells_realise n scenario some few h = realises spells timeline spelled n scenario h
