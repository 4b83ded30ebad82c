-- Moments are one mark on one line.
use Rattle.std.specs.Prelude.{◌≡◌, ℕ, zero, suc, ◌<◌, ◌≤◌, [], ◌∷◌, refl}
use Rattle.std.proofs.Common.{ap, arith, not-suc-le-zero, le_of_suc-le-suc}
use Prim.Native.Nat.{Ordering, compare}
use Rattle.std.proofs.lemmas.List.{get_or_past}
use Rattle.points.proofs.Compare.{said, says, compare_self}
use Rattle.moments.specs.declared.Moment.{Moment}
use Rattle.kinds.specs.Meaning.{Partition, Realisation}
use Rattle.moments.specs.Moments.{coded, code, moments, line, moment}
use Rattle.kinds.proofs.Framed.{Frame, partition, realises}

coded_code : (o : Ordering) → o ≡ coded (code o)
coded_code Ordering.lt = refl
coded_code Ordering.eq = refl
coded_code Ordering.gt = refl

code_below : (o : Ordering) → code o < 3
code_below Ordering.lt = omega arith
code_below Ordering.eq = omega arith
code_below Ordering.gt = omega arith

-- a number that is no code has two moments at the same time
pub coded_beyond : (c : ℕ) → 3 ≤ c → coded c ≡ Ordering.eq
coded_beyond c h = get_or_past (Ordering.eq ∷ Ordering.lt ∷ Ordering.gt ∷ []) c Ordering.eq h

-- the moment with this number
abbrev at_number : ℕ → Moment
at_number k = record { at = k }

pub timed : Frame moments line
timed = record {
  number = λ v a s. v.at;
  make = λ f. at_number (f 0 0);
  made = only;
  same_codes = refl;
  ascends = λ v h a s t ha hs ht. alone v s t hs ht;
  lawful = λ v h. tt;
  seen = λ u v hu hv c h. (h.0, λ a s t ha hs ht. said (coded c) u.at v.at h.1);
  holds = λ u v hu hv c h e. (h, says (coded c) u.at v.at (e 0 0 0 (omega arith) (omega arith) (omega arith)));
  told = λ u v hu hv. (code_below (compare u.at v.at), λ a s t ha hs ht. coded_code (compare u.at v.at));
  items = tt;
  selves = tt;
  converses = tt;
  differ = tt;
  some = omega arith;
  few = omega arith;
}
  where
    only : (f : ℕ → ℕ → ℕ) (a s : ℕ) → a < 1 → s < 1 → f 0 0 ≡ f a s
    only f zero zero ha hs = refl
    only f zero (suc s) ha hs = absurd (not-suc-le-zero (le_of_suc-le-suc hs))
    only f (suc a) s ha hs = absurd (not-suc-le-zero (le_of_suc-le-suc ha))

    alone : (v : Moment) (s t : ℕ) → s < 1 → t < 1 → compare v.at v.at ≡ compare s t
    alone v zero zero hs ht = compare_self v.at
    alone v zero (suc t) hs ht = absurd (not-suc-le-zero (le_of_suc-le-suc ht))
    alone v (suc s) t hs ht = absurd (not-suc-le-zero (le_of_suc-le-suc hs))

-- each of = < > holds of some moments, and = of no two that differ
pub moments_partition : Partition moments
unfolding timed
moments_partition = partition moments line timed (λ u v e. ap at_number (e 0 0 (omega arith) (omega arith)))

-- counting the items before realises a scenario of moments
pub moments_realise : Realisation moments moment
unfolding timed
moments_realise n scenario some few h = realises moments line timed n scenario h
