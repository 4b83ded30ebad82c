-- Pairs of items and their places in a scenario.
use Rattle.std.proofs.Common.{◌≡◌, ℕ, zero, suc, ◌+◌, ◌-◌, ◌*◌, ◌/◌, ◌<◌, ◌≤◌, refl, inl, inr, not-suc-le-zero, arith}
use Rattle.std.proofs.lemmas.Bool.{cases_lt}
use Rattle.points.specs.Scenarios.{pairs, place}

pairs_double : (k : ℕ) → pairs (suc k) + pairs (suc k) ≡ suc k * k
pairs_double zero = refl
pairs_double (suc k) = omega (arith, pairs_double k)

pub pairs_half : (n : ℕ) → n * (n - 1) / 2 ≡ pairs n
pairs_half zero = refl
pairs_half (suc k) = let e : suc k - 1 ≡ k = omega arith in rw e (omega (arith, pairs_double k))

pub pairs_up : (j n : ℕ) → j < n → pairs j + j ≤ pairs n
pairs_up j zero h = absurd (not-suc-le-zero h)
pairs_up j (suc n) h = elim (cases_lt j n) [
  | inl l ↦ omega (arith, pairs_up j n l)
  | inr l ↦ let e : j ≡ n = omega arith in rw e (omega arith)
]

-- the pair of i and j has its place among those of n items
pub place_within : (i j n : ℕ) → i < j → j < n → place i j < pairs n
place_within i j n l m = omega (arith, pairs_up j n m)

-- the two items whose pair stands at p
pub record Pair (n p : ℕ) : Type 0 where
  pub i : ℕ
  pub j : ℕ
  pub apart : i < j
  pub within : j < n
  pub here : place i j ≡ p

pub pair_at : (n p : ℕ) → p < pairs n → Pair n p
pair_at zero p h = absurd (not-suc-le-zero h)
pair_at (suc n) p h = elim (cases_lt p (pairs n)) [
  | inl l ↦ let q = pair_at n p l in record { i = q.i; j = q.j; apart = q.apart; within = up q.j q.within; here = q.here }
  | inr l ↦ record { i = p - pairs n; j = n; apart = rest l; within = omega arith; here = back l }
]
  where
    up : (j : ℕ) → j < n → j < suc n
    up j m = omega arith

    rest : pairs n ≤ p → p - pairs n < n
    rest l = omega arith

    back : pairs n ≤ p → pairs n + (p - pairs n) ≡ p
    back l = omega arith
