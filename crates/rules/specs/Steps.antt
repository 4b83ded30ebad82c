-- The step rule of the search.
use Rattle.std.specs.Prelude.{ℕ, zero, suc, ◌+◌, ◌^◌, Bool, false, cond, not, ◌&&◌, ◌||◌, List, replicate, nat_le, nat_lt}
use Rattle.points.specs.Scenarios.{pairs, place, entry}
use Rattle.tallies.specs.Joins.{Joining}
use Rattle.tallies.specs.declared.claim.Claim.{Claim}
use Rattle.rules.specs.declared.row.Row.{Row}
use Rattle.rules.specs.Costs.{cost, prefix_bound}
use Rattle.rules.specs.Orders.{digits, past}

-- What a search needs to know of a kind and a tally: the number of codes; which triples fit, by the codes of (i, j), (j, k) and (i, k);
-- joining; and "at most".
pub record Rules (C : Type 0) : Type 0 where
  pub codes : ℕ
  pub fit : ℕ → ℕ → ℕ → Bool
  pub joining : Joining Claim C
  pub at_most : C → C → Bool

-- Where a search stands: the incumbent, and the cursor, the number of the scenario to look at next.
pub record Position : Type 0 where
  pub incumbent : List ℕ
  pub cursor : ℕ

-- a position, by its incumbent and its cursor
abbrev pub position : List ℕ → ℕ → Position
position a m = record { incumbent = a; cursor = m }

-- some number below n passes
abbrev pub some : ℕ → (ℕ → Bool) → Bool
some zero f = false
some (suc n) f = f n || some n f

-- The first q codes of a scenario hold all three pairs of a triple i < j < k that does not fit; (j, k) is the last of the three.
abbrev pub unfit : {C : Type 0} → Rules C → ℕ → ℕ → List ℕ → Bool
unfit r n q a = some n (λ k. some k (λ j. some j (λ i. nat_lt (place j k) q && not (r.fit (entry a i j) (entry a j k) (entry a i k)))))

-- A prefix of q codes is refuted against the cost of the incumbent: a triple in it does not fit, or its lower bound is not below that cost.
abbrev pub refuted : {C : Type 0} → Rules C → ℕ → List Row → C → List ℕ → ℕ → Bool
refuted r n rows best a q = unfit r n q a || r.at_most best (prefix_bound r.joining r.at_most r.codes (pairs n) rows q a)

-- The first of q, .., q + m - 1 that passes, or q + m.
abbrev pub first_passing : (ℕ → Bool) → ℕ → ℕ → ℕ
first_passing f zero q = q
first_passing f (suc m) q = cond (f q) q (first_passing f m (suc q))

-- the scenario at the cursor, the cost of the incumbent, and the length of the shortest refuted prefix, or one more than there are pairs
abbrev pub looked_at : {C : Type 0} → Rules C → ℕ → Position → List ℕ
looked_at r n s = digits r.codes (pairs n) s.cursor

abbrev pub best_cost : {C : Type 0} → Rules C → List Row → Position → C
best_cost r rows s = cost r.joining rows (entry s.incumbent)

abbrev pub shortest : {C : Type 0} → Rules C → ℕ → List Row → Position → ℕ
shortest r n rows s = first_passing (refuted r n rows (best_cost r rows s) (looked_at r n s)) (pairs n + 1) 0

-- One step: past all scenarios that share the shortest refuted prefix; or, if none is refuted, the scenario becomes the incumbent and
-- the cursor moves by one.
abbrev pub step : {C : Type 0} → Rules C → ℕ → List Row → Position → Position
step r n rows s = cond (nat_le (shortest r n rows s) (pairs n))
    (position s.incumbent (past r.codes (pairs n) (shortest r n rows s) s.cursor))
    (position (looked_at r n s) (s.cursor + 1))

-- how many scenarios there are
abbrev pub total : {C : Type 0} → Rules C → ℕ → ℕ
total r n = r.codes ^ pairs n

-- As a sheet is closed, the scenario of all zeros is the incumbent, and the cursor is at the next.
abbrev pub opening : ℕ → Position
opening n = position (replicate (pairs n) 0) 1

-- The cursor has passed the last scenario.
abbrev pub finished : {C : Type 0} → Rules C → ℕ → Position → Bool
finished r n s = nat_le (total r n) s.cursor

-- Up to m steps, none once the search has finished, and how many of them are taken.
abbrev pub advance : {C : Type 0} → Rules C → ℕ → List Row → ℕ → Position → Position
advance r n rows zero s = s
advance r n rows (suc m) s = cond (finished r n s) s (advance r n rows m (step r n rows s))

abbrev pub taken : {C : Type 0} → Rules C → ℕ → List Row → ℕ → Position → ℕ
taken r n rows zero s = zero
taken r n rows (suc m) s = cond (finished r n s) zero (suc (taken r n rows m (step r n rows s)))

-- Where the search of a sheet of n items stands when k steps have been asked for since it was closed.
unfoldable pub searched : {C : Type 0} → Rules C → ℕ → List Row → ℕ → Position
searched r n rows k = advance r n rows k (opening n)
