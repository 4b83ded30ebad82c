-- The steps of the code are the steps of the search.
use Rattle.std.proofs.Common.{◌≡◌, ℕ, zero, suc, ◌+◌, ◌-◌, ◌<◌, ◌≤◌, Bool, true, false, cond, leb, List, length, sym, refl, ◌∙◌, subst, inl, inr, eq-or-lt_of_le, arith}
use Rattle.std.proofs.lemmas.Bool.{le-leb, lt-leb, cond-true, cond-false, cases_lt}
use Rattle.points.specs.Scenarios.{pairs, entry}
use Rattle.rules.specs.declared.row.Row.{Row}
use Rattle.rules.specs.Costs.{cost}
use Rattle.rules.specs.Orders.{Below, index, past}
use Rattle.rules.specs.Steps.{Rules, Position, position, refuted, first_passing, looked_at, shortest, total, finished, step, advance, taken}
use Rattle.rules.specs.Soundness.{InParts}
use Rattle.rules.proofs.Cursors.{digits_index, past_one}

-- The first that passes is k, where none before k passes and k does; or past the range, where none in it passes.
pub first_at : (f : ℕ → Bool) (m q k : ℕ) → q ≤ k → k < q + m → ((z : ℕ) → q ≤ z → z < k → f z ≡ false) → f k ≡ true → first_passing f m q ≡ k
first_at f zero q k lo hi before here = absurd (omega arith)
first_at f (suc m) q k lo hi before here = elim (eq-or-lt_of_le lo) [
  | inl e ↦ (let passes : f q ≡ true = subst (λ (z : ℕ). f z ≡ true) (sym e) here in cond-true (f q) q (first_passing f m (suc q)) passes ∙ e)
  | inr l ↦ cond-false (f q) q (first_passing f m (suc q)) (before q (omega arith) l) ∙ first_at f m (suc q) k l (omega arith) (λ z a b. before z (omega arith) b) here
]

pub first_past : (f : ℕ → Bool) (m q : ℕ) → ((z : ℕ) → q ≤ z → z < q + m → f z ≡ false) → first_passing f m q ≡ q + m
first_past f zero q none = omega arith
first_past f (suc m) q none =
    let rest = first_past f m (suc q) (λ z a b. none z (omega arith) (omega arith)) in
    cond-false (f q) q (first_passing f m (suc q)) (none q (omega arith) (omega arith)) ∙ (let e : suc q + m ≡ q + suc m = omega arith in rest ∙ e)

module _ {C : Type 0} (r : Rules C) (n : ℕ) (rows : List Row) where
  -- A step from the incumbent a with the cursor at the codes e; b and q are the cost of a and the length of the shortest refuted prefix.
  module _ (a e : List ℕ) (some : 0 < r.codes) (long : length e ≡ pairs n) (low : Below r.codes e)
      (b : C) (is_best : b ≡ cost r.joining rows (entry a))
      (q : ℕ) (is_first : q ≡ first_passing (refuted r n rows b e) (pairs n + 1) 0) where
    abbrev start : Position
    start = position a (index r.codes e)

    here : looked_at r n start ≡ e
    here = digits_index r.codes (pairs n) e some low long

    shortest_is : shortest r n rows start ≡ q
    shortest_is = rw (here, sym is_best) (sym is_first)

    step_is : step r n rows start ≡ cond (leb q (pairs n)) (position a (past r.codes (pairs n) q (index r.codes e))) (position e (index r.codes e + 1))
    step_is = rw (shortest_is, here) refl

    -- A step past a refuted prefix, to the next number after all that share it.
    pub step_skips : q ≤ pairs n → (next : ℕ) → next ≡ past r.codes (pairs n) q (index r.codes e) → position a next ≡ step r n rows start
    step_skips within next is = rw (is, step_is, le-leb q (pairs n) within) refl

    -- A step to a scenario of which no prefix is refuted.
    pub step_holds : pairs n < q → (next : ℕ) → next ≡ past r.codes (pairs n) (pairs n) (index r.codes e) → position e next ≡ step r n rows start
    step_holds beyond next is = rw (is, past_one r.codes (pairs n) (index r.codes e), step_is, lt-leb q (pairs n) beyond) refl

  -- One more step while the search goes on, and none once it has finished.
  turn_on : (k : ℕ) (s : Position) → s.cursor < total r n
      → (advance r n rows (suc k) s ≡ advance r n rows k (step r n rows s)) × (taken r n rows (suc k) s ≡ suc (taken r n rows k (step r n rows s)))
  turn_on k s l =
      let going : finished r n s ≡ false = lt-leb (total r n) s.cursor l in
      (rw going refl, rw going refl)

  turn_off : (k : ℕ) (s : Position) → total r n ≤ s.cursor → (advance r n rows k s ≡ s) × (taken r n rows k s ≡ 0)
  turn_off zero s l = (refl, refl)
  turn_off (suc k) s l =
      let done : finished r n s ≡ true = le-leb (total r n) s.cursor l in
      (rw done refl, rw done refl)

  -- After m of k steps from `start` the search is at s: what is left to do is done from s.
  pub record UnderWay (k m : ℕ) (start s : Position) : Type 0 where
    pub few : m ≤ k
    pub leads : advance r n rows k start ≡ advance r n rows (k - m) s
    pub counts : taken r n rows k start ≡ m + taken r n rows (k - m) s

  pub under_way_more : (k m : ℕ) (start s t : Position) → UnderWay k m start s → m < k → s.cursor < total r n → t ≡ step r n rows s → UnderWay k (m + 1) start t
  under_way_more k m start s t u l room is =
      let j : k - m ≡ suc (k - (m + 1)) = omega arith in
      let one = turn_on (k - (m + 1)) s room in
      let count : taken r n rows (k - m) s ≡ suc (taken r n rows (k - (m + 1)) t) = rw (j, one.1, is) refl in
      let so_far = u.counts in
      record {
        few = omega arith;
        leads = u.leads ∙ rw (j, one.0, is) refl;
        counts = omega arith;
      }

  pub under_way_done : (k m : ℕ) (start s : Position) → UnderWay k m start s → total r n ≤ s.cursor → (s ≡ advance r n rows k start) × (m ≡ taken r n rows k start)
  under_way_done k m start s u l =
      let off = turn_off (k - m) s l in
      let none : taken r n rows (k - m) s ≡ 0 = off.1 in
      let so_far = u.counts in
      (sym (u.leads ∙ off.0), omega arith)

-- A search in parts is one at once.
pub in_parts : {C : Type 0} (r : Rules C) → InParts r
in_parts r n rows zero l s =
    let z : zero + l ≡ l = omega arith in
    (rw z refl, rw z (omega arith))
in_parts r n rows (suc k) l s =
    let z : suc k + l ≡ suc (k + l) = omega arith in
    elim (cases_lt s.cursor (total r n)) [
      | inl going ↦ (let whole = turn_on r n rows (k + l) s going in
          let part = turn_on r n rows k s going in
          let rest = in_parts r n rows k l (step r n rows s) in
          (rw (z, whole.0, part.0) rest.0, rw (z, whole.1, part.1, part.0) (omega (arith, rest.1))))
      | inr done ↦ (let whole = turn_off r n rows (suc k + l) s done in
          let part = turn_off r n rows (suc k) s done in
          let rest = turn_off r n rows l s done in
          (rw (whole.0, part.0, rest.0) refl, rw (whole.1, part.1, part.0, rest.1) refl))
    ]
