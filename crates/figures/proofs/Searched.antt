-- A search that is followed step by step to its end.
use Rattle.std.proofs.Common.{◌≡◌, ℕ, zero, suc, ◌<◌, ◌≤◌, Bool, true, false, not, ◌&&◌, cond, T, List, refl, ap, ◌∙◌, arith}
use Rattle.std.proofs.lemmas.Bool.{not-true}
use Rattle.points.proofs.Finite.{both_left, both_right, true_from}
use Rattle.rules.specs.declared.row.Row.{Row}
use Rattle.rules.specs.Steps.{Rules, Position, step, opening, finished, advance, taken, searched}
use Rattle.figures.specs.Small.{FinishedAfter}

module _ {C : Type 0} (r : Rules C) (n : ℕ) (rows : List Row) where
  -- From s the search is not finished before k steps, and then it is. The checker computes this.
  abbrev pub lasts : ℕ → Position → Bool
  lasts zero s = finished r n s
  lasts (suc k) s = not (finished r n s) && lasts k (step r n rows s)

  on : (k : ℕ) (s : Position) → T (lasts (suc k) s) → finished r n s ≡ false
  on k s h = not-true (finished r n s) (true_from (not (finished r n s)) (both_left (not (finished r n s)) (lasts k (step r n rows s)) h))

  rest : (k : ℕ) (s : Position) → T (lasts (suc k) s) → T (lasts k (step r n rows s))
  rest k s h = both_right (not (finished r n s)) (lasts k (step r n rows s)) h

  unfinished : (k : ℕ) (s : Position) → T (lasts k s) → (asked : ℕ) → asked < k → finished r n (advance r n rows asked s) ≡ false
  unfinished zero s h asked l = absurd (omega arith)
  unfinished (suc k) s h zero l = on k s h
  unfinished (suc k) s h (suc m) l =
      ap (λ (b : Bool). finished r n (cond b s (advance r n rows m (step r n rows s)))) (on k s h)
      ∙ unfinished k (step r n rows s) (rest k s h) m (omega arith)

  ended : (k : ℕ) (s : Position) → T (lasts k s) → finished r n (advance r n rows k s) ≡ true
  ended zero s h = true_from (finished r n s) h
  ended (suc k) s h =
      ap (λ (b : Bool). finished r n (cond b s (advance r n rows k (step r n rows s)))) (on k s h)
      ∙ ended k (step r n rows s) (rest k s h)

  exactly : (k : ℕ) (s : Position) → T (lasts k s) → (asked : ℕ) → k ≤ asked → taken r n rows asked s ≡ k
  exactly zero s h zero l = refl
  exactly zero s h (suc m) l = ap (λ (b : Bool). cond b zero (suc (taken r n rows m (step r n rows s)))) (true_from (finished r n s) h)
  exactly (suc k) s h zero l = absurd (omega arith)
  exactly (suc k) s h (suc m) l =
      ap (λ (b : Bool). cond b zero (suc (taken r n rows m (step r n rows s)))) (on k s h)
      ∙ ap suc (exactly k (step r n rows s) (rest k s h) m (omega arith))

  pub finished_after : (k : ℕ) → T (lasts k (opening n)) → FinishedAfter r n rows k
  unfolding searched
  finished_after k h = record {
    unfinished = unfinished k (opening n) h;
    ended = ended k (opening n) h;
    exactly = exactly k (opening n) h;
  }
