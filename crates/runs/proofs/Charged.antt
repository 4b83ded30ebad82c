-- Charges told while a sheet stands still join to the cost that is shown.
use Rattle.std.proofs.Common.{◌≡◌, ℕ, zero, suc, ◌+◌, ◌<◌, ◌≤◌, Bool, false, cond, List, [], ◌∷◌, take, Some, None, Option, sym, refl, ap, ◌∙◌, subst, inl, inr, arith}
use Rattle.std.proofs.lemmas.Bool.{cases_Bool, cases_lt, both_ways}
use Rattle.points.specs.Scenarios.{entry}
use Rattle.kinds.specs.Meaning.{Meaning}
use Rattle.tallies.specs.Joins.{Joining, Monoid}
use Rattle.tallies.specs.Groups.{span}
use Rattle.tallies.specs.declared.claim.Claim.{Claim}
use Rattle.tallies.proofs.Groups.{span_same}
use Rattle.rules.specs.declared.row.Row.{Row}
use Rattle.rules.specs.Rows.{Proper}
use Rattle.rules.specs.Costs.{of_rows, charge}
use Rattle.rules.specs.Steps.{Rules, Position, step, finished, advance, taken}
use Rattle.rules.proofs.Costs.{charges_join}
use Rattle.statements.specs.declared.fault.Fault.{Fault}
use Rattle.statements.specs.Faults.{first_fault}
use Rattle.statements.specs.Searches.{search_checks, charge_checks}
use Rattle.runs.specs.declared.call.Call.{Call}
use Rattle.runs.specs.declared.call.Call.TheVariants.{Size, Enter, Strike, Reweigh, Look, Close, Search, Show, Charge, Reopen}
use Rattle.runs.specs.declared.answer.Sight.{Sight}
use Rattle.runs.specs.declared.answer.Answer.{Answer}
use Rattle.runs.specs.declared.answer.Answer.TheVariants.{Refused, Took, Shown, Charged}
use Rattle.runs.specs.Models.{Model, drafting, closed, verdict, next, after}
use Rattle.runs.specs.Answers.{SightOf, AnswersCall, AnswersScript}
use Rattle.runs.specs.Law.{At, OnClosed, steps_of, is_done, reopens, Told, Charges}
use Rattle.runs.proofs.Verdicts.{by_cases, sort, sort_for, sorted}
use Rattle.runs.proofs.Places.{at_same, made}

-- A span of a joining that is carried over to rows.
span_along : {C : Type 0} (j : Joining Claim C) (g : ℕ → C) (k n : ℕ) → span (of_rows j) g k n ≡ span j g k n
span_along j g k zero = refl
span_along j g k (suc n) = ap (j.join (g k)) (span_along j g (suc k) n)

-- The sheet is closed, with these items, rows and search.
abbrev pub Stands : ℕ → List Row → Position → Model → Type 0
Stands n rows s y = OnClosed (λ n' rows' s'. (n' ≡ n) × (rows' ≡ rows) × (s' ≡ s)) y

pub record Known (P : ℕ → List Row → Position → Type 0) (y : Model) : Type 0 where
  pub n : ℕ
  pub rows : List Row
  pub s : Position
  pub stands : Stands n rows s y
  pub so : P n rows s

known : (P : ℕ → List Row → Position → Type 0) (y : Model) → OnClosed P y → Known P y
known P (drafting n rows) h = absurd h
known P (closed n rows s steps asked) h = record { n = n; rows = rows; s = s; stands = (refl, refl, refl); so = h }

-- Two of one sheet are the same.
one_sheet : (n n' : ℕ) (rows rows' : List Row) (s s' : Position) (y : Model) → Stands n rows s y → Stands n' rows' s' y → (rows' ≡ rows) × (s' ≡ s)
one_sheet n n' rows rows' s s' (drafting a rs) h g = absurd h
one_sheet n n' rows rows' s s' (closed a rs u steps asked) h g = (sym g.1 ∙ h.1, sym g.2 ∙ h.2)

module _ {V C : Type 0} (m : Meaning V) (values : ℕ → List ℕ → ℕ → V) (r : Rules C) where
  -- A search that takes no step moves nothing.
  none_taken : (n : ℕ) (rows : List Row) (k : ℕ) (s : Position) → taken r n rows k s ≡ 0 → advance r n rows k s ≡ s
  none_taken n rows zero s h = refl
  none_taken n rows (suc k) s h = elim (cases_Bool (finished r n s)) [
    | inl e ↦ ap (λ (v : Bool). cond v s (advance r n rows k (step r n rows s))) e
    | inr e ↦ absurd (let z : suc (taken r n rows k (step r n rows s)) ≡ 0 = subst (λ (v : Bool). cond v zero (suc (taken r n rows k (step r n rows s))) ≡ 0) e h in omega (arith, z))
  ]

  -- A call that takes no step and does not reopen leaves a closed sheet as it stands.
  record Stays (n : ℕ) (rows : List Row) (s : Position) (y : Model) : Type 0 where
    steps : ℕ
    asked : ℕ
    is : y ≡ closed n rows s steps asked

  searching : (n : ℕ) (rows : List Row) (s : Position) (steps asked k : ℕ) (a : Answer V C) (o : Option Fault) → a ≡ verdict o (Took (taken r n rows k s)) Refused → steps_of a ≡ 0
      → Stays n rows s (verdict o (closed n rows (advance r n rows k s) (steps + taken r n rows k s) (asked + k)) (λ _. closed n rows s steps asked))
  searching n rows s steps asked k a None e z = record {
    steps = steps + taken r n rows k s;
    asked = asked + k;
    is = ap (λ (u : Position). closed n rows u (steps + taken r n rows k s) (asked + k)) (none_taken n rows k s (sym (ap steps_of e) ∙ z));
  }
  searching n rows s steps asked k a (Some f) e z = record { steps = steps; asked = asked; is = refl }

  stays_next : (n : ℕ) (rows : List Row) (s : Position) (steps asked : ℕ) (c : Call) (a : Answer V C) → AnswersCall m values r (closed n rows s steps asked) c a
      → steps_of a ≡ 0 → reopens c a ≡ false → Stays n rows s (next m r (closed n rows s steps asked) c)
  stays_next n rows s steps asked (Size k) a e z o = record { steps = steps; asked = asked; is = refl }
  stays_next n rows s steps asked (Enter i) a e z o = record { steps = steps; asked = asked; is = refl }
  stays_next n rows s steps asked (Strike i) a e z o = record { steps = steps; asked = asked; is = refl }
  stays_next n rows s steps asked (Reweigh i w) a e z o = record { steps = steps; asked = asked; is = refl }
  stays_next n rows s steps asked (Look i) a e z o = record { steps = steps; asked = asked; is = refl }
  stays_next n rows s steps asked Close a e z o = record { steps = steps; asked = asked; is = refl }
  stays_next n rows s steps asked (Search k) a e z o = searching n rows s steps asked k a (first_fault (search_checks k)) e z
  stays_next n rows s steps asked (Show places) a e z o = record { steps = steps; asked = asked; is = refl }
  stays_next n rows s steps asked (Charge p) a e z o = record { steps = steps; asked = asked; is = refl }
  stays_next n rows s steps asked Reopen a e z o = absurd (both_ways (is_done a) o (ap is_done e))

  -- Of all places before l: no step, no reopening.
  abbrev Quiet : List Call → List (Answer V C) → ℕ → Type 0
  Quiet calls answers l = (k : ℕ) (c : Call) (a : Answer V C) → k < l → At calls k c → At answers k a → (steps_of a ≡ 0) × (reopens c a ≡ false)

  stays : (n : ℕ) (rows : List Row) (s : Position) (steps asked : ℕ) (calls : List Call) (answers : List (Answer V C)) (l : ℕ)
      → AnswersScript m values r (closed n rows s steps asked) calls answers → Quiet calls answers l → Stands n rows s (after m r (closed n rows s steps asked) (take l calls))
  stays n rows s steps asked calls answers zero w q = (refl, refl, refl)
  stays n rows s steps asked [] answers (suc l) w q = (refl, refl, refl)
  stays n rows s steps asked (c ∷ cs) [] (suc l) w q = absurd w
  stays n rows s steps asked (c ∷ cs) (a ∷ bs) (suc l) w q =
      let here = q 0 c a (omega arith) refl refl in
      let one = stays_next n rows s steps asked c a w.0 here.0 here.1 in
      let rest : AnswersScript m values r (closed n rows s one.steps one.asked) cs bs = subst (λ (y : Model). AnswersScript m values r y cs bs) one.is w.1 in
      subst (λ (y : Model). Stands n rows s (after m r y (take l cs))) (sym one.is)
      (stays n rows s one.steps one.asked cs bs l rest (λ k d b lt at_d at_b. q (suc k) d b (omega (arith, lt)) at_d at_b))

  -- From place i to a later place l with none between.
  meets : (x : Model) (calls : List Call) (answers : List (Answer V C)) (i l : ℕ) → i ≤ l → AnswersScript m values r x calls answers
      → ((k : ℕ) (c : Call) (a : Answer V C) → i ≤ k → k < l → At calls k c → At answers k a → (steps_of a ≡ 0) × (reopens c a ≡ false))
      → (n : ℕ) (rows : List Row) (s : Position) → Stands n rows s (after m r x (take i calls)) → Stands n rows s (after m r x (take l calls))
  meets (drafting a rs) calls answers zero l il w q n rows s h = absurd h
  meets (closed a rs u steps asked) calls answers zero l il w q n rows s h =
      let moved = stays a rs u steps asked calls answers l w (λ k c b lt. q k c b (omega arith) lt) in
      rw (sym h.0, sym h.1, sym h.2) moved
  meets x calls answers (suc i) zero il w q n rows s h = absurd (omega (arith, il))
  meets x [] answers (suc i) (suc l) il w q n rows s h = h
  meets x (c ∷ cs) [] (suc i) (suc l) il w q n rows s h = absurd w
  meets x (c ∷ cs) (a ∷ bs) (suc i) (suc l) il w q n rows s h =
      meets (next m r x c) cs bs i l (omega (arith, il)) w.1 (λ k d b lo hi at_d at_b. q (suc k) d b (omega (arith, lo)) (omega (arith, hi)) at_d at_b) n rows s h

  -- What is shown and what is charged is that of a closed sheet.
  pub wrong : (n : ℕ) (rows : List Row) (s : Position) (steps asked : ℕ) (c : Call) (a : Answer V C) → (sort a ≡ 1 → ⊥) → (sort a ≡ sort_for c → ⊥)
      → AnswersCall m values r (closed n rows s steps asked) c a → ⊥
  wrong n rows s steps asked c a refused other e = elim (sorted m values r (closed n rows s steps asked) c a e) [
    | inl h ↦ refused h
    | inr h ↦ other h
  ]

  pub shown_on : (y : Model) (c : Call) (sight : Sight V C) → AnswersCall m values r y c (Shown sight) → OnClosed (λ n rows s. SightOf m values r n rows s sight) y
  shown_on (drafting n rows) c sight e = absurd (let low = sorted m values r (drafting n rows) c (Shown sight) e in omega (arith, low))
  shown_on (closed n rows s steps asked) (Size k) sight e = cc
  shown_on (closed n rows s steps asked) (Enter i) sight e = cc
  shown_on (closed n rows s steps asked) (Strike i) sight e = cc
  shown_on (closed n rows s steps asked) (Reweigh i w) sight e = cc
  shown_on (closed n rows s steps asked) (Look i) sight e = cc
  shown_on (closed n rows s steps asked) Close sight e = cc
  shown_on (closed n rows s steps asked) (Search k) sight e = absurd (wrong n rows s steps asked (Search k) (Shown sight) (λ z. omega (arith, z)) (λ z. omega (arith, z)) e)
  shown_on (closed n rows s steps asked) (Show places) sight e = e.1
  shown_on (closed n rows s steps asked) (Charge p) sight e = absurd (wrong n rows s steps asked (Charge p) (Shown sight) (λ z. omega (arith, z)) (λ z. omega (arith, z)) e)
  shown_on (closed n rows s steps asked) Reopen sight e = cc

  charged_on : (y : Model) (p : ℕ) (c : C) → AnswersCall m values r y (Charge p) (Charged c) → OnClosed (λ n rows s. c ≡ charge r.joining rows (entry s.incumbent) p) y
  charged_on (drafting n rows) p c e = absurd (let low = sorted m values r (drafting n rows) (Charge p) (Charged c) e in omega (arith, low))
  charged_on (closed n rows s steps asked) p c e =
      by_cases (λ (b : Answer V C). Charged c ≡ b → c ≡ charge r.joining rows (entry s.incumbent) p) (charge_checks p)
      (Charged (charge r.joining rows (entry s.incumbent) p)) Refused (λ _ g. cc) (λ f _ g. absurd (let z : ◌≡◌ {A = ℕ} 0 1 = cc in omega arith)) e

  -- A charge told while the sheet stands still is the charge at the show.
  told_charge : (x : Model) (calls : List Call) (answers : List (Answer V C)) → AnswersScript m values r x calls answers
      → (l : ℕ) (n : ℕ) (rows : List Row) (s : Position) → Stands n rows s (after m r x (take l calls))
      → (i p : ℕ) (c : C) → Told calls answers l i p c → c ≡ charge r.joining rows (entry s.incumbent) p
  told_charge x calls answers w l n rows s h i p c t =
      let at_i = made m values r x calls answers w i (Charged c) t.told in
      let fits = rw (at_same calls i at_i.call (Charge p) at_i.stands t.asked) at at_i.fits in
      let k = known (λ n rows s. c ≡ charge r.joining rows (entry s.incumbent) p) (after m r x (take i calls)) (charged_on (after m r x (take i calls)) p c fits) in
      let same : (k.rows ≡ rows) × (k.s ≡ s) = elim (cases_lt i l) [
        | inl lt ↦ one_sheet n k.n rows k.rows s k.s (after m r x (take l calls)) h
            (meets x calls answers i l (omega (arith, lt)) w (λ q d b lo hi. t.still q d b (inl (lo, hi))) k.n k.rows k.s k.stands)
        | inr ge ↦ one_sheet n k.n rows k.rows s k.s (after m r x (take i calls))
            (meets x calls answers l i ge w (λ q d b lo hi. t.still q d b (inr (lo, hi))) n rows s h) k.stands
      ] in
      rw (same.0, same.1) at k.so

  pub charges : Monoid r.joining → (x : Model) (calls : List Call) (answers : List (Answer V C)) → AnswersScript m values r x calls answers
      → ((i n : ℕ) (rows : List Row) (s : Position) → Stands n rows s (after m r x (take i calls)) → Proper n rows) → Charges m r calls answers
  charges monoid x calls answers w proper l sight shown i c told =
      let at_l = made m values r x calls answers w l (Shown sight) shown in
      let k = known (λ n rows s. SightOf m values r n rows s sight) (after m r x (take l calls)) (shown_on (after m r x (take l calls)) at_l.call sight at_l.fits) in
      span_same r.joining c (charge r.joining k.rows (entry k.s.incumbent)) 1 20
      (λ p lo hi. told_charge x calls answers w l k.n k.rows k.s k.stands (i p) p (c p) (told p lo (omega (arith, hi))))
      ∙ sym (span_along r.joining (charge r.joining k.rows (entry k.s.incumbent)) 1 20)
      ∙ charges_join r.joining monoid k.n k.rows (entry k.s.incumbent) (proper l k.n k.rows k.s k.stands)
      ∙ sym k.so.costs.cost_is
