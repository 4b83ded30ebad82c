-- Every run keeps the law.
use Rattle.std.proofs.Common.{◌≡◌, ℕ, ◌+◌, ◌-◌, ◌<◌, ◌≤◌, Bool, true, List, get_or, take, Some, None, vec_items, Decides, Option, sym, ap, ◌∙◌, inl, inr, arith}
use Rattle.std.proofs.lemmas.Bool.{cases_Bool, leb-false}
use Rattle.kinds.specs.Meaning.{Meaning, Laws, Fits, Realises, Realisation}
use Rattle.tallies.specs.Joins.{Joining, Monoid, Ranking}
use Rattle.tallies.specs.declared.claim.Claim.{Claim}
use Rattle.rules.specs.declared.row.Row.{Row}
use Rattle.rules.specs.Rows.{Proper}
use Rattle.rules.specs.Properly.{proper}
use Rattle.rules.specs.Steps.{Rules, Position, total, finished, advance, taken}
use Rattle.rules.proofs.Floors.{bound_below}
use Rattle.rules.specs.Soundness.{rules}
use Rattle.rules.proofs.Orders.{in_order}
use Rattle.rules.proofs.Properly.{proper_is}
use Rattle.rules.proofs.Incumbents.{settled}
use Rattle.statements.specs.declared.fault.Fault.{Fault}
use Rattle.statements.specs.Faults.{first_fault}
use Rattle.statements.specs.Searches.{search_checks}
use Rattle.runs.specs.declared.call.Call.{Call}
use Rattle.runs.specs.declared.call.Call.TheVariants.{Size, Enter, Strike, Reweigh, Look, Close, Search, Show, Charge, Reopen}
use Rattle.runs.specs.declared.answer.Sight.{Sight}
use Rattle.runs.specs.declared.answer.Answer.{Answer}
use Rattle.runs.specs.declared.answer.Answer.TheVariants.{Refused, Took, Shown}
use Rattle.runs.specs.Models.{Model, drafting, closed, verdict, next, after}
use Rattle.runs.specs.Answers.{SightOf, AnswersCall, AnswersScript}
use Rattle.runs.specs.Law.{OnClosed, WhileClosed, cursor_at, steps_of, stepped, wanted, SightLaw, Going, Law}
use Rattle.runs.proofs.Verdicts.{sorted}
use Rattle.runs.proofs.Places.{at_same, made, as_long, after_next}
use Rattle.runs.proofs.Kept.{FineSheet, Fine, searches, fine_after}
use Rattle.runs.proofs.Counted.{Counted, counted_after}
use Rattle.runs.proofs.Charged.{Stands, wrong, shown_on, charges}

module _ {V C : Type 0} (m : Meaning V) (laws : Laws m) (fit : ℕ → ℕ → ℕ → Bool) (decides : (c d e : ℕ) → Decides (fit c d e) (Fits m c d e))
    (values : ℕ → List ℕ → ℕ → V) (realises : Realisation m values)
    (j : Joining Claim C) (monoid : Monoid j) (at_most : C → C → Bool) (ranking : Ranking j at_most) where
  abbrev r : Rules C
  r = rules m fit j at_most

  abbrev Good : Model → Type 0
  Good = Fine m laws fit decides values realises j monoid at_most ranking

  abbrev GoodSheet : ℕ → List Row → Position → ℕ → ℕ → Type 0
  GoodSheet = FineSheet m laws fit decides values realises j monoid at_most ranking

  -- Values that agree with some that have a scenario have it too.
  realises_same : (n : ℕ) (a : List ℕ) (x y : ℕ → V) → ((i : ℕ) → i < n → y i ≡ x i) → Realises m n a x → Realises m n a y
  realises_same n a x y same h = record {
    lawful = λ i l. rw (same i l) (h.lawful i l);
    related = λ i k ik kn. rw (same i (omega (arith, ik, kn)), same k kn) (h.related i k ik kn);
  }

  -- A search that was asked for enough steps has finished.
  asked_enough : (n : ℕ) (rows : List Row) (s : Position) (steps asked : ℕ) → GoodSheet n rows s steps asked → total r n - 1 ≤ asked → finished r n s ≡ true
  asked_enough n rows s steps asked h l = elim (cases_Bool (finished r n s)) [
    | inl e ↦ e
    | inr e ↦ absurd (let room = leb-false (total r n) s.cursor e in let paced = h.paced in let all = h.all room in omega (arith, room, paced, all, l))
  ]

  sight_law : (y : Model) (sight : Sight V C) (t k : ℕ) → Good y → Counted y t k → OnClosed (λ n rows s. SightOf m values r n rows s sight) y → OnClosed (SightLaw m r sight k) y
  sight_law (drafting n rows) sight t k h e w = absurd w
  sight_law (closed n rows s steps asked) sight t k h e w = record {
    each = w.each;
    settled = λ other.
        let x : ℕ → V = λ i. get_or (vec_items sight.values) i other in
        let real : Realises m n s.incumbent x =
        realises_same n s.incumbent (values n s.incumbent) x (λ i l. w.written i other l) (realises n s.incumbent h.fine.some h.fine.few h.sound.fitting) in
        rw (w.costs.cost_is, w.costs.finished_is) (settled m laws fit j at_most n rows (proper_is n rows h.fine.sound) s h.sound x real);
    below = λ y law. rw w.costs.floor_is (bound_below m laws fit j monoid at_most ranking n rows (proper_is n rows h.fine.sound) y law);
    ends = λ l. w.costs.finished_is ∙ asked_enough n rows s steps asked h (omega (arith, e.1, l));
  }

  going : (y : Model) (t k : ℕ) → Good y → Counted y t k → WhileClosed (Going m r t k) y
  going (drafting n rows) t k h e = tt
  going (closed n rows s steps asked) t k h e =
      let paced = h.paced in
      let within = h.sound.within in
      record {
        moved = omega (arith, paced, e.0);
        bounded = omega (arith, paced, within, e.0);
        ends = λ l. asked_enough n rows s steps asked h (omega (arith, e.1, l));
        by_script = e.0;
        asked_script = e.1;
      }

  -- What a search answers, and what it does.
  record Moves (n : ℕ) (rows : List Row) (s : Position) (k t : ℕ) (y : Model) : Type 0 where
    on : s.cursor + t ≤ cursor_at y
    most : t ≤ k
    all : t < k → OnClosed (λ n rows s. finished r n s ≡ true) y

  searching : (n : ℕ) (rows : List Row) (s : Position) (steps asked k t : ℕ) → GoodSheet n rows s steps asked → (o : Option Fault) → ◌≡◌ {A = Answer V C} (Took t) (verdict o (Took (taken r n rows k s)) Refused)
      → Moves n rows s k t (verdict o (closed n rows (advance r n rows k s) (steps + taken r n rows k s) (asked + k)) (λ _. closed n rows s steps asked))
  searching n rows s steps asked k t h None e =
      let is : t ≡ taken r n rows k s = ap steps_of e in
      let more = searches m laws fit decides values realises j monoid at_most ranking n rows h.fine k s h.sound in
      let on = more.on in
      let most = more.most in
      record {
        on = omega (arith, is, on);
        most = omega (arith, is, most);
        all = λ l. elim (cases_Bool (finished r n (advance r n rows k s))) [
          | inl f ↦ f
          | inr f ↦ absurd (let all = more.all (leb-false (total r n) (advance r n rows k s).cursor f) in omega (arith, is, all, l))
        ];
      }
  searching n rows s steps asked k t h (Some f) e = absurd (let z : ◌≡◌ {A = ℕ} 0 1 = cc in omega arith)

  full_one : (y : Model) (k t : ℕ) → Good y → AnswersCall m values r y (Search k) (Took t)
      → (cursor_at y + t ≤ cursor_at (next m r y (Search k))) × (t ≤ k) × (t < k → OnClosed (λ n rows s. finished r n s ≡ true) (next m r y (Search k)))
  full_one (drafting n rows) k t h e = absurd (let low = sorted m values r (drafting n rows) (Search k) (Took t) e in omega (arith, low))
  full_one (closed n rows s steps asked) k t h e = let is = searching n rows s steps asked k t h (first_fault (search_checks k)) e in (is.on, is.most, is.all)

  pace_one : (y : Model) (c : Call) (t : ℕ) → Good y → AnswersCall m values r y c (Took t) → cursor_at y + t ≤ cursor_at (next m r y c)
  pace_one (drafting n rows) c t h e = absurd (let low = sorted m values r (drafting n rows) c (Took t) e in omega (arith, low))
  pace_one (closed n rows s steps asked) (Size k) t h e = cc
  pace_one (closed n rows s steps asked) (Enter i) t h e = cc
  pace_one (closed n rows s steps asked) (Strike i) t h e = cc
  pace_one (closed n rows s steps asked) (Reweigh i w) t h e = cc
  pace_one (closed n rows s steps asked) (Look i) t h e = cc
  pace_one (closed n rows s steps asked) Close t h e = cc
  pace_one (closed n rows s steps asked) (Search k) t h e = (full_one (closed n rows s steps asked) k t h e).0
  pace_one (closed n rows s steps asked) (Show places) t h e = absurd e
  pace_one (closed n rows s steps asked) (Charge p) t h e = absurd (wrong m values r n rows s steps asked (Charge p) (Took t) (λ z. omega (arith, z)) (λ z. omega (arith, z)) e)
  pace_one (closed n rows s steps asked) Reopen t h e = cc

  fine_stands : (y : Model) → Good y → (n : ℕ) (rows : List Row) (s : Position) → Stands n rows s y → Proper n rows
  fine_stands (drafting a rs) h n rows s e = absurd e
  fine_stands (closed a rs u steps asked) h n rows s e =
      rw (sym e.0, sym e.1) (proper_is a rs h.fine.sound)

  -- The law of every run from a draft.
  pub run_law : (n : ℕ) (rows : List Row) → 1 ≤ n → n ≤ 12 → proper n rows ≡ true → (calls : List Call) (answers : List (Answer V C))
      → AnswersScript m values r (drafting n rows) calls answers → Law m r (drafting n rows) calls answers
  run_law n rows some few sound calls answers w =
      let x : Model = drafting n rows in
      let fine : (i : ℕ) → Good (after m r (drafting n rows) (take i calls)) =
      λ i. fine_after m laws fit decides values realises j monoid at_most ranking (drafting n rows) calls i (record { some = some; few = few; sound = sound }) in
      let counts : (i : ℕ) → Counted (after m r (drafting n rows) (take i calls)) (stepped i calls answers) (wanted i calls answers) =
      λ i. counted_after m values r (drafting n rows) calls answers i 0 0 w tt in
      record {
        long = as_long m values r x calls answers w;
        shown = λ i sight h.
            let at_i = made m values r (drafting n rows) calls answers w i (Shown sight) h in
            sight_law (after m r x (take i calls)) sight (stepped i calls answers) (wanted i calls answers) (fine i) (counts i)
            (shown_on m values r (after m r x (take i calls)) at_i.call sight at_i.fits);
        charges = charges m values r monoid x calls answers w (λ i. fine_stands (after m r x (take i calls)) (fine i));
        pace = λ i t h.
            let at_i = made m values r (drafting n rows) calls answers w i (Took t) h in
            rw (after_next m values r x calls i at_i.call at_i.stands) (pace_one (after m r x (take i calls)) at_i.call t (fine i) at_i.fits);
        full = λ i k t asks told.
            let at_i = made m values r (drafting n rows) calls answers w i (Took t) told in
            let fits = rw (at_same calls i at_i.call (Search k) at_i.stands asks) at at_i.fits in
            let one = full_one (after m r x (take i calls)) k t (fine i) fits in
            (one.1, λ l. rw (after_next m values r x calls i (Search k) asks) (one.2 l));
        progress = λ i l. going (after m r x (take i calls)) (stepped i calls answers) (wanted i calls answers) (fine i) (counts i);
        order = in_order m.codes;
      }
