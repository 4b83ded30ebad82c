-- The steps answered and asked for since closing are those that follow from the script.
use Rattle.std.proofs.Common.{◌≡◌, ℕ, zero, suc, ◌+◌, ◌-◌, Bool, true, false, cond, List, [], ◌∷◌, ◌++◌, take, set, Some, None, Option, ap, ◌∙◌, arith}
use Rattle.kinds.specs.Meaning.{Meaning}
use Rattle.rules.specs.declared.row.Row.{Row}
use Rattle.rules.specs.Rows.{with_struck, with_weight}
use Rattle.rules.specs.Steps.{Rules, Position, advance, taken}
use Rattle.statements.specs.declared.fault.Fault.{Fault}
use Rattle.statements.specs.Faults.{first_fault}
use Rattle.statements.specs.Drafts.{size_checks, enter_checks, row_of, numbered, strike_checks, reweigh_checks}
use Rattle.statements.specs.Searches.{search_checks}
use Rattle.runs.specs.declared.call.Call.{Call}
use Rattle.runs.specs.declared.call.Call.TheVariants.{Size, Enter, Strike, Reweigh, Look, Close, Search, Show, Charge, Reopen}
use Rattle.runs.specs.declared.answer.Answer.{Answer}
use Rattle.runs.specs.declared.answer.Answer.TheVariants.{Refused, Took}
use Rattle.runs.specs.Models.{Model, drafting, closed, verdict, next, after}
use Rattle.runs.specs.Answers.{AnswersCall, AnswersScript}
use Rattle.runs.specs.Law.{steps_of, is_took, is_done, asks, closes, since}
use Rattle.runs.proofs.Verdicts.{by_cases, no_steps}

-- The counts t and k are those of the model, if the sheet is closed.
abbrev pub Counted : Model → ℕ → ℕ → Type 0
Counted (drafting n rows) t k = Unit {0}
Counted (closed n rows s steps asked) t k = (t ≡ steps) × (k ≡ asked)

module _ {V C : Type 0} (m : Meaning V) (values : ℕ → List ℕ → ℕ → V) (r : Rules C) where
  -- An answer that tells of no steps leaves the counts.
  left_alone : (n : ℕ) (rows : List Row) (s : Position) (steps asked t k : ℕ) (a : Answer V C) → steps_of a ≡ 0 → Counted (closed n rows s steps asked) t k
      → Counted (closed n rows s steps asked) (t + steps_of a) (k + 0)
  left_alone n rows s steps asked t k a none h = (omega (arith, none, h.0), omega (arith, h.1))

  searching : (n : ℕ) (rows : List Row) (s : Position) (steps asked t k j : ℕ) (a : Answer V C) (o : Option Fault) → a ≡ verdict o (Took (taken r n rows j s)) Refused
      → Counted (closed n rows s steps asked) t k
      → Counted (verdict o (closed n rows (advance r n rows j s) (steps + taken r n rows j s) (asked + j)) (λ _. closed n rows s steps asked)) (t + steps_of a) (k + cond (is_took a) j 0)
  searching n rows s steps asked t k j a None e h =
      let took : steps_of a ≡ taken r n rows j s = ap steps_of e in
      let was : cond (is_took a) j 0 ≡ j = ap (λ (b : Answer V C). cond (is_took b) j 0) e in
      (omega (arith, took, h.0), omega (arith, was, h.1))
  searching n rows s steps asked t k j a (Some f) e h =
      let took : steps_of a ≡ 0 = ap steps_of e in
      let was : cond (is_took a) j 0 ≡ 0 = ap (λ (b : Answer V C). cond (is_took b) j 0) e in
      (omega (arith, took, h.0), omega (arith, was, h.1))

  counted_next : (x : Model) (c : Call) (a : Answer V C) (t k : ℕ) → AnswersCall m values r x c a → Counted x t k
      → Counted (next m r x c) (cond (closes c a) 0 (t + steps_of a)) (cond (closes c a) 0 (k + asks c a))
  counted_next (drafting n rows) (Size i) a t k e h =
      by_cases (λ (x : Model). Counted x (t + steps_of a) (k + 0)) (size_checks i) (drafting i []) (λ _. drafting n rows) (λ _. tt) (λ f _. tt)
  counted_next (drafting n rows) (Enter i) a t k e h =
      by_cases (λ (x : Model). Counted x (t + steps_of a) (k + 0)) (enter_checks m.codes n rows i) (drafting n (rows ++ (row_of m.converse m.codes i ∷ []))) (λ _. drafting n rows) (λ _. tt) (λ f _. tt)
  counted_next (drafting n rows) (Strike i) a t k e h =
      by_cases (λ (x : Model). Counted x (t + steps_of a) (k + 0)) (strike_checks rows i) (drafting n (set rows (i - 1) (with_struck (numbered rows i)))) (λ _. drafting n rows) (λ _. tt) (λ f _. tt)
  counted_next (drafting n rows) (Reweigh i w) a t k e h =
      by_cases (λ (x : Model). Counted x (t + steps_of a) (k + 0)) (reweigh_checks rows i w) (drafting n (set rows (i - 1) (with_weight (numbered rows i) w))) (λ _. drafting n rows) (λ _. tt) (λ f _. tt)
  counted_next (drafting n rows) (Look i) a t k e h = tt
  counted_next (drafting n rows) Close a t k e h =
      let done : is_done a ≡ true = ap is_done e in
      (ap (λ (v : Bool). cond v 0 (t + steps_of a)) done, ap (λ (v : Bool). cond v 0 (k + 0)) done)
  counted_next (drafting n rows) (Search i) a t k e h = tt
  counted_next (drafting n rows) (Show places) a t k e h = tt
  counted_next (drafting n rows) (Charge p) a t k e h = tt
  counted_next (drafting n rows) Reopen a t k e h = tt
  counted_next (closed n rows s steps asked) (Size i) a t k e h = left_alone n rows s steps asked t k a (ap steps_of e) h
  counted_next (closed n rows s steps asked) (Enter i) a t k e h = left_alone n rows s steps asked t k a (ap steps_of e) h
  counted_next (closed n rows s steps asked) (Strike i) a t k e h = left_alone n rows s steps asked t k a (ap steps_of e) h
  counted_next (closed n rows s steps asked) (Reweigh i w) a t k e h = left_alone n rows s steps asked t k a (ap steps_of e) h
  counted_next (closed n rows s steps asked) (Look i) a t k e h = left_alone n rows s steps asked t k a (ap steps_of e) h
  counted_next (closed n rows s steps asked) Close a t k e h =
      let not_so : is_done a ≡ false = ap is_done e in
      let same = left_alone n rows s steps asked t k a (ap steps_of e) h in
      (ap (λ (v : Bool). cond v 0 (t + steps_of a)) not_so ∙ same.0, ap (λ (v : Bool). cond v 0 (k + 0)) not_so ∙ same.1)
  counted_next (closed n rows s steps asked) (Search i) a t k e h = searching n rows s steps asked t k i a (first_fault (search_checks i)) e h
  counted_next (closed n rows s steps asked) (Show places) a t k e h =
      left_alone n rows s steps asked t k a (no_steps m values r n rows s steps asked (Show places) a (λ z. omega (arith, z)) e) h
  counted_next (closed n rows s steps asked) (Charge p) a t k e h =
      left_alone n rows s steps asked t k a (no_steps m values r n rows s steps asked (Charge p) a (λ z. omega (arith, z)) e) h
  counted_next (closed n rows s steps asked) Reopen a t k e h = tt

  -- At every place.
  pub counted_after : (x : Model) (calls : List Call) (answers : List (Answer V C)) (i t k : ℕ) → AnswersScript m values r x calls answers → Counted x t k
      → Counted (after m r x (take i calls)) (since (λ c a. steps_of a) i calls answers t) (since asks i calls answers k)
  counted_after x calls answers zero t k w h = h
  counted_after x [] answers (suc i) t k w h = h
  counted_after x (c ∷ cs) [] (suc i) t k w h = absurd w
  counted_after x (c ∷ cs) (a ∷ bs) (suc i) t k w h =
      counted_after (next m r x c) cs bs i (cond (closes c a) 0 (t + steps_of a)) (cond (closes c a) 0 (k + asks c a)) w.1 (counted_next x c a t k w.0 h)
