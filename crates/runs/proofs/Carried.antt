-- A call of a closed sheet, or of either state, is carried out as the model has it.
use Rattle.std.proofs.Common.{◌≡◌, ℕ, ◌+◌, ◌<◌, ◌≤◌, Bool, length, take, get_or, List, [], ◌∷◌, ◌++◌, Ok, Err, Result, None, Some, IfOk, refl, ap}
use Rattle.std.proofs.lemmas.List.{take_more, take_all}
use Rattle.kinds.specs.Meaning.{Meaning}
use Rattle.kinds.specs.declared.kind.Kind.{Ghosts as Kinds}
use Rattle.tallies.specs.Joins.{Joining}
use Rattle.tallies.specs.declared.claim.Claim.{Claim}
use Rattle.tallies.specs.declared.tally.Tally.{Ghosts as Tallies}
use Rattle.tallies.specs.declared.tally.Joins.{Ghosts as Joinings}
use Rattle.rules.specs.Steps.{Rules, taken}
use Rattle.rules.specs.Soundness.{rules}
use Rattle.search.specs.Closed.{rows_of, position_of}
use Rattle.statements.specs.declared.fault.Fault.{Fault}
use Rattle.statements.specs.Faults.{first_fault}
use Rattle.statements.specs.Searches.{search_checks}
use Rattle.sheets.specs.declared.closed.Closed.{Closed}
use Rattle.sheets.specs.Closed.{Searched}
use Rattle.runs.specs.declared.call.Call.{Call}
use Rattle.runs.specs.declared.call.Call.TheVariants.{Search, Show}
use Rattle.runs.specs.declared.answer.Answer.{Answer}
use Rattle.runs.specs.declared.answer.Answer.TheVariants.{Refused, Took}
use Rattle.runs.specs.declared.state.State.{State}
use Rattle.runs.specs.declared.state.State.TheVariants.{Closing}
use Rattle.runs.specs.Models.{Model, next, after}
use Rattle.runs.specs.Answers.{Showing, AnswersCall, AnswersScript}
use Rattle.runs.specs.States.{closed_view, Views, Carries}

module _ {A B V C : Type 0} {k : Kinds A V} {t : Tallies B C} {g : Joinings B C} (m : Meaning V) (fit : ℕ → ℕ → ℕ → Bool) (values : ℕ → List ℕ → ℕ → V)
    (j : Joining Claim C) (at_most : C → C → Bool) where
  pub carried_search : (s s' : Closed A B V C k t g) (steps took : ℕ) → first_fault (search_checks steps) ≡ None
      → Searched (rules m fit j at_most) s.sheet s'.sheet steps took → (so_far asked : ℕ) → Carries {k = k} {t = t} {j = g} m values (rules m fit j at_most) (closed_view s so_far asked) (Search steps) (Closing s') (Took took)
  carried_search s s' steps took pass found so_far asked =
      let further : ℕ = taken (rules m fit j at_most) s.sheet.items (rows_of s.sheet) steps (position_of s.sheet) in
      let items = found.parts.same_items in
      let rows = found.parts.same_rows in
      let moved = found.moved in
      let count = found.count in
      record { answers = rw pass (ap Took count); views = (so_far + further, asked + steps, rw pass cc) }

  -- a refused search
  pub refused_search : (s s' : Closed A B V C k t g) (steps : ℕ) (f : Fault) → first_fault (search_checks steps) ≡ Some f → s' ≡ s
      → (so_far asked : ℕ) → Carries {k = k} {t = t} {j = g} m values (rules m fit j at_most) (closed_view s so_far asked) (Search steps) (Closing s') (Refused f)
  refused_search s s' steps f fail same so_far asked = record { answers = rw fail refl; views = (so_far, asked, rw fail cc) }

  pub carried_show : (s : Closed A B V C k t g) (places : ℕ) (a : Answer V C)
      → Showing m values (rules m fit j at_most) s.sheet.items (rows_of s.sheet) (position_of s.sheet) places a → (so_far asked : ℕ) → Carries {k = k} {t = t} {j = g} m values (rules m fit j at_most) (closed_view s so_far asked) (Show places) (Closing s) a
  carried_show s places a shows so_far asked = record { answers = shows; views = (so_far, asked, refl) }

  -- Of a closed sheet any model that it stands for will do.
  pub any_view : (s : Closed A B V C k t g) (c : Call) (state : State A B V C k t g) (a : Answer V C)
      → ((steps asked : ℕ) → Carries {k = k} {t = t} {j = g} m values (rules m fit j at_most) (closed_view s steps asked) c state a)
      → (x : Model) → Views {k = k} {t = t} {j = g} (Closing s) x → Carries {k = k} {t = t} {j = g} m values (rules m fit j at_most) x c state a
  any_view s c state a h x v = rw v.2 (h v.0 v.1)

  pub any_result : {E : Type 0} (s : Closed A B V C k t g) (c : Call) (u : Result (State A B V C k t g × Answer V C) E)
      → IfOk u (λ p. (steps asked : ℕ) → Carries m values (rules m fit j at_most) (closed_view s steps asked) c p.0 p.1)
      → IfOk u (λ p. (x : Model) → Views {k = k} {t = t} {j = g} (Closing s) x → Carries m values (rules m fit j at_most) x c p.0 p.1)
  any_result s c (Ok p) h = any_view s c p.0 p.1 h
  any_result s c (Err e) h = tt

module _ {V C : Type 0} (m : Meaning V) (values : ℕ → List ℕ → ℕ → V) (r : Rules C) where
  -- One more call and its answer at the end of a script.
  pub answers_push : (x : Model) (calls : List Call) (answers : List (Answer V C)) (c : Call) (a : Answer V C)
      → AnswersScript m values r x calls answers → AnswersCall m values r (after m r x calls) c a
      → AnswersScript m values r x (calls ++ (c ∷ [])) (answers ++ (a ∷ []))
  answers_push x [] [] c a w h = (h, tt)
  answers_push x [] (b ∷ bs) c a w h = absurd w
  answers_push x (d ∷ ds) [] c a w h = absurd w
  answers_push x (d ∷ ds) (b ∷ bs) c a w h = (w.0, answers_push (next m r x d) ds bs c a w.1 h)

  pub after_push : (x : Model) (calls : List Call) (c : Call) → after m r x (calls ++ (c ∷ [])) ≡ next m r (after m r x calls) c
  after_push x [] c = refl
  after_push x (d ∷ ds) c = after_push (next m r x d) ds c

-- What a run keeps: after the calls so far the state stands for the model, and their answers are those of these calls.
pub record Reaches {A B V C : Type 0} {k : Kinds A V} {t : Tallies B C} {j : Joinings B C} (m : Meaning V) (values : ℕ → List ℕ → ℕ → V) (r : Rules C)
    (x : Model) (calls : List Call) (answers : List (Answer V C)) (state : State A B V C k t j) : Type 0 where
  pub views : Views state (after m r x calls)
  pub answered : AnswersScript m values r x calls answers

-- One more call is carried out.
pub reaches_more : {A B V C : Type 0} {k : Kinds A V} {t : Tallies B C} {j : Joinings B C} (m : Meaning V) (values : ℕ → List ℕ → ℕ → V) (r : Rules C)
    (x : Model) (script : List Call) (i : ℕ) (d : Call) (answers answers' : List (Answer V C)) (a : Answer V C) (state state' : State A B V C k t j)
    → i < length script → Reaches m values r x (take i script) answers state
    → ((y : Model) → Views state y → Carries m values r y (get_or script i d) state' a)
    → answers' ≡ answers ++ (a ∷ [])
    → Reaches m values r x (take (i + 1) script) answers' state'
reaches_more m values r x script i d answers answers' a state state' l so_far one e =
    let more = take_more script i d l in
    let carries = one (after m r x (take i script)) so_far.views in
    record {
      views = rw (more, after_push m values r x (take i script) (get_or script i d)) carries.views;
      answered = rw (more, e) (answers_push m values r x (take i script) answers (get_or script i d) a so_far.answered carries.answers);
    }

-- At the end of the script.
pub reached_end : {A B V C : Type 0} {k : Kinds A V} {t : Tallies B C} {j : Joinings B C} (m : Meaning V) (values : ℕ → List ℕ → ℕ → V) (r : Rules C)
    (x : Model) (script : List Call) (i : ℕ) (answers : List (Answer V C)) (state : State A B V C k t j) → length script ≤ i
    → Reaches m values r x (take i script) answers state → AnswersScript m values r x script answers
reached_end m values r x script i answers state l h = rw (take_all i script l) at h.answered
