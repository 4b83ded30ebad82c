-- The state of a run as the code has it, and the model that it stands for.
use Rattle.std.specs.Prelude.{◌≡◌, ℕ, List, Ok, Err, Result, vec_items}
use Rattle.kinds.specs.Meaning.{Meaning}
use Rattle.kinds.specs.declared.kind.Kind.{Ghosts as Kinds}
use Rattle.tallies.specs.declared.tally.Tally.{Ghosts as Tallies}
use Rattle.tallies.specs.declared.tally.Joins.{Ghosts as Joinings}
use Rattle.rules.specs.Steps.{Rules}
use Rattle.search.specs.Closed.{rows_of, position_of}
use Rattle.statements.specs.declared.fault.Fault.{Fault}
use Rattle.sheets.specs.declared.held.Draft.{Draft}
use Rattle.sheets.specs.declared.closed.Closed.{Closed}
use Rattle.runs.specs.declared.call.Call.{Call}
use Rattle.runs.specs.declared.answer.Answer.{Answer}
use Rattle.runs.specs.declared.answer.Answer.TheVariants.{Refused}
use Rattle.runs.specs.declared.state.State.{State}
use Rattle.runs.specs.declared.state.State.TheVariants.{Drafting, Closing}
use Rattle.runs.specs.Models.{Model, drafting, closed, next}
use Rattle.runs.specs.Answers.{AnswersCall}

module _ {A B V C : Type 0} {k : Kinds A V} {t : Tallies B C} {j : Joinings B C} where
  -- the model of a draft
  abbrev pub draft_view : Draft A B V C k t j → Model
  draft_view d = drafting d.items (vec_items d.rows)

  -- the model of a closed sheet with the steps taken and asked for since closing, which no code keeps
  abbrev pub closed_view : Closed A B V C k t j → ℕ → ℕ → Model
  closed_view s steps asked = closed s.sheet.items (rows_of s.sheet) (position_of s.sheet) steps asked

  -- The state stands for the model.
  abbrev pub Views : State A B V C k t j → Model → Type 0
  Views (Drafting d) x = x ≡ draft_view d
  Views (Closing s) x = (steps : ℕ) × (asked : ℕ) × (x ≡ closed_view s steps asked)

-- what a call answers, where a refusal says by which fault
abbrev pub told : {V C : Type 0} → Result (Answer V C) Fault → Answer V C
told (Ok a) = a
told (Err f) = Refused f

-- A call is carried out: it leaves a state and an answer as the model has it.
pub record Carries {A B V C : Type 0} {k : Kinds A V} {t : Tallies B C} {j : Joinings B C} (m : Meaning V) (values : ℕ → List ℕ → ℕ → V) (r : Rules C) (x : Model) (c : Call) (state : State A B V C k t j) (a : Answer V C) : Type 0 where
  pub answers : AnswersCall m values r x c a
  pub views : Views state (next m r x c)
