-- Which answers the calls of a script are given.
use Rattle.std.specs.Prelude.{◌≡◌, ℕ, ◌+◌, ◌<◌, List, [], ◌∷◌, length, Some, None, vec_items, slice_index_or}
use Rattle.points.specs.Scenarios.{entry}
use Rattle.kinds.specs.Meaning.{Meaning}
use Rattle.rules.specs.declared.row.Row.{Row}
use Rattle.rules.specs.Costs.{charge}
use Rattle.rules.specs.Steps.{Rules, Position, taken}
use Rattle.statements.specs.declared.entry.Entry.{Entry}
use Rattle.statements.specs.Faults.{first_fault}
use Rattle.statements.specs.Drafts.{size_checks, enter_checks, numbered, strike_checks, reweigh_checks, look_checks}
use Rattle.statements.specs.Searches.{search_checks, show_checks, charge_checks}
use Rattle.sheets.specs.Closed.{CostsShown}
use Rattle.runs.specs.declared.call.Call.{Call}
use Rattle.runs.specs.declared.call.Call.TheVariants.{Size, Enter, Strike, Reweigh, Look, Close, Search, Show, Charge, Reopen}
use Rattle.runs.specs.declared.answer.Sight.{Sight}
use Rattle.runs.specs.declared.answer.Answer.{Answer}
use Rattle.runs.specs.declared.answer.Answer.TheVariants.{Unmade, Refused, Done, Entered, Looked, Took, Shown, Charged}
use Rattle.runs.specs.Models.{Model, drafting, closed, by_checks, next}

-- what a row says, as it would be entered: items counted from 1
abbrev pub entry_of : Row → Entry
entry_of r = record { first = r.low + 1; second = r.high + 1; set = r.set; weight = r.weight; person = r.person; sworn = r.sworn }

module _ {V C : Type 0} (m : Meaning V) (values : ℕ → List ℕ → ℕ → V) (r : Rules C) where
  -- What is seen of a closed sheet: the values that its kind gives the items for the incumbent, and what a show tells beside them.
  pub record SightOf (n : ℕ) (rows : List Row) (s : Position) (sight : Sight V C) : Type 0 where
    pub each : length (vec_items sight.values) ≡ n
    pub written : (i : ℕ) (other : V) → i < n → slice_index_or (vec_items sight.values) i other ≡ values n s.incumbent i
    pub costs : CostsShown r n rows s sight.shown

  -- What a show on so many places answers: what is shown, or the refusal of its first check that fails.
  abbrev pub Showing : ℕ → List Row → Position → ℕ → Answer V C → Type 0
  Showing n rows s places (Refused f) = first_fault (show_checks n places) ≡ Some f
  Showing n rows s places (Shown sight) = (first_fault (show_checks n places) ≡ None) × SightOf n rows s sight
  Showing n rows s places a = ⊥

  -- The answer that a call is given. A call that its state does not take is not made.
  abbrev pub AnswersCall : Model → Call → Answer V C → Type 0
  AnswersCall (drafting n rows) (Size k) a = a ≡ by_checks (size_checks k) Done Refused
  AnswersCall (drafting n rows) (Enter e) a = a ≡ by_checks (enter_checks m.codes n rows e) (Entered (length rows + 1)) Refused
  AnswersCall (drafting n rows) (Strike i) a = a ≡ by_checks (strike_checks rows i) Done Refused
  AnswersCall (drafting n rows) (Reweigh i w) a = a ≡ by_checks (reweigh_checks rows i w) Done Refused
  AnswersCall (drafting n rows) (Look i) a = a ≡ by_checks (look_checks rows i) (Looked (entry_of (numbered rows i)) (numbered rows i).struck) Refused
  AnswersCall (drafting n rows) Close a = a ≡ Done
  AnswersCall (closed n rows s steps asked) (Search k) a = a ≡ by_checks (search_checks k) (Took (taken r n rows k s)) Refused
  AnswersCall (closed n rows s steps asked) (Show places) a = Showing n rows s places a
  AnswersCall (closed n rows s steps asked) (Charge p) a = a ≡ by_checks (charge_checks p) (Charged (charge r.joining rows (entry s.incumbent) p)) Refused
  AnswersCall (closed n rows s steps asked) Reopen a = a ≡ Done
  AnswersCall x c a = a ≡ Unmade

  -- The answers of a whole script, from x on.
  abbrev pub AnswersScript : Model → List Call → List (Answer V C) → Type 0
  AnswersScript x [] [] = Unit {0}
  AnswersScript x [] (a ∷ bs) = ⊥
  AnswersScript x (c ∷ cs) [] = ⊥
  AnswersScript x (c ∷ cs) (a ∷ bs) = AnswersCall x c a × AnswersScript (next m r x c) cs bs
