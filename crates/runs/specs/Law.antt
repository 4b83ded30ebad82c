-- The law over runs: what holds at every place of a run, whatever the script.
use Rattle.std.specs.Prelude.{◌≡◌, ℕ, zero, suc, ◌+◌, ◌-◌, ◌<◌, ◌≤◌, Bool, true, false, cond, ◌⊎◌, List, [], ◌∷◌, length, take, vec_items, slice_index_or}
use Rattle.kinds.specs.Meaning.{Meaning}
use Rattle.tallies.specs.Groups.{span}
use Rattle.rules.specs.declared.row.Row.{Row}
use Rattle.rules.specs.Orders.{InOrder}
use Rattle.rules.specs.Steps.{Rules, Position, total, finished}
use Rattle.rules.specs.Soundness.{Assignment, cost_by, Settled}
use Rattle.runs.specs.declared.call.Call.{Call}
use Rattle.runs.specs.declared.call.Call.TheVariants.{Close, Search, Charge, Reopen}
use Rattle.runs.specs.declared.answer.Sight.{Sight}
use Rattle.runs.specs.declared.answer.Answer.{Answer}
use Rattle.runs.specs.declared.answer.Answer.TheVariants.{Done, Took, Shown, Charged}
use Rattle.runs.specs.Models.{Model, drafting, closed, after}

-- x stands at place i of the list, counted from 0
abbrev pub At : {A : Type 0} → List A → ℕ → A → Type 0
At [] i x = ⊥
At (y ∷ ys) zero x = y ≡ x
At (y ∷ ys) (suc i) x = At ys i x

-- The sheet is closed, and P holds of its items, rows and search.
abbrev pub OnClosed : (ℕ → List Row → Position → Type 0) → Model → Type 0
OnClosed P (drafting n rows) = ⊥
OnClosed P (closed n rows s steps asked) = P n rows s

-- P holds of the search of the sheet, if it is closed, and of the steps taken and asked for.
abbrev pub WhileClosed : (ℕ → Position → ℕ → ℕ → Type 0) → Model → Type 0
WhileClosed P (drafting n rows) = Unit {0}
WhileClosed P (closed n rows s steps asked) = P n s steps asked

-- where the cursor of a closed sheet is
abbrev pub cursor_at : Model → ℕ
cursor_at (drafting n rows) = 0
cursor_at (closed n rows s steps asked) = s.cursor

-- How many steps an answer tells of, and whether it tells that a search was accepted.
abbrev pub steps_of : {V C : Type 0} → Answer V C → ℕ
steps_of (Took t) = t
steps_of a = 0

abbrev pub is_took : {V C : Type 0} → Answer V C → Bool
is_took (Took t) = true
is_took a = false

-- the call was carried out and had nothing to tell
abbrev pub is_done : {V C : Type 0} → Answer V C → Bool
is_done Done = true
is_done a = false

-- How many steps an accepted search asks for.
abbrev pub asks : {V C : Type 0} → Call → Answer V C → ℕ
asks (Search k) a = cond (is_took a) k 0
asks c a = 0

-- Whether a draft was closed, and whether a closed sheet was reopened.
abbrev pub closes : {V C : Type 0} → Call → Answer V C → Bool
closes Close a = is_done a
closes c a = false

abbrev pub reopens : {V C : Type 0} → Call → Answer V C → Bool
reopens Reopen a = is_done a
reopens c a = false

-- The sum of g over the places before i since a draft was last closed, where the sum so far is `sum`; closing a draft sets it to 0.
abbrev pub since : {V C : Type 0} → (Call → Answer V C → ℕ) → ℕ → List Call → List (Answer V C) → ℕ → ℕ
since g zero cs bs sum = sum
since g (suc i) [] bs sum = sum
since g (suc i) (c ∷ cs) [] sum = sum
since g (suc i) (c ∷ cs) (a ∷ bs) sum = since g i cs bs (cond (closes c a) 0 (sum + g c a))

-- The steps answered since closing, and those asked for by accepted searches, before place i.
abbrev pub stepped : {V C : Type 0} → ℕ → List Call → List (Answer V C) → ℕ
stepped i calls answers = since (λ c a. steps_of a) i calls answers 0

abbrev pub wanted : {V C : Type 0} → ℕ → List Call → List (Answer V C) → ℕ
wanted i calls answers = since asks i calls answers 0

-- No step is taken and no sheet is reopened between the places i and l, whichever is first.
abbrev pub Still : {V C : Type 0} → List Call → List (Answer V C) → ℕ → ℕ → Type 0
Still {V = V} {C = C} calls answers i l = (k : ℕ) (c : Call) (a : Answer V C) → ((i ≤ k) × (k < l)) ⊎ ((l ≤ k) × (k < i)) → At calls k c → At answers k a
    → (steps_of a ≡ 0) × (reopens c a ≡ false)

-- At place i the charge of person p is asked for and answered with c, with no step and no reopening between that and place l.
pub record Told {V C : Type 0} (calls : List Call) (answers : List (Answer V C)) (l i p : ℕ) (c : C) : Type 0 where
  pub asked : At calls i (Charge p)
  pub told : At answers i (Charged c)
  pub still : Still calls answers i l

module _ {V C : Type 0} (m : Meaning V) (r : Rules C) where
  -- Of what is shown: the values are lawful, one for each item; the cost is the join of the penalties of exactly the counting statements
  -- that they break; no assignment before the cursor costs less, and none at all if it is finished; and they are the first of that cost.
  pub record SightLaw (sight : Sight V C) (wants : ℕ) (n : ℕ) (rows : List Row) (s : Position) : Type 0 where
    pub each : length (vec_items sight.values) ≡ n
    pub settled : (other : V) → Settled m r n rows s (λ i. slice_index_or (vec_items sight.values) i other) sight.shown.cost sight.shown.finished
    -- The lower bound that is shown is at most the cost of any assignment.
    pub below : (y : ℕ → V) → Assignment m n y → r.at_most sight.shown.floor (cost_by m r.joining rows y) ≡ true
    -- It is shown as finished once the accepted searches have asked for as many steps as there are scenarios after the first.
    pub ends : total r n - 1 ≤ wants → sight.shown.finished ≡ true

  -- The charges of the twenty persons, each told at some place with no step and no reopening between it and the show, join to the cost.
  abbrev pub Charges : List Call → List (Answer V C) → Type 0
  Charges calls answers = (l : ℕ) (sight : Sight V C) → At answers l (Shown sight) → (i : ℕ → ℕ) (c : ℕ → C)
      → ((p : ℕ) → 1 ≤ p → p ≤ 20 → Told calls answers l (i p) p (c p)) → span r.joining c 1 20 ≡ sight.shown.cost

  -- Where a search stands after so many steps answered and asked for: each step has moved the cursor on by one or more, there were fewer
  -- steps than scenarios, and it has finished once one fewer than there are scenarios were asked for. The answers tell `counted` and
  -- `wants`; `steps` and `asked` follow from the script, and are the same.
  pub record Going (counted wants : ℕ) (n : ℕ) (s : Position) (steps asked : ℕ) : Type 0 where
    pub moved : counted + 1 ≤ s.cursor
    pub bounded : counted ≤ total r n - 1
    pub ends : total r n - 1 ≤ wants → finished r n s ≡ true
    pub by_script : counted ≡ steps
    pub asked_script : wants ≡ asked

  -- The law of a run that starts at x, by its calls and answers.
  pub record Law (x : Model) (calls : List Call) (answers : List (Answer V C)) : Type 0 where
    -- Each call has an answer.
    pub long : length answers ≡ length calls
    -- Cost, so far, least: at each accepted show.
    pub shown : (i : ℕ) (sight : Sight V C) → At answers i (Shown sight) → OnClosed (SightLaw sight (wanted i calls answers)) (after m r x (take i calls))
    -- Charges.
    pub charges : Charges calls answers
    -- Progress, at every place: each step answered moves the cursor on by one or more,
    pub pace : (i t : ℕ) → At answers i (Took t) → cursor_at (after m r x (take i calls)) + t ≤ cursor_at (after m r x (take (suc i) calls))
    -- a search takes fewer steps than it is asked for only if it has then finished,
    pub full : (i k t : ℕ) → At calls i (Search k) → At answers i (Took t) → (t ≤ k) × (t < k → OnClosed (λ n rows s. finished r n s ≡ true) (after m r x (take (suc i) calls)))
    -- and the steps since closing are bounded.
    pub progress : (i : ℕ) → i ≤ length calls → WhileClosed (Going (stepped i calls answers) (wanted i calls answers)) (after m r x (take i calls))
    -- Numbers of scenarios keep their dictionary order, so that "before the cursor" is an order of scenarios.
    pub order : InOrder r.codes
