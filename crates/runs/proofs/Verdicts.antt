-- Answers and models that depend on whether all checks pass; and which sort of answer a call can be given.
use Rattle.std.proofs.Common.{◌≡◌, ℕ, ◌<◌, ◌⊎◌, List, [], ◌∷◌, ◌++◌, Some, None, Option, sym, refl, ap, ◌∙◌, subst, inl, inr, arith}
use Rattle.std.proofs.lemmas.Bool.{cases_Bool, cond-true, cond-false}
use Rattle.kinds.specs.Meaning.{Meaning}
use Rattle.rules.specs.declared.row.Row.{Row}
use Rattle.rules.specs.Steps.{Rules, Position}
use Rattle.statements.specs.declared.fault.Fault.{Fault}
use Rattle.statements.specs.Faults.{Check, first_fault}
use Rattle.statements.specs.Drafts.{size_checks, enter_checks, strike_checks, reweigh_checks, look_checks}
use Rattle.statements.specs.Searches.{search_checks, charge_checks}
use Rattle.runs.specs.declared.call.Call.{Call}
use Rattle.runs.specs.declared.call.Call.TheVariants.{Size, Enter, Strike, Reweigh, Look, Close, Search, Show, Charge, Reopen}
use Rattle.runs.specs.declared.answer.Answer.{Answer}
use Rattle.runs.specs.declared.answer.Answer.TheVariants.{Unmade, Refused, Done, Entered, Looked, Took, Shown, Charged}
use Rattle.runs.specs.Models.{Model, drafting, closed, verdict, by_checks}
use Rattle.runs.specs.Answers.{Showing, AnswersCall}
use Rattle.runs.specs.Law.{steps_of}

-- What holds where all checks pass, and of each refusal, holds of the verdict.
pub by_cases : {A : Type 0} (P : A → Type 0) (cs : List Check) (good : A) (bad : Fault → A)
    → (first_fault cs ≡ None → P good) → ((f : Fault) → first_fault cs ≡ Some f → P (bad f)) → P (by_checks cs good bad)
by_cases {A = A} P cs good bad pass fail = go (first_fault cs) refl
  where
    go : (o : Option Fault) → first_fault cs ≡ o → P (verdict o good bad)
    go None e = pass e
    go (Some f) e = fail f e

-- Where no check of a list is the first to fail, none of its beginning is.
pub first_part : (cs ds : List Check) → first_fault (cs ++ ds) ≡ None → first_fault cs ≡ None
first_part [] ds h = refl
first_part (c ∷ cs) ds h = elim (cases_Bool c.0) [
  | inl t ↦ cond-true c.0 (first_fault cs) (Some c.1) t ∙ first_part cs ds (sym (cond-true c.0 (first_fault (cs ++ ds)) (Some c.1) t) ∙ h)
  | inr f ↦ absurd (failed (sym (cond-false c.0 (first_fault (cs ++ ds)) (Some c.1) f) ∙ h))
]
  where
    failed : Some c.1 ≡ None → ⊥
    failed e = let z : ◌≡◌ {A = ℕ} 0 1 = cc in omega arith

-- The sort of an answer, and the sort that a call of a closed sheet is given if it is not refused.
abbrev pub sort : {V C : Type 0} → Answer V C → ℕ
sort Unmade = 0
sort (Refused f) = 1
sort Done = 2
sort (Entered i) = 3
sort (Looked e b) = 4
sort (Took t) = 5
sort (Shown sight) = 6
sort (Charged c) = 7

abbrev pub sort_for : Call → ℕ
sort_for (Size k) = 0
sort_for (Enter e) = 0
sort_for (Strike i) = 0
sort_for (Reweigh i w) = 0
sort_for (Look i) = 0
sort_for Close = 0
sort_for (Search k) = 5
sort_for (Show places) = 6
sort_for (Charge p) = 7
sort_for Reopen = 2

-- A draft answers no steps, no show and no charge; a closed sheet answers a call with a refusal, or with what it is for.
abbrev pub Sorted : {V C : Type 0} → Model → Call → Answer V C → Type 0
Sorted (drafting n rows) c a = sort a < 5
Sorted (closed n rows s steps asked) c a = (sort a ≡ 1) ⊎ (sort a ≡ sort_for c)

-- An answer of another sort than a search's tells of no steps.
pub steps_none : {V C : Type 0} (a : Answer V C) → (sort a ≡ 5 → ⊥) → steps_of a ≡ 0
steps_none Unmade h = refl
steps_none (Refused f) h = refl
steps_none Done h = refl
steps_none (Entered i) h = refl
steps_none (Looked e b) h = refl
steps_none (Took t) h = absurd (h refl)
steps_none (Shown sight) h = refl
steps_none (Charged c) h = refl

module _ {V C : Type 0} (m : Meaning V) (values : ℕ → List ℕ → ℕ → V) (r : Rules C) where
  -- An answer by checks is of the sort of the good answer, or a refusal.
  of_sort : (cs : List Check) (a good : Answer V C) → a ≡ by_checks cs good Refused → (sort a ≡ 1) ⊎ (sort a ≡ sort good)
  of_sort cs a good e = subst (λ (b : Answer V C). (sort b ≡ 1) ⊎ (sort b ≡ sort good)) (sym e)
      (by_cases (λ (b : Answer V C). (sort b ≡ 1) ⊎ (sort b ≡ sort good)) cs good Refused (λ _. inr refl) (λ f _. inl refl))

  low_sort : (cs : List Check) (a good : Answer V C) → sort good < 5 → a ≡ by_checks cs good Refused → sort a < 5
  low_sort cs a good l e = elim (of_sort cs a good e) [
    | inl h ↦ omega (arith, h)
    | inr h ↦ omega (arith, h, l)
  ]

  showing_sort : (n : ℕ) (rows : List Row) (s : Position) (places : ℕ) (a : Answer V C) → Showing m values r n rows s places a → (sort a ≡ 1) ⊎ (sort a ≡ 6)
  showing_sort n rows s places Unmade w = absurd w
  showing_sort n rows s places (Refused f) w = inl refl
  showing_sort n rows s places Done w = absurd w
  showing_sort n rows s places (Entered i) w = absurd w
  showing_sort n rows s places (Looked e b) w = absurd w
  showing_sort n rows s places (Took t) w = absurd w
  showing_sort n rows s places (Shown sight) w = inr refl
  showing_sort n rows s places (Charged c) w = absurd w

  pub sorted : (x : Model) (c : Call) (a : Answer V C) → AnswersCall m values r x c a → Sorted x c a
  sorted (drafting n rows) (Size k) a e = low_sort (size_checks k) a Done (omega arith) e
  sorted (drafting n rows) (Enter i) a e = low_sort (enter_checks m.codes n rows i) a _ (omega arith) e
  sorted (drafting n rows) (Strike i) a e = low_sort (strike_checks rows i) a Done (omega arith) e
  sorted (drafting n rows) (Reweigh i w) a e = low_sort (reweigh_checks rows i w) a Done (omega arith) e
  sorted (drafting n rows) (Look i) a e = low_sort (look_checks rows i) a _ (omega arith) e
  sorted (drafting n rows) Close a e = omega (arith, ap sort e)
  sorted (drafting n rows) (Search k) a e = omega (arith, ap sort e)
  sorted (drafting n rows) (Show places) a e = omega (arith, ap sort e)
  sorted (drafting n rows) (Charge p) a e = omega (arith, ap sort e)
  sorted (drafting n rows) Reopen a e = omega (arith, ap sort e)
  sorted (closed n rows s steps asked) (Size k) a e = inr (ap sort e)
  sorted (closed n rows s steps asked) (Enter i) a e = inr (ap sort e)
  sorted (closed n rows s steps asked) (Strike i) a e = inr (ap sort e)
  sorted (closed n rows s steps asked) (Reweigh i w) a e = inr (ap sort e)
  sorted (closed n rows s steps asked) (Look i) a e = inr (ap sort e)
  sorted (closed n rows s steps asked) Close a e = inr (ap sort e)
  sorted (closed n rows s steps asked) (Search k) a e = of_sort (search_checks k) a _ e
  sorted (closed n rows s steps asked) (Show places) a e = showing_sort n rows s places a e
  sorted (closed n rows s steps asked) (Charge p) a e = of_sort (charge_checks p) a _ e
  sorted (closed n rows s steps asked) Reopen a e = inr (ap sort e)

  -- A closed sheet answers a call that is no search with no steps.
  pub no_steps : (n : ℕ) (rows : List Row) (s : Position) (steps asked : ℕ) (c : Call) (a : Answer V C) → (sort_for c ≡ 5 → ⊥)
      → AnswersCall m values r (closed n rows s steps asked) c a → steps_of a ≡ 0
  no_steps n rows s steps asked c a other e = steps_none a (λ five. elim (sorted (closed n rows s steps asked) c a e) [
    | inl h ↦ omega (arith, h, five)
    | inr h ↦ other (sym h ∙ five)
  ])
