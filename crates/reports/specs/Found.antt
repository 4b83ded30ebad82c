-- What is shown and charged among the answers of a run.
use Rattle.std.specs.Prelude.{ℕ, ◌<◌, List, [], ◌∷◌, Some, None, Option}
use Rattle.std.specs.List.{filter_map}
use Rattle.std.specs.Option.{option_or}
use Rattle.runs.specs.declared.answer.Sight.{Sight}
use Rattle.runs.specs.declared.answer.Answer.{Answer}
use Rattle.runs.specs.declared.answer.Answer.TheVariants.{Shown}
use Rattle.runs.specs.Law.{At}
use Rattle.runs.specs.Told.{sight_in, charge_in}

-- what is shown first
abbrev pub first_sight : {V C : Type 0} → List (Answer V C) → Option (Sight V C)
first_sight [] = None
first_sight (a ∷ bs) = option_or (sight_in a) (first_sight bs)

-- The sight stands at a place among the answers, and nothing is shown before it.
pub record StandsFirst {V C : Type 0} (answers : List (Answer V C)) (sight : Sight V C) : Type 0 where
  pub place : ℕ
  pub here : At answers place (Shown sight)
  pub before : (i : ℕ) (other : Sight V C) → i < place → At answers i (Shown other) → ⊥

-- What is shown first, if anything is shown at any place.
abbrev pub IsFirstSight : {V C : Type 0} → List (Answer V C) → Option (Sight V C) → Type 0
IsFirstSight {V = V} {C = C} answers None = (i : ℕ) (sight : Sight V C) → At answers i (Shown sight) → ⊥
IsFirstSight answers (Some sight) = StandsFirst answers sight

-- the charges, in their order
abbrev pub charges_in : {V C : Type 0} → List (Answer V C) → List C
charges_in answers = filter_map charge_in answers
