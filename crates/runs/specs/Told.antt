-- What one answer of a run tells.
use Rattle.std.specs.Prelude.{Some, None, Option}
use Rattle.runs.specs.declared.answer.Sight.{Sight}
use Rattle.runs.specs.declared.answer.Answer.{Answer}
use Rattle.runs.specs.declared.answer.Answer.TheVariants.{Shown, Charged}

-- what an answer shows, and what it charges
abbrev pub sight_in : {V C : Type 0} → Answer V C → Option (Sight V C)
sight_in (Shown sight) = Some sight
sight_in a = None

abbrev pub charge_in : {V C : Type 0} → Answer V C → Option C
charge_in (Charged c) = Some c
charge_in a = None
