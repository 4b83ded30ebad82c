-- What is shown first stands at a place before which nothing is shown.
use Rattle.std.proofs.Common.{◌≡◌, ℕ, zero, suc, ◌<◌, List, [], ◌∷◌, Some, None, Option, refl, subst, sym, arith}
use Rattle.runs.specs.declared.answer.Sight.{Sight}
use Rattle.runs.specs.declared.answer.Answer.{Answer}
use Rattle.runs.specs.declared.answer.Answer.TheVariants.{Unmade, Refused, Done, Entered, Looked, Took, Shown, Charged}
use Rattle.runs.specs.Law.{At}
use Rattle.reports.specs.Found.{first_sight, IsFirstSight}

module _ {V C : Type 0} (a : Answer V C) (bs : List (Answer V C)) (other : (s : Sight V C) → a ≡ Shown s → ⊥) where
  none_later : ((i : ℕ) (s : Sight V C) → At bs i (Shown s) → ⊥) → (i : ℕ) (s : Sight V C) → At (a ∷ bs) i (Shown s) → ⊥
  none_later h zero s e = other s e
  none_later h (suc i) s e = h i s e

  none_before : (p : ℕ) → ((i : ℕ) (s : Sight V C) → i < p → At bs i (Shown s) → ⊥) → (i : ℕ) (s : Sight V C) → i < suc p → At (a ∷ bs) i (Shown s) → ⊥
  none_before p h zero s l e = other s e
  none_before p h (suc i) s l e = h i s (omega arith) e

  -- An answer that shows nothing is passed over.
  later : (o : Option (Sight V C)) → IsFirstSight bs o → IsFirstSight (a ∷ bs) o
  later None h = none_later h
  later (Some s) h = record { place = suc h.place; here = h.here; before = none_before h.place h.before }

pub stands_first : {V C : Type 0} (answers : List (Answer V C)) → IsFirstSight answers (first_sight answers)
stands_first [] = λ i s h. absurd h
stands_first (Unmade ∷ bs) = later Unmade bs (λ s e. cc) (first_sight bs) (stands_first bs)
stands_first (Refused f ∷ bs) = later (Refused f) bs (λ s e. cc) (first_sight bs) (stands_first bs)
stands_first (Done ∷ bs) = later Done bs (λ s e. cc) (first_sight bs) (stands_first bs)
stands_first (Entered n ∷ bs) = later (Entered n) bs (λ s e. cc) (first_sight bs) (stands_first bs)
stands_first (Looked e b ∷ bs) = later (Looked e b) bs (λ s h. cc) (first_sight bs) (stands_first bs)
stands_first (Took t ∷ bs) = later (Took t) bs (λ s e. cc) (first_sight bs) (stands_first bs)
stands_first (Shown sight ∷ bs) = record { place = 0; here = refl; before = λ i s l h. absurd (omega arith) }
stands_first (Charged c ∷ bs) = later (Charged c) bs (λ s e. cc) (first_sight bs) (stands_first bs)

-- So does what equals it.
pub stands_as : {V C : Type 0} (answers : List (Answer V C)) (o : Option (Sight V C)) → o ≡ first_sight answers → IsFirstSight answers o
stands_as answers o e = subst (IsFirstSight answers) (sym e) (stands_first answers)
