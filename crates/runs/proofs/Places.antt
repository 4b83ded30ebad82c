-- Places of a run: the model there, the call and its answer.
use Rattle.std.proofs.Common.{◌≡◌, ℕ, zero, suc, List, [], ◌∷◌, length, take, sym, refl, ap, ◌∙◌, subst}
use Rattle.kinds.specs.Meaning.{Meaning}
use Rattle.rules.specs.Steps.{Rules}
use Rattle.runs.specs.declared.call.Call.{Call}
use Rattle.runs.specs.declared.answer.Answer.{Answer}
use Rattle.runs.specs.Models.{Model, next, after}
use Rattle.runs.specs.Answers.{AnswersCall, AnswersScript}
use Rattle.runs.specs.Law.{At}

-- Two that stand at one place are one.
pub at_same : {A : Type 0} (xs : List A) (i : ℕ) (x y : A) → At xs i x → At xs i y → x ≡ y
at_same [] i x y h g = absurd h
at_same (z ∷ zs) zero x y h g = sym h ∙ g
at_same (z ∷ zs) (suc i) x y h g = at_same zs i x y h g

module _ {V C : Type 0} (m : Meaning V) (values : ℕ → List ℕ → ℕ → V) (r : Rules C) where
  -- The call at a place whose answer is known, and that it answers so.
  pub record Made (x : Model) (calls : List Call) (i : ℕ) (a : Answer V C) : Type 0 where
    pub call : Call
    pub stands : At calls i call
    pub fits : AnswersCall m values r (after m r x (take i calls)) call a

  pub made : (x : Model) (calls : List Call) (answers : List (Answer V C)) → AnswersScript m values r x calls answers → (i : ℕ) (a : Answer V C) → At answers i a → Made x calls i a
  made x [] [] w i a h = absurd h
  made x [] (b ∷ bs) w i a h = absurd w
  made x (c ∷ cs) [] w i a h = absurd h
  made x (c ∷ cs) (b ∷ bs) w zero a h = record { call = c; stands = refl; fits = subst (λ (z : Answer V C). AnswersCall m values r x c z) h w.0 }
  made x (c ∷ cs) (b ∷ bs) w (suc i) a h = let rest = made (next m r x c) cs bs w.1 i a h in record { call = rest.call; stands = rest.stands; fits = rest.fits }

  -- There are as many answers as calls.
  pub as_long : (x : Model) (calls : List Call) (answers : List (Answer V C)) → AnswersScript m values r x calls answers → length answers ≡ length calls
  as_long x [] [] w = refl
  as_long x [] (b ∷ bs) w = absurd w
  as_long x (c ∷ cs) [] w = absurd w
  as_long x (c ∷ cs) (b ∷ bs) w = ap suc (as_long (next m r x c) cs bs w.1)

  -- The model after one place more.
  pub after_next : (x : Model) (calls : List Call) (i : ℕ) (c : Call) → At calls i c → after m r x (take (suc i) calls) ≡ next m r (after m r x (take i calls)) c
  after_next x [] i c h = absurd h
  after_next x (d ∷ cs) zero c h = ap (next m r x) h
  after_next x (d ∷ cs) (suc i) c h = after_next (next m r x d) cs i c h
