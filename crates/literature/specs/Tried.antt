-- Laws as they are tried, relation by relation, and what is printed of them.
use Rattle.std.specs.Prelude.{◌≡◌, ℕ, zero, suc, ◌+◌, Bool, cond, Decides, List, [], ◌∷◌, ◌++◌, codes, length, map, if◌then◌else◌, nat_lt, slice_index_or}
use Rattle.std.specs.List.{flat_map}
use Rattle.kinds.specs.Meaning.{Meaning}
use Rattle.literature.specs.Laws.{LawHolds, speaks_of}
use Rattle.literature.specs.Printed.{score_text, word_of}
use Rattle.literature.specs.Scores.{capped, failed}
use Rattle.literature.specs.declared.laws.AlgebraLaw.{AlgebraLaw}
use Rattle.literature.specs.declared.laws.AlgebraLaw.TheVariants.{LeftIdentity, RightIdentity, ConverseOfConverse, ConverseOfComposition, Associativity, Cycle}

-- A law tried of three base relations: the three, and whether it holds of them.
pub record Trial : Type 0 where
  pub first : ℕ
  pub second : ℕ
  pub third : ℕ
  pub holds : Bool

-- which of the trials hold
abbrev pub holding : List Trial → List Bool
holding trials = map (λ trial. trial.holds) trials

-- how many fail, as a program counts them
abbrev pub failing : List Trial → ℕ
failing trials = capped (failed (holding trials))

-- `  fails: cycle at < > =`
abbrev pub fails_line : List (List ℕ) → List ℕ → ℕ → ℕ → ℕ → List ℕ
fails_line words name r s t =
    codes "  fails: " ++ name ++ codes " at " ++ word_of words r ++ (32 ∷ []) ++ word_of words s ++ (32 ∷ []) ++ word_of words t ++ (10 ∷ [])

-- that line where the law fails, or none
abbrev pub trial_lines : List (List ℕ) → List ℕ → Trial → List ℕ
trial_lines words name trial = cond trial.holds [] (fails_line words name trial.first trial.second trial.third)

-- The list is n lists, one after another, and P holds of each with its number, from 0 on.
abbrev pub Runs : {A : Type 0} → (ℕ → List A → Type 0) → ℕ → List A → Type 0
Runs P zero xs = xs ≡ []
Runs {A} P (suc n) xs = (ys : List A) × Runs P n ys × (zs : List A) × P n zs × (xs ≡ ys ++ zs)

-- The law was tried of r, s and t, and it was told whether it holds.
abbrev pub TrialOf : {V : Type 0} → Meaning V → AlgebraLaw → ℕ → ℕ → ℕ → Trial → Type 0
TrialOf m law r s t trial = (trial.first ≡ r) × (trial.second ≡ s) × (trial.third ≡ t) × Decides trial.holds (LawHolds m law r s t)

-- That, once.
abbrev pub TriedOnce : {V : Type 0} → Meaning V → AlgebraLaw → ℕ → ℕ → ℕ → List Trial → Type 0
TriedOnce m law r s t trials = (trial : Trial) × TrialOf m law r s t trial × (trials ≡ trial ∷ [])

-- The law was tried of all base relations, in the order of their codes; a second or third of which it does not speak was 0.
abbrev pub LawTried : {V : Type 0} → Meaning V → AlgebraLaw → List Trial → Type 0
LawTried m law trials =
    Runs
    (λ r. Runs (λ s. Runs (λ t. TriedOnce m law r s t) (if nat_lt 2 (speaks_of law) then m.codes else 1)) (if nat_lt 1 (speaks_of law) then m.codes else 1))
    m.codes
    trials

-- Each law of a list was tried.
abbrev pub LawsTried : {V : Type 0} → Meaning V → List AlgebraLaw → List Trial → Type 0
LawsTried m laws trials = Runs (λ k some. (d : AlgebraLaw) → LawTried m (slice_index_or laws k d) some) (length laws) trials

-- `law M cycle: 27 of 27 hold`
abbrev pub law_line : ℕ → List ℕ → List Bool → List ℕ
law_line letter name tests = codes "law " ++ (letter ∷ 32 ∷ []) ++ name ++ codes ": " ++ score_text tests ++ codes " hold\n"

-- The lines of the laws of a name: one for each trial that fails, and then that of the name.
abbrev pub law_lines : List (List ℕ) → ℕ → List ℕ → List Trial → List ℕ
law_lines words letter name trials = flat_map (trial_lines words name) trials ++ law_line letter name (holding trials)

-- The trials of the laws of each name.
pub record LawTrials : Type 0 where
  pub identity : List Trial
  pub twice : List Trial
  pub composition : List Trial
  pub associativity : List Trial
  pub cycle : List Trial

-- These are the trials of all laws over the base relations of a kind.
pub record AllTried {V : Type 0} (m : Meaning V) (t : LawTrials) : Type 0 where
  pub identity : LawsTried m (LeftIdentity ∷ RightIdentity ∷ []) t.identity
  pub twice : LawsTried m (ConverseOfConverse ∷ []) t.twice
  pub composition : LawsTried m (ConverseOfComposition ∷ []) t.composition
  pub associativity : LawsTried m (Associativity ∷ []) t.associativity
  pub cycle : LawsTried m (Cycle ∷ []) t.cycle

-- The lines of all laws, in their order.
abbrev pub laws_lines : List (List ℕ) → ℕ → LawTrials → List ℕ
laws_lines words letter t =
    law_lines words letter (codes "identity") t.identity ++ law_lines words letter (codes "converse of a converse") t.twice
    ++ law_lines words letter (codes "converse of a composition") t.composition ++ law_lines words letter (codes "associativity") t.associativity
    ++ law_lines words letter (codes "cycle") t.cycle

-- how many trials of all of them fail, as a program counts them
abbrev pub laws_failing : LawTrials → ℕ
laws_failing t = capped (failing t.identity + (failing t.twice + (failing t.composition + (failing t.associativity + failing t.cycle))))
