-- Trials of laws, counted in and printed.
use Rattle.std.proofs.Common.{◌≡◌, ℕ, suc, ◌+◌, Bool, true, false, cond, List, [], ◌∷◌, ◌++◌, Option, ap, sym, refl, subst, ◌∙◌, append_assoc, append-nil, arith}
use Rattle.std.proofs.lemmas.Grind.{flat_map-append}
use Rattle.std.proofs.lemmas.List.{map-append}
use Rattle.std.specs.Io.KnownBytes.{Appends}
use Rattle.std.specs.List.{flat_map}
use Rattle.literature.specs.Held.{CountedIn}
use Rattle.literature.specs.Scores.{score_after, score_of}
use Rattle.literature.specs.Tried.{Runs, Trial, fails_line, holding, trial_lines}
use Rattle.literature.specs.declared.score.Score.{Score}
use Rattle.literature.proofs.Printing.{appends_as, appends_more, appends_none}
use Rattle.literature.proofs.Scored.{score_more}

-- a trial that fails has its line
pub fails_shown : (words : List (List ℕ)) (name : List ℕ) (trial : Trial) → trial.holds ≡ false → fails_line words name trial.first trial.second trial.third ≡ trial_lines words name trial
fails_shown words name trial h = ap (λ (b : Bool). cond b [] (fails_line words name trial.first trial.second trial.third)) (sym h)

-- one that holds has none
pub holds_shown : (words : List (List ℕ)) (name : List ℕ) (trial : Trial) → trial.holds ≡ true → [] ≡ trial_lines words name trial
holds_shown words name trial h = ap (λ (b : Bool). cond b [] (fails_line words name trial.first trial.second trial.third)) (sym h)

-- one list more
pub runs_more : {A : Type 0} (P : ℕ → List A → Type 0) (n : ℕ) (xs ys : List A) → Runs P n xs → P n ys → Runs P (n + 1) (xs ++ ys)
runs_more P n xs ys before here =
    let next : suc n ≡ n + 1 = omega arith in
    subst (λ (m : ℕ). Runs P m (xs ++ ys)) next (xs, before, ys, here, refl)

module _ (words : List (List ℕ)) (name : List ℕ) (start : Score) (P : ℕ → List Trial → Type 0) where
  -- the trials so far: in their order, counted in, and printed where they fail
  abbrev pub TriedBelow : ℕ → Score → Option (List ℕ) → Option (List ℕ) → Type 0
  TriedBelow n score a b = (trials : List Trial) × Runs P n trials × CountedIn start (holding trials) score × Appends a b (flat_map (trial_lines words name) trials)

  pub none_tried : (a : Option (List ℕ)) → TriedBelow 0 start a a
  none_tried a = ([], refl, λ before was. was ∙ ap score_of (sym (append-nil before)), appends_none a)

  pub tried_more : (n : ℕ) (old new : Score) (a b c : Option (List ℕ)) (more : List Trial) → TriedBelow n old a b → P n more →
      CountedIn old (holding more) new → Appends b c (flat_map (trial_lines words name) more) → TriedBelow (n + 1) new a c
  tried_more n old new a b c more (trials, runs, counted, printed) here is lines = (
    trials ++ more,
    runs_more P n trials more runs here,
    λ before was.
        is (before ++ holding trials) (counted before was)
        ∙ ap score_of (append_assoc before (holding trials) (holding more) ∙ ap (λ t. before ++ t) (sym (map-append (λ (trial : Trial). trial.holds) trials more))),
    appends_as a c (sym (flat_map-append (trial_lines words name) trials more)) (appends_more a b c _ _ printed lines),
  )

-- one trial
pub counted_trial : (trial : Trial) (old new : Score) → new ≡ score_after old trial.holds → CountedIn old (holding (trial ∷ [])) new
counted_trial trial old new is before was = score_more before trial.holds old new was is

pub trial_printed : (words : List (List ℕ)) (name : List ℕ) (trial : Trial) (a b : Option (List ℕ)) → Appends a b (trial_lines words name trial) →
    Appends a b (flat_map (trial_lines words name) (trial ∷ []))
trial_printed words name trial a b p = appends_as a b (sym (append-nil (trial_lines words name trial))) p
