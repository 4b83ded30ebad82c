-- Each loop counts in one relation more with each turn, and prints what fails.
use Rattle.std.proofs.Common.{◌≡◌, ℕ, ◌≤◌, ◌<◌, cond, nat_lt, List, [], ◌∷◌, refl, subst, arith, rules}
use Rattle.literature.specs.Laws.{LawHolds, speaks_of}
use Rattle.literature.specs.Tried.{LawTried, Runs, Trial, TriedOnce}
use Rattle.literature.proofs.Lacking.{counts_as, counts_more, counts_one}
use Rattle.literature.proofs.Spoken.{of_all, of_tried}
use Rattle.literature.proofs.Trials.{counted_trial, none_tried, trial_printed, tried_more}
use Rattle.literature.proofs.laws.try_law.Goals as goal

pub loop-t-preserved : goal.loop-t-preserved
loop-t-preserved g c =
    let m = g.K.Kind.meaning in
    let words = g.K.Notation.words in
    let name = c.args.name.now in
    let holds = LawHolds m c.args.law c.loop-r.r c.loop-s.s in
    let (stands, decides, counted) = c.in_ok-try_instance.ensures.counted in
    let (trial, of_trial, is, lines) = c.in_ok-try_instance.ensures.printed in
    let P : ℕ → List Trial → Type 0 = λ t. TriedOnce m c.args.law c.loop-r.r c.loop-s.s t in (
      counts_more _ _ _ holds c.loop-t.t c.loop-t.invariant.0 (counts_one c.loop-t.score c.try_instance.new.score stands (holds c.loop-t.t) decides counted),
      tried_more words name c.loop-s.score P c.loop-t.t c.loop-t.score c.try_instance.new.score (g.W.Write.contents c.loop-s.out) (g.W.Write.contents c.loop-t.out) (g.W.Write.contents c.try_instance.new.out) (trial ∷ [])
          c.loop-t.invariant.1 (trial, of_trial, refl) (counted_trial trial c.loop-t.score c.try_instance.new.score is) (trial_printed words name trial _ _ lines),
    )

pub loop-s-preserved : goal.loop-s-preserved
loop-s-preserved g c =
    let m = g.K.Kind.meaning in
    let third = c.extent-second.result.1 in
    let holds = LawHolds m c.args.law c.loop-r.r in
    let (trials, runs, counted, lines) = c.loop-t.invariant.1 in
    let end : c.loop-t.t ≡ third = omega arith in
    let P : ℕ → List Trial → Type 0 = λ s. Runs (λ t. TriedOnce m c.args.law c.loop-r.r s t) third in
    let here = subst (λ (n : ℕ). Runs (λ t. TriedOnce m c.args.law c.loop-r.r c.loop-s.s t) n trials) end runs in (
      counts_more _ _ _ (λ s. (t : ℕ) → t < third → holds s t) c.loop-s.s c.loop-s.invariant.0
          (counts_as c.loop-s.score.lacking c.loop-t.score.lacking (λ all t l. all t (omega arith)) (λ all t l. all t (omega arith)) c.loop-t.invariant.0),
      tried_more g.K.Notation.words c.args.name.now c.loop-r.score P c.loop-s.s c.loop-s.score c.loop-t.score (g.W.Write.contents c.loop-r.out) (g.W.Write.contents c.loop-s.out) (g.W.Write.contents c.loop-t.out) trials
          c.loop-s.invariant.1 here counted lines,
    )

pub loop-r-preserved : goal.loop-r-preserved
loop-r-preserved g c =
    let m = g.K.Kind.meaning in
    let (second, third) = c.extent-second.result in
    let holds = LawHolds m c.args.law in
    let (trials, runs, counted, lines) = c.loop-s.invariant.1 in
    let end : c.loop-s.s ≡ second = omega arith in
    let P : ℕ → List Trial → Type 0 = λ r. Runs (λ s. Runs (λ t. TriedOnce m c.args.law r s t) third) second in
    let here = subst (λ (n : ℕ). Runs (λ s. Runs (λ t. TriedOnce m c.args.law c.loop-r.r s t) third) n trials) end runs in (
      counts_more _ _ _ (λ r. (s : ℕ) → s < second → (t : ℕ) → t < third → holds r s t) c.loop-r.r c.loop-r.invariant.0
          (counts_as c.loop-r.score.lacking c.loop-s.score.lacking (λ all s l. all s (omega arith)) (λ all s l. all s (omega arith)) c.loop-s.invariant.0),
      tried_more g.K.Notation.words c.args.name.now c.args.score.now P c.loop-r.r c.loop-r.score c.loop-s.score (g.W.Write.contents c.args.out.now) (g.W.Write.contents c.loop-r.out) (g.W.Write.contents c.loop-s.out) trials
          c.loop-r.invariant.1 here counted lines,
    )

pub loop-t-init : goal.loop-t-init
loop-t-init g c =
    (search rules, none_tried g.K.Notation.words c.args.name.now c.loop-s.score (λ t. TriedOnce g.K.Kind.meaning c.args.law c.loop-r.r c.loop-s.s t) (g.W.Write.contents c.loop-s.out))

pub loop-s-init : goal.loop-s-init
loop-s-init g c =
    let third = c.extent-second.result.1 in
    (search rules, none_tried g.K.Notation.words c.args.name.now c.loop-r.score (λ s. Runs (λ t. TriedOnce g.K.Kind.meaning c.args.law c.loop-r.r s t) third) (g.W.Write.contents c.loop-r.out))

pub loop-r-init : goal.loop-r-init
loop-r-init g c =
    let (second, third) = c.extent-second.result in
    (search rules, none_tried g.K.Notation.words c.args.name.now c.args.score.now (λ r. Runs (λ s. Runs (λ t. TriedOnce g.K.Kind.meaning c.args.law r s t) third) second) (g.W.Write.contents c.args.out.now))

pub returns-clause-counted : goal.returns-clause-counted
returns-clause-counted g c =
    let m = g.K.Kind.meaning in
    let some : 1 ≤ m.codes = g.met.K.Kind.lawful.some_codes in
    let (second, third) = c.extent-second.result in
    let all = of_all m some second third c.args.law (cc) (cc) in
    let tried = of_tried m some second third c.args.law (cc) (cc) in
    counts_as c.args.score.now.lacking c.loop-r.score.lacking
    (λ below. all (λ r l. below r (omega arith))) (λ held r l. tried held r (omega arith)) c.loop-r.invariant.0

pub returns-clause-printed : goal.returns-clause-printed
returns-clause-printed g c =
    let m = g.K.Kind.meaning in
    let law = c.args.law in
    let (second, third) = c.extent-second.result in
    let (trials, runs, counted, lines) = c.loop-r.invariant.1 in
    let end : c.loop-r.r ≡ m.codes = omega arith in
    let seconds : second ≡ cond (nat_lt 1 (speaks_of law)) m.codes 1 = cc in
    let thirds : third ≡ cond (nat_lt 2 (speaks_of law)) m.codes 1 = cc in
    let all = subst (λ (n : ℕ). Runs (λ r. Runs (λ s. Runs (λ t. TriedOnce m law r s t) third) second) n trials) end runs in
    let of_second = subst (λ (n : ℕ). Runs (λ r. Runs (λ s. Runs (λ t. TriedOnce m law r s t) third) n) m.codes trials) seconds all in
    let tried : LawTried m law trials = subst (λ (n : ℕ). Runs (λ r. Runs (λ s. Runs (λ t. TriedOnce m law r s t) n) (cond (nat_lt 1 (speaks_of law)) m.codes 1)) m.codes trials) thirds of_second in
    (trials, tried, counted, lines)
