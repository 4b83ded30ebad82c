-- The line of an instance that fails.
use Rattle.std.proofs.Common.{◌≡◌, [], false, true, refl, rules, subst, sym}
use Rattle.std.specs.Io.KnownBytes.{Appends}
use Rattle.literature.specs.Tried.{Trial, fails_line, trial_lines}
use Rattle.literature.proofs.Printing.{appends_as, appends_none}
use Rattle.literature.proofs.Trials.{fails_shown, holds_shown}
use Rattle.literature.proofs.laws.try_instance.Goals as goal
use Rattle.literature.proofs.laws.try_instance.Goals.{then-not-holds+in_ok-print_failure, else-not-holds}

-- Given, since a wrong body is refused 8 s sooner with it.
pub returns-clause-counted : goal.returns-clause-counted
returns-clause-counted g c = search rules fits 100

pub returns-clause-printed : goal.returns-clause-printed
returns-clause-printed g c =
    let words = g.K.Notation.words in
    let name = c.args.name.now in
    let (r, s, t) = c.args.relations in
    let trial : Trial = record { first = r; second = s; third = t; holds = c.holds-holds.result } in
    let a = g.W.Write.contents c.args.out.now in
    let b = g.W.Write.contents c.if-not-holds.out in
    let printed : Appends a b (trial_lines words name trial) =
    elim c.if-not-holds.branch [
      | then-not-holds+in_ok-print_failure w ↦ (let fails : c.holds-holds.result ≡ false = search rules fits 100 in
          appends_as a b (fails_shown words name trial fails)
          (subst (λ out. Appends a (g.W.Write.contents out) (fails_line words name r s t)) (sym w.out-is) w.in_ok-print_failure.ensures))
      | else-not-holds w ↦ (let holds : c.holds-holds.result ≡ true = search rules fits 100 in
          appends_as a b (holds_shown words name trial holds) (subst (λ out. Appends a (g.W.Write.contents out) []) (sym w.out-is) (appends_none a)))
    ] in
    (trial, (refl, refl, refl, c.holds-holds.ensures), c.count.ensures, printed)
