-- Where there is a second scenario, zeros and a 1 are its codes; else all scenarios are one.
use Rattle.std.proofs.Common.{subst, arith}
use Rattle.std.proofs.lemmas.Option.{same_Some}
use Rattle.search.specs.Sheets.{Holds}
use Rattle.search.proofs.Closed.{second_holds, second_number, one_scenario}
use Rattle.search.proofs.parts.second_scenario.Goals as goal

pub returns-then-count-eq0-clause-number : goal.returns-then-count-eq0-clause-number
returns-then-count-eq0-clause-number c = one_scenario c.args.codes c.args.count c.then-count-eq0.either

pub returns-clause-holds : goal.returns-clause-holds
returns-clause-holds c a e =
    subst (Holds c.args.codes c.args.count) (same_Some _ a e) (second_holds c.args.codes c.args.count (omega arith) c.requires.few (omega arith))

pub returns-clause-number : goal.returns-clause-number
returns-clause-number c = second_number c.args.codes c.args.count (omega arith) c.requires.few
