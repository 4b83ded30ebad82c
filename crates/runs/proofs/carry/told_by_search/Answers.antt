use Rattle.std.proofs.Common.{◌≡◌, rules}
use Rattle.runs.specs.declared.answer.Answer.TheVariants.{Refused}
use Rattle.runs.specs.States.{told}
use Rattle.runs.proofs.Carried.{carried_search, refused_search}
use Rattle.runs.proofs.carry.told_by_search.Goals as goal

pub returns-in_err-search : goal.returns-in_err-search
returns-in_err-search g c =
    let kind = g.K.Kind in
    let fault = c.in_err-search.field-0.0 in
    let h = c.in_err-search.ensures.answers in
    let refused : told c.from_residual.result ≡ Refused fault = search rules in
    rw refused (refused_search kind.meaning kind.fit kind.values g.T.Joins.joining g.T.Tally.order c.args.closed.now c.search.new.self c.args.steps fault h.0 h.1)

pub returns : goal.returns
returns g c =
    let kind = g.K.Kind in
    let h = c.in_ok-search.ensures.answers in
    carried_search kind.meaning kind.fit kind.values g.T.Joins.joining g.T.Tally.order c.args.closed.now c.search.new.self c.args.steps c.in_ok-search.field-0 h.0 h.1
