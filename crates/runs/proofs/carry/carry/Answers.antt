use Rattle.std.proofs.Common.{rules}
use Rattle.runs.proofs.Carried.{any_result}
use Rattle.runs.proofs.carry.carry.Goals as goal

pub returns-in-Closing : goal.returns-in-Closing
returns-in-Closing g c =
    rw c.in-Closing.is (any_result g.K.Kind.meaning g.K.Kind.fit g.K.Kind.values g.T.Joins.joining g.T.Tally.order c.in-Closing.closed c.args.call c.on_closed.result c.on_closed.ensures)

-- Given, since a wrong body is refused 24 s sooner with it.
pub returns-in-Drafting : goal.returns-in-Drafting
returns-in-Drafting g c = search rules fits 400
