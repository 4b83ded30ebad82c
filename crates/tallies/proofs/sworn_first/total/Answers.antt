-- The join of the penalties, sworn first, is the plain sum of both parts.
use Rattle.std.proofs.Common.{◌∙◌}
use Rattle.tallies.proofs.Sworn.{parts_add}
use Rattle.tallies.proofs.sworn_first.total.Goals as goal

pub returns-clause-sums : goal.returns-clause-sums
returns-clause-sums c h = c.joined.ensures ∙ parts_add c.args.claims.now h

pub returns-clause-adds_exactly : goal.returns-clause-adds_exactly
returns-clause-adds_exactly c = parts_add
