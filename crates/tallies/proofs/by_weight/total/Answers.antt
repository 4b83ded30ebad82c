-- The join of the weights is their plain sum.
use Rattle.std.proofs.Common.{◌∙◌}
use Rattle.tallies.proofs.Sums.{weights_add}
use Rattle.tallies.proofs.by_weight.total.Goals as goal

pub returns-clause-sums : goal.returns-clause-sums
returns-clause-sums c h = c.joined.ensures ∙ weights_add c.args.claims.now h

pub returns-clause-adds_exactly : goal.returns-clause-adds_exactly
returns-clause-adds_exactly c = weights_add
