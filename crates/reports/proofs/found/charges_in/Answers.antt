-- What the answers give, without those that charge nothing.
use Rattle.std.proofs.Common.{rules, tests}
use Rattle.std.proofs.lemmas.Iterator.{items_from_collect, YieldsList-from_slice}
use Rattle.std.proofs.lemmas.Iterator.Consumers.{YieldsList-from_filter_map}
use Rattle.reports.proofs.found.charges_in.Goals as goal

-- Given, since a wrong body is refused 11 s sooner with it.
pub returns : goal.returns
returns g c = items_from_collect _ c.collect.ensures.ran (YieldsList-from_filter_map _ _ (YieldsList-from_slice c.args.answers.now cc) c.filter_map.ensures.closure (λ x r q k. search (rules, tests)))
