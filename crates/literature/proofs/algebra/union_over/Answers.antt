-- Each item of the chain adds what the function gives at one member.
use Rattle.std.proofs.Common.{refl, rules, tests}
use Rattle.std.proofs.lemmas.Iterator.{YieldsList-from_range}
use Rattle.std.proofs.lemmas.Iterator.Consumers.{YieldsList-from_filter}
use Rattle.points.specs.Sets.{has}
use Rattle.literature.proofs.Unions.{members, over_fold, over_members}
use Rattle.literature.proofs.algebra.union_over.Goals as goal

pub returns : goal.returns
returns g c =
    over_members (λ n given. goal.F-post g c.args.gives n given) c.args.set c.fold.result c.ranges.set.fits
    (over_fold c.fold.ensures.ran (λ n given. goal.F-post g c.args.gives n given) (members c.args.set)
    (YieldsList-from_filter _ (has c.args.set) (YieldsList-from_range 0 64 64 c.filter.ensures.source refl) c.filter.ensures.closure (λ x r q k. search (rules, tests)))
    (λ a n b f' k. search rules))
