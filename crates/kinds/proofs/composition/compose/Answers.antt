-- Each item of the chain puts one code that fits into the set.
use Rattle.std.proofs.Common.{refl, rules, tests}
use Rattle.std.proofs.lemmas.Iterator.{YieldsList-from_range}
use Rattle.std.proofs.lemmas.Iterator.Consumers.{YieldsList-from_filter}
use Rattle.points.proofs.Passing.{passing}
use Rattle.kinds.proofs.Composed.{collect, composed}
use Rattle.kinds.proofs.composition.compose.Goals as goal

pub returns : goal.returns
returns g c =
    composed g.K.Kind.meaning g.met.K.Kind.lawful g.K.Kind.fit g.met.K.Kind.composes c.args.c c.args.d c.fold.result
    (collect c.fold.ensures.ran (passing 64 (g.K.Kind.fit c.args.c c.args.d))
    (YieldsList-from_filter _ (g.K.Kind.fit c.args.c c.args.d) (YieldsList-from_range 0 64 64 c.filter.ensures.source refl) c.filter.ensures.closure (λ x r q k. search (rules, tests)))
    (λ a n b f' k. search rules))
