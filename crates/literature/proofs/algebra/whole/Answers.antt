-- Each code adds itself.
use Rattle.std.proofs.Common.{arith, rules}
use Rattle.std.specs.List.{range_with_len}
use Rattle.std.proofs.lemmas.Iterator.{YieldsList-from_range}
use Rattle.literature.specs.Relations.{Single}
use Rattle.literature.proofs.Unions.{over_codes, over_fold}
use Rattle.literature.proofs.algebra.whole.Goals as goal

pub returns : goal.returns
returns g c =
    over_codes g.K.Kind.meaning.codes c.fold.result g.met.K.Kind.lawful.few_codes
    (over_fold c.fold.ensures.ran Single (range_with_len 0 g.K.Kind.meaning.codes) (YieldsList-from_range 0 g.K.Kind.meaning.codes g.K.Kind.meaning.codes (cc) (omega arith)) (λ a n b f' k. search rules))
