-- What the closure gives at a word is the set of its base relation.
use Rattle.std.proofs.Common.{subst, rules}
use Rattle.literature.specs.Letters.{WordNamed, parts}
use Rattle.literature.proofs.Unions.{option_weaker, over_weaker}
use Rattle.literature.proofs.letters.named.Goals as goal

pub returns : goal.returns
returns g c =
    let words = g.K.Notation.words in
    option_weaker c.union_of.result
    (λ some. let (part, i, at) = some in (part, i, search rules))
    (λ set u. over_weaker _ (WordNamed words) (λ part given at. let named : WordNamed words at.shown.now given = search rules in subst (λ word. WordNamed words word given) at.shows named) (parts c.args.words.now) set u)
    c.union_of.ensures
