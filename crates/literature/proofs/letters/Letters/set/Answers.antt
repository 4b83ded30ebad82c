-- What the closure gives at a part is what its letter stands for.
use Rattle.std.proofs.Common.{◌≡◌, None, subst, rules}
use Rattle.literature.specs.Letters.{PartNamed, meant, parts}
use Rattle.literature.proofs.Entries.{entered_parts, unread_at}
use Rattle.literature.proofs.Unions.{option_weaker, over_weaker}
use Rattle.literature.proofs.letters.Letters.set.Goals as goal

pub returns : goal.returns
returns g c =
    let words = g.K.Notation.words in
    let letters = c.args.self.0.now in
    let none : meant letters c.args.entry.now ≡ None = search rules in
    option_weaker c.union_of.result
    (λ some. let (part, i, at) = some in unread_at words letters c.args.entry.now none part i (search rules))
    (λ set u. entered_parts words letters c.args.entry.now none set (over_weaker _ (PartNamed words letters) (λ part given at. let named : PartNamed words letters at.shown.now given = search rules in subst (λ letter. PartNamed words letters letter given) at.shows named) (parts c.args.entry.now) set u))
    c.union_of.ensures
