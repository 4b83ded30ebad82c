-- Each part adds the set that is given at it.
use Rattle.std.proofs.Common.{◌≡◌, None, Some, MatchOption, lit<, refl, subst, sym, length, rules}
use Rattle.std.specs.Fn.{FnReturnsAt}
use Rattle.std.proofs.lemmas.Iterator.Consumers.{YieldsList-at, YieldsList-end, YieldsList-turn}
use Rattle.std.proofs.lemmas.Iterator.Splits.{YieldsList-from_str_split}
use Rattle.literature.specs.Letters.{SomePart, parts}
use Rattle.literature.specs.Relations.{UnionOf}
use Rattle.literature.proofs.Unions.{over_push}
use Rattle.literature.proofs.letters.union_of.Goals as goal

pub loop-part-preserved : goal.loop-part-preserved
loop-part-preserved g c =
    over_push (λ part given. FnReturnsAt g.F.Fn c.args.gives part (Some given)) c.loop-part.yielded c.loop-part.set c.in-Some.part c.in_ok-set.field-0 c.loop-part.invariant
    (record { shown = c.in-Some.part; shows = refl; says = record { met = c.in_ok-set.ensures } })

pub returns-in_err-set : goal.returns-in_err-set
returns-in_err-set g c =
    let turn = YieldsList-turn
    (YieldsList-at c.into_iter-part-iterator.ensures.into_iter_gives
    (YieldsList-from_str_split 32 c.args.text.now (lit< tt) c.split-part-items.ensures.text c.split-part-items.ensures.has_more c.split-part-items.ensures.pattern))
    c.loop-part.yielded _ c.loop-part.yielded_by _ _ c.in-Some.part c.in-Some.is c.next.ensures.steps in
    let none : FnReturnsAt g.F.Fn c.args.gives c.in-Some.part.now None = record { shown = c.in-Some.part; shows = refl; says = record { met = search rules } } in
    let is : c.from_residual.result ≡ None = search rules in
    subst (λ o. MatchOption o (SomePart c.args.text.now (λ part. FnReturnsAt g.F.Fn c.args.gives part None)) (λ set. UnionOf (λ part given. FnReturnsAt g.F.Fn c.args.gives part (Some given)) (parts c.args.text.now) set)) (sym is)
    (c.in-Some.part.now, (length c.loop-part.yielded, turn.0, sym turn.1), none)

pub returns : goal.returns
returns g c =
    let seen = YieldsList-end
    (YieldsList-at c.into_iter-part-iterator.ensures.into_iter_gives
    (YieldsList-from_str_split 32 c.args.text.now (lit< tt) c.split-part-items.ensures.text c.split-part-items.ensures.has_more c.split-part-items.ensures.pattern))
    c.loop-part.yielded _ c.loop-part.yielded_by _ _ c.in-None.is c.next.ensures.steps in
    subst (λ xs. UnionOf (λ part given. FnReturnsAt g.F.Fn c.args.gives part (Some given)) xs c.loop-part.set) seen.0 c.loop-part.invariant
