use Rattle.std.proofs.Common.{rules, ◌≡◌, ◌∷◌, ◌-◌, ◌+◌, ◌++◌, [], ap, sym, ◌∙◌, map, arith}
use Rattle.std.specs.List.{range_with_len}
use Rattle.std.proofs.lemmas.List.FromFn.{map-range_with_len_more}
use Rattle.runs.specs.declared.call.Call.TheVariants.{Close, Search, Show, Charge}
use Rattle.reports.specs.Account.{settling}
use Rattle.reports.proofs.account.settling.Goals as goal

pub loop-person-preserved : goal.loop-person-preserved
loop-person-preserved c =
    let i = c.loop-person.person - 1 in
    let count : c.loop-person.person + 1 - 1 ≡ i + 1 = omega arith in
    c.in_ok-push.ensures.items ∙ ap (λ z. z ++ Charge c.loop-person.person ∷ []) c.loop-person.invariant
    ∙ ap (λ z. Close ∷ Search c.args.steps ∷ Show 12 ∷ z) (sym (map-range_with_len_more Charge 1 i c.loop-person.person (omega arith)) ∙ ap (λ n. map Charge (range_with_len 1 n)) (sym count))

pub returns : goal.returns
unfolding settling
returns c =
    let count : c.loop-person.person - 1 ≡ 20 = omega arith in
    c.loop-person.invariant ∙ ap (λ n. Close ∷ Search c.args.steps ∷ Show 12 ∷ map Charge (range_with_len 1 n)) count

-- Given, since a wrong body is refused 8 s sooner with it.
pub loop-person-init : goal.loop-person-init
loop-person-init c = search rules fits 100
