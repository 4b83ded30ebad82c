-- The sum so far is that of the counts so far, capped.
use Rattle.std.proofs.Common.{◌≡◌, ◌+◌, min, sum, subst, refl, rules}
use Rattle.std.proofs.lemmas.Fn.{fold_over, slice_gives, fronts}
use Rattle.std.proofs.lemmas.List.Sums.{fold_push}
use Rattle.literature.proofs.score.total.Goals as goal

pub returns : goal.returns
returns c = subst (λ l. c.fold.result ≡ min (sum l) 4294967295) c.iter.ensures.rest
    (fold_over fronts (λ y. y.now) _ (λ ys n. n ≡ min (sum ys) 4294967295) _ (λ ys a x b f' j k. let more = fold_push ◌+◌ 0 ys x.now in search rules)
    _ _ _ _ (slice_gives c.iter.result) refl c.fold.ensures.ran)
