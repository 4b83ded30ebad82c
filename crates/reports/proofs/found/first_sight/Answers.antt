-- The answers are looked at up to the first that shows something.
use Rattle.std.proofs.Common.{◌≡◌, ap, ◌∙◌, refl, rules}
use Rattle.std.specs.Option.{option_copied}
use Rattle.reports.specs.Found.{first_sight}
use Rattle.reports.proofs.Seen.{first_seen}
use Rattle.reports.proofs.Sights.{stands_as}
use Rattle.reports.proofs.found.first_sight.Goals as goal

pub returns : goal.returns
returns g c =
    let (p, from, seen) = c.find_map.ensures.runs in
    let items = c.iter.ensures.runs p p.seen in
    let is : option_copied c.find_map.result ≡ first_sight c.args.answers.now =
    first_seen p.from.rest.now p.at items.2 c.find_map.result items.0 items.1 (λ a r f k. refl) seen (λ x r k. search rules)
    ∙ ap first_sight (ap (λ s. s.rest.now) from ∙ c.iter.ensures.rest) in
    record { stands = stands_as c.args.answers.now _ is; is = is }
