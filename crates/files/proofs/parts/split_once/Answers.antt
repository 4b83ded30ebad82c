-- What stands before the first place of the byte lacks it.
use Rattle.std.proofs.Common.{◌≡◌, ◌≢◌, ℕ, ◌<◌, length, slice_index, refl, rules}
use Rattle.files.proofs.Parting.{cut_at, lacks_all}
use Rattle.files.proofs.parts.split_once.Goals as goal

pub returns-in-Some : goal.returns-in-Some
returns-in-Some c =
    let text = c.args.text.now in
    let within : c.in-Some.i < length text = search rules in
    let before : (k : ℕ) → k < c.in-Some.i → slice_index text k ≢ c.args.by = search rules in
    let found : slice_index text c.in-Some.i ≡ c.args.by = search rules in
    cut_at c.args.by text c.in-Some.i within before found

pub returns-in-None : goal.returns-in-None
returns-in-None c =
    let before : (k : ℕ) → k < length c.args.text.now → slice_index c.args.text.now k ≢ c.args.by = search rules in
    (lacks_all c.args.by c.args.text.now before, refl)
