use Rattle.std.proofs.Common.{◌≡◌, ℕ, List, ◌++◌, take, Option, ap, ◌∙◌, subst}
use Rattle.std.specs.Prelude.{IfSome}
use Rattle.std.specs.Option.{option_map}
use Rattle.settlement.proofs.Cutting.{if_known}
use Rattle.settlement.proofs.file.read_file.Goals as goal

pub returns : goal.returns
returns g c =
    let Read : ℕ → Option (List ℕ) → Type 0 = λ n o. IfSome (option_map (take n) o) (λ xs. c.read_to_end.new.buf.items ≡ c.in_ok-file.file.items ++ xs) in
    let bytes = subst (λ n. Read n (g.R.Read.remaining c.take.result.inner)) c.take.ensures.limit c.in_ok-read_to_end.ensures.bytes in
    let of_input = subst (λ r. Read 65537 (g.R.Read.remaining r)) c.take.ensures.inner bytes in
    if_known (g.R.Read.remaining c.args.input) _ (λ file e. subst (Read 65537) e of_input ∙ ap (λ xs. xs ++ take 65537 file) c.in_ok-file.ensures.items)
