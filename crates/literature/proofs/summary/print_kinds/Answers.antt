-- The three tables, one after another.
use Rattle.std.proofs.lemmas.Result.{on_ok_weaker}
use Rattle.literature.specs.Output.{kinds_lines}
use Rattle.literature.proofs.Printing.{appends_more}
use Rattle.literature.proofs.summary.print_kinds.Goals as goal

pub returns : goal.returns
unfolding kinds_lines
returns g c =
    on_ok_weaker c.print_kind-3.result (λ printed. appends_more _ _ _ _ _ (appends_more _ _ _ _ _ c.in_ok-print_kind.ensures c.in_ok-print_kind-2.ensures) printed) c.print_kind-3.ensures
