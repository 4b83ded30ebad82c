-- A page that was cut to the items has what the closed sheet shows.
use Rattle.std.proofs.Common.{rules, arith}
use Rattle.std.proofs.lemmas.Grind.{common_steps}
use Rattle.runs.proofs.page.show_on.Goals as goal

-- Given, since a wrong body is refused 17 s sooner with it.
pub returns : goal.returns
returns g c =
    let h = c.in_ok-shown.ensures.answers in (
      search rules,
      record {
        each = grind (arith, common_steps);
        written = λ i other l. grind (arith, common_steps, h.1.written);
        costs = h.1.costs;
      },
    )
