-- Each direction whose parts are in the two compositions is added.
use Rattle.std.proofs.Common.{◌≡◌, ℕ, ◌<◌, ◌+◌, true, false, Option, None, MatchOption, Decides, get_or, length, sym, inr, subst, rules, arith}
use Rattle.points.specs.Sets.{has}
use Rattle.std.proofs.lemmas.List.{get_or_default}
use Rattle.literature.specs.Published.{ComposesByParts, DirectionIn, UncomposedByParts}
use Rattle.literature.proofs.Charted.{no_direction, ChartBelow, chart_more, chart_same, part_out}
use Rattle.literature.proofs.Completed.{AnyBelow}
use Rattle.literature.proofs.literature.composed_directions.Goals as goal
use Rattle.literature.proofs.literature.composed_directions.Goals.{then-contains+then-contains-2+in_ok-found, else-contains, else-contains-via-then-contains+else-contains-2, else-contains-via-else-contains}

pub loop-direction-preserved : goal.loop-direction-preserved
loop-direction-preserved c =
    let chart = c.args.chart in
    let n = c.loop-direction.direction-index in
    let within : n < length chart.directions.now = omega arith in
    let direction = get_or chart.directions.now n no_direction in
    let east = c.in_ok-east.east in
    let north = c.in_ok-north.north in
    let found = c.loop-direction.found in
    let eastward = c.in_ok-eastward.eastward in
    let northward = c.in_ok-northward.northward in
    elim c.if-contains.branch [
      | then-contains+then-contains-2+in_ok-found w ↦ (let first : has east eastward ≡ true = search rules in
          let second : has north northward ≡ true = search rules in
          subst (ChartBelow chart east north n found no_direction within (n + 1)) (sym w.found-is)
          (chart_more chart east north n found no_direction within w.in_ok-found.field-0 (eastward, sym c.in_ok-eastward.ensures, first) (northward, sym c.in_ok-northward.ensures, second) w.in_ok-found.ensures c.loop-direction.invariant))
      | else-contains w ↦ subst (ChartBelow chart east north n found no_direction within (n + 1)) (sym w.found-is) (elim w.else-contains.branch [
        | else-contains-via-then-contains+else-contains-2 w' ↦ (let second : has north northward ≡ false = search rules in
            chart_same chart east north n found no_direction within (λ _ q. part_out chart direction.northward.now northward north (sym c.in_ok-northward.ensures) second q) c.loop-direction.invariant)
        | else-contains-via-else-contains w' ↦ (let first : has east eastward ≡ false = search rules in
            chart_same chart east north n found no_direction within (λ p _. part_out chart direction.eastward.now eastward east (sym c.in_ok-eastward.ensures) first p) c.loop-direction.invariant)
      ])
    ]

pub returns-in_err-found : goal.returns-in_err-found
returns-in_err-found c =
    let chart = c.args.chart in
    let directions = chart.directions.now in
    let n = c.loop-direction.direction-index in
    let within : n < length directions = omega arith in
    let is : c.from_residual-in_err-found.result ≡ None = search rules in
    subst (λ (o : Option ℕ). MatchOption o (UncomposedByParts chart c.args.first.now c.args.second.now) (λ set. ComposesByParts chart c.args.first.now c.args.second.now set)) (sym is)
    (inr (inr (n, get_or directions n no_direction, within, get_or_default directions n (get_or directions n no_direction) no_direction within, inr (inr c.in_err-found.ensures))))

pub returns : goal.returns
returns c =
    let chart = c.args.chart in
    let end : c.loop-direction.direction-index ≡ length chart.directions.now = omega arith in (
      c.in_ok-east.east,
      c.in_ok-east.ensures,
      c.in_ok-north.north,
      c.in_ok-north.ensures,
      subst (λ (k : ℕ). (e : ℕ) → Decides (has c.loop-direction.found e) (AnyBelow (DirectionIn chart c.in_ok-east.east c.in_ok-north.north e) chart.directions.now k)) end c.loop-direction.invariant,
    )
