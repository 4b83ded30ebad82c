use Rattle.std.proofs.Common.{◌≡◌, ◌*◌, ◌≤◌, count_by}
use Rattle.points.specs.Points.{is_lt}
use Rattle.points.specs.Marks.{marks, stands, in_scenario, drawn}
use Rattle.points.proofs.axis.Axis.rank.Given as goal

abbrev pub invariant-loop-k : goal.invariant-loop-k
invariant-loop-k g l =
    (l.sum ≤ 255 * l.k) × (l.sum ≡ count_by (λ y. is_lt (stands (in_scenario (drawn l.self.orders) l.scenario) y (l.i, l.t))) (marks g.row.MARKS l.k))
