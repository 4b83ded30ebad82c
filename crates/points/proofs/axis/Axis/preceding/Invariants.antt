use Rattle.std.proofs.Common.{◌≡◌, ◌≤◌, [], count_by}
use Rattle.points.specs.Points.{is_lt}
use Rattle.points.specs.Marks.{of_item, stands, in_scenario, drawn}
use Rattle.points.proofs.axis.Axis.preceding.Given as goal

abbrev pub invariant-loop-s : goal.invariant-loop-s
invariant-loop-s g l =
    (l.sum ≤ l.s) × (l.sum ≡ count_by (λ x. is_lt (stands (in_scenario (drawn l.self.orders) l.scenario) x l.y)) (of_item l.k l.s []))
