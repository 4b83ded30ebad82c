use Rattle.std.proofs.Common.{◌≡◌, ℕ, List, ◌++◌, length, IfOk}
use Rattle.reports.specs.Lines.{lines_from}
use Rattle.reports.proofs.Lined.{seen}
use Rattle.reports.proofs.report.push_lines.Given as goal

-- The lines so far are appended; the other members are left, from the next place on.
abbrev pub invariant-loop-i : goal.invariant-loop-i
invariant-loop-i g l =
    goal.F-IsAlwaysCallable g l.line
    × (l.i-iterator.a.start ≡ length l.yielded)
    × (l.members ≡ seen l.yielded ++ l.i-iterator.b.rest.now)
    × ((of : ℕ → _ → List ℕ) → ((i : ℕ) (x : _) (r : _) → goal.F-post g l.line i x r → IfOk r (λ v. v.items ≡ of i x))
    → l.text.items ≡ l.fn.text.items ++ lines_from of 1 (seen l.yielded))
