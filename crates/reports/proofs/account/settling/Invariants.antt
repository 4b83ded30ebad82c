use Rattle.std.proofs.Common.{◌≡◌, ◌∷◌, ◌-◌, map}
use Rattle.std.specs.List.{range_with_len}
use Rattle.runs.specs.declared.call.Call.TheVariants.{Close, Search, Show, Charge}
use Rattle.reports.proofs.account.settling.Given as goal

-- The first three calls, and the charges of the persons so far.
abbrev pub invariant-loop-person : goal.invariant-loop-person
invariant-loop-person l = l.script.items ≡ Close ∷ Search l.steps ∷ Show 12 ∷ map Charge (range_with_len 1 (l.person - 1))
