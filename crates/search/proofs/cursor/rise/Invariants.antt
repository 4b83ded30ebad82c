-- The codes from i on are 0, and past the first `shared` codes is past the first i.
use Rattle.std.proofs.Common.{◌≡◌, ◌-◌, ◌≤◌, ◌++◌, length, take}
use Rattle.rules.specs.Orders.{index, past}
use Rattle.rules.proofs.Cursors.{zeros}
use Rattle.search.proofs.cursor.rise.Given as goal

abbrev pub invariant-loop-i : goal.invariant-loop-i
invariant-loop-i l =
    (l.i ≤ length l.initial.cursor)
    × (l.cursor ≡ take l.i l.initial.cursor ++ zeros (length l.initial.cursor - l.i))
    × (l.i ≤ l.shared
    → past l.codes (length l.initial.cursor) l.shared (index l.codes l.initial.cursor)
    ≡ past l.codes (length l.initial.cursor) l.i (index l.codes l.initial.cursor))
