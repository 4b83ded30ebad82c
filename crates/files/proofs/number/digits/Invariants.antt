use Rattle.std.proofs.Common.{◌≡◌, ◌^◌, ◌<◌, true, take}
use Rattle.std.specs.Char.{is_ascii_digit}
use Rattle.std.specs.List.{list_all}
use Rattle.files.specs.Numbers.{value_of}
use Rattle.files.proofs.number.digits.Given as goal

-- so far there are only digits, and they write n
abbrev pub invariant-loop-b : goal.invariant-loop-b
invariant-loop-b l =
    (list_all is_ascii_digit (take l.b-index l.text) ≡ true)
    × (l.n ≡ value_of (take l.b-index l.text))
    × (l.n < 10 ^ l.b-index)
