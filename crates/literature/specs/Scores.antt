-- Scores: how many of those that were tried stand, and how many do not.
use Rattle.std.specs.Prelude.{ℕ, ◌+◌, ◌^◌, ◌-◌, min, Bool, cond, List, [], ◌∷◌, if◌then◌else◌}
use Rattle.literature.specs.declared.score.Score.{Score}

-- The score after one more, which stands or does not. A count that has reached 2 ^ 32 - 1 stays there.
abbrev pub score_after : Score → Bool → Score
score_after score stands =
    if stands then record score { stand = min (score.stand + 1) (2 ^ 32 - 1) }
    else record score { lacking = min (score.lacking + 1) (2 ^ 32 - 1) }

-- a count as a program holds it: one that would be above 2 ^ 32 - 1 stays there
abbrev pub capped : ℕ → ℕ
capped n = min n (2 ^ 32 - 1)

-- how many of the tests are passed
abbrev pub passed : List Bool → ℕ
passed [] = 0
passed (test ∷ tests) = cond test 1 0 + passed tests

-- how many are not
abbrev pub failed : List Bool → ℕ
failed [] = 0
failed (test ∷ tests) = cond test 0 1 + failed tests

-- the score of tests that were counted in one by one
abbrev pub score_of : List Bool → Score
score_of tests = record { stand = capped (passed tests); lacking = capped (failed tests) }
