-- A closed sheet as the code holds it, and the position of its search.
use Rattle.std.specs.Prelude.{◌≡◌, ℕ, ◌^◌, ◌≤◌, Bool, true, Option, Some, None, List, length, take, nat_lt, slice_index}
use Rattle.std.specs.List.{list_all}
use Rattle.points.specs.Scenarios.{pairs}
use Rattle.rules.specs.Orders.{index}
use Rattle.rules.specs.Steps.{Position, position}

-- every code is below b
abbrev pub all_below : ℕ → List ℕ → Bool
all_below b a = list_all (λ c. nat_lt c b) a

-- The codes of a are 0 from place m on.
abbrev pub Blank : ℕ → List ℕ → Type 0
Blank m a = (k : ℕ) → m ≤ k → slice_index a k ≡ 0

-- An array holds a scenario of p pairs: it has 66 places, a code below b for each pair at its front, and 0 behind them.
pub record Holds (b p : ℕ) (a : List ℕ) : Type 0 where
  pub long : length a ≡ 66
  pub below : all_below b (take p a) ≡ true
  pub rest : Blank p a

-- The number of the scenario that an array holds, or where there is none, how many scenarios there are.
abbrev pub number_at : ℕ → ℕ → Option (List ℕ) → ℕ
number_at b p None = b ^ p
number_at b p (Some a) = index b (take p a)

-- Where the search stands: the codes of the first pairs of an array, and the scenario that is left to look at.
abbrev pub stands_at : ℕ → ℕ → List ℕ → Option (List ℕ) → Position
stands_at b n incumbent cursor = position (take (pairs n) incumbent) (number_at b (pairs n) cursor)
