-- The rows of a sheet, and which of them count and are broken.
use Rattle.std.specs.Prelude.{ℕ, ◌<◌, ◌≤◌, Bool, true, false, not, List, length, filter}
use Rattle.std.specs.List.{AllByRecursion as Every}
use Rattle.points.specs.Scenarios.{place}
use Rattle.points.specs.Sets.{has}
use Rattle.tallies.specs.Joins.{most_penalties}
use Rattle.tallies.specs.declared.claim.Claim.{Claim}
use Rattle.rules.specs.declared.row.Row.{Row}

-- what a tally may look at
abbrev pub claim_of : Row → Claim
claim_of r = record { set = r.set; weight = r.weight; person = r.person; sworn = r.sworn }

-- The statements that take part: those that have not been struck.
abbrev pub counts : Row → Bool
counts r = not r.struck

abbrev pub counting : List Row → List Row
counting rows = filter counts rows

-- A statement is broken where its pair has a code that is not in its set.
abbrev pub breaks : Row → ℕ → Bool
breaks r c = not (has r.set c)

-- The counting statements that are broken where the pair of i and j has the code `f i j`.
abbrev pub broken : (ℕ → ℕ → ℕ) → List Row → List Row
broken f rows = filter (λ (r : Row). breaks r (f r.low r.high)) (counting rows)

-- a row that is read where there is none
abbrev pub no_row : Row
no_row = record { low = 0; high = 0; set = 0; weight = 0; person = 0; sworn = false; struck = false }

-- a row with its mark set, and with another weight
abbrev pub with_struck : Row → Row
with_struck r = record { low = r.low; high = r.high; set = r.set; weight = r.weight; person = r.person; sworn = r.sworn; struck = true }

abbrev pub with_weight : Row → ℕ → Row
with_weight r w = record { low = r.low; high = r.high; set = r.set; weight = w; person = r.person; sworn = r.sworn; struck = r.struck }

-- where the pair of a row stands in a scenario
abbrev pub spot : Row → ℕ
spot r = place r.low r.high

-- At most 256 rows, each on two of n items, the lower first, by a person from 1 to 20: what the mathematics of the search needs of a list.
-- A draft keeps more (`proper`, of which this follows): weights are 1 to 1,000 too.
pub record Proper (n : ℕ) (rows : List Row) : Type 0 where
  pub few : length rows ≤ most_penalties
  pub items : Every (λ (r : Row). (r.low < r.high) × (r.high < n)) rows
  pub persons : Every (λ (r : Row). (1 ≤ r.person) × (r.person ≤ 20)) rows
