-- MAX-QCN: networks of constraints, and values that leave the fewest constraints unsatisfied.
use Rattle.std.specs.Prelude.{◌≡◌, ℕ, ◌^◌, ◌<◌, ◌≤◌, Bool, true, not, List, length, count_by, nat_le, slice_index}
use Rattle.std.specs.List.{AllByRecursion as Every, list_all, range_with_len}
use Rattle.points.specs.Scenarios.{pairs, entry}
use Rattle.points.specs.Sets.{has}
use Rattle.kinds.specs.Meaning.{Meaning}
use Rattle.tallies.specs.Groups.{group}
use Rattle.tallies.specs.Weights.{by_weight}
use Rattle.rules.specs.declared.row.Row.{Row}
use Rattle.rules.specs.Rows.{counting, spot, Proper}
use Rattle.rules.specs.Properly.{proper}
use Rattle.rules.specs.Costs.{cost}
use Rattle.rules.specs.Steps.{Position}
use Rattle.rules.specs.Soundness.{Assignment, scenario_by, Settled, rules}

-- A network gives each pair of items, by its place in a scenario, a constraint: whether it allows a code. The place comes first.
abbrev pub Network : Type 0
Network = ℕ → ℕ → Bool

-- how many of the constraints of n items a scenario leaves unsatisfied: those of the pairs whose code is not allowed
abbrev pub unsatisfied : ℕ → Network → List ℕ → ℕ
unsatisfied n net scenario = count_by (λ s. not (net s (slice_index scenario s))) (range_with_len 0 (pairs n))

-- The network of the rows: a pair allows the codes that its counting statement has in its set, and every code if it has none.
abbrev pub network : List Row → Network
network rows s c = list_all (λ (r : Row). has r.set c) (group spot s (counting rows))

-- Rows that state a network: of the statements that count there is at most one on each pair, and each has the weight 1.
pub record StatesNetwork (n : ℕ) (rows : List Row) : Type 0 where
  pub proper : Proper n rows
  pub one_a_pair : (s : ℕ) → length (group spot s (counting rows)) ≤ 1
  pub all_one : Every (λ (r : Row). r.weight ≡ 1) (counting rows)

-- Rows that a draft of n items may hold, with sets of b codes, and that state this network.
pub record Stated (n b : ℕ) (net : Network) : Type 0 where
  pub rows : List Row
  pub held : proper n rows ≡ true
  pub sets : Every (λ (r : Row). r.set < 2 ^ b) rows
  pub states : StatesNetwork n rows
  pub same : (s c : ℕ) → s < pairs n → c < b → network rows s c ≡ net s c

-- Every network of at most 12 items can be stated.
abbrev pub EveryStated : Type 0
EveryStated = (n b : ℕ) (net : Network) → n ≤ 12 → Stated n b net

-- By weight, the cost of a scenario is the number of constraints that it leaves unsatisfied.
abbrev pub CostsCount : Type 0
CostsCount = (n : ℕ) (rows : List Row) (scenario : List ℕ) → StatesNetwork n rows
    → cost by_weight rows (entry scenario) ≡ unsatisfied n (network rows) scenario

-- A solution of a network: lawful values whose scenario leaves no more constraints unsatisfied than that of any other lawful values.
pub record Solution {V : Type 0} (m : Meaning V) (n : ℕ) (net : Network) (x : ℕ → V) : Type 0 where
  pub lawful : Assignment m n x
  pub fewest : (y : ℕ → V) → Assignment m n y → unsatisfied n net (scenario_by m n x) ≤ unsatisfied n net (scenario_by m n y)

-- Once a search by weight has finished over rows that state a network, the values shown are a solution, and the cost shown with them is
-- the number of constraints that they leave unsatisfied.
abbrev pub MaxQcn : {V : Type 0} → Meaning V → (ℕ → ℕ → ℕ → Bool) → Type 0
MaxQcn {V = V} m fit = (n : ℕ) (rows : List Row) → StatesNetwork n rows
    → (s : Position) (x : ℕ → V) (paid : ℕ) (done : Bool) → Settled m (rules m fit by_weight nat_le) n rows s x paid done → done ≡ true
    → Solution m n (network rows) x × (paid ≡ unsatisfied n (network rows) (scenario_by m n x))
