-- What the loop of a search keeps, so that a step looks only at what changed: costs of pairs, bounds of the remaining pairs, costs of
-- prefixes, how long the prefixes are that are known not to be refuted, and from which place on the codes are 0.
use Rattle.std.specs.Prelude.{◌≡◌, ℕ, ◌+◌, ◌*◌, ◌<◌, ◌≤◌, Bool, false, List, length, slice_index_or}
use Rattle.points.specs.Scenarios.{pairs, entry}
use Rattle.tallies.specs.Joins.{Joining}
use Rattle.tallies.specs.declared.claim.Claim.{Claim}
use Rattle.rules.specs.declared.row.Row.{Row}
use Rattle.rules.specs.Costs.{cost, pair_cost, spent_on, owed_from}
use Rattle.rules.specs.Steps.{Rules, refuted}
use Rattle.search.specs.Sheets.{Blank}
use Rattle.search.specs.declared.step.Kept.{Kept}

-- A table has the costs of the pairs from k on, of p pairs, under each of b codes, with 64 places to a pair.
abbrev pub Priced : {C : Type 0} → Joining Claim C → ℕ → List Row → ℕ → ℕ → List C → Type 0
Priced j b rows k p prices = (s c : ℕ) → k ≤ s → s < p → c < b → slice_index_or prices (s * 64 + c) j.empty ≡ pair_cost j rows s c

-- A table has the joins of the lower bounds of the pairs from each place from k on.
abbrev pub Owed : {C : Type 0} → Joining Claim C → (C → C → Bool) → ℕ → List Row → ℕ → ℕ → List C → Type 0
Owed j at_most b rows k p owed = (q : ℕ) → k ≤ q → q ≤ p → slice_index_or owed q j.empty ≡ owed_from j at_most b rows p q

-- A table has the costs of the prefixes of a that are shorter than m.
abbrev pub Spent : {C : Type 0} → Joining Claim C → List Row → List ℕ → ℕ → List C → Type 0
Spent j rows a m spent = (q : ℕ) → q < m → slice_index_or spent q j.empty ≡ spent_on j rows a q

-- No prefix of a that is shorter than m is refuted against the cost best.
abbrev pub Stands : {C : Type 0} → Rules C → ℕ → List Row → C → List ℕ → ℕ → Type 0
Stands r n rows best a m = (q : ℕ) → q < m → refuted r n rows best a q ≡ false

-- What is known of the scenario a at the cursor: the costs of its prefixes shorter than m, none of which is refuted.
pub record Known {C : Type 0} (r : Rules C) (n : ℕ) (rows : List Row) (best : C) (a : List ℕ) (m : ℕ) (spent : List C) : Type 0 where
  pub long : length spent ≡ 67
  pub costs : Spent r.joining rows a m spent
  pub stands : Stands r n rows best a m

-- What a search keeps between two steps is true of the incumbent and of the scenario a at the cursor.
pub record Keeps {C : Type 0} (r : Rules C) (n : ℕ) (rows : List Row) (incumbent a : List ℕ) (k : Kept C) (spent : List C) : Type 0 where
  pub best : k.best ≡ cost r.joining rows (entry incumbent)
  pub stands : k.stands ≤ pairs n
  pub filled : k.filled ≤ pairs n
  pub known : Known r n rows k.best a k.stands spent
  pub blank : Blank k.filled a
