-- What a search keeps: the incumbent is the first best of the scenarios before the cursor.
use Rattle.std.specs.Prelude.{◌≡◌, ℕ, ◌+◌, ◌<◌, ◌≤◌, Bool, true, false, Decides, List, length, take}
use Rattle.points.specs.Scenarios.{pairs, place, entry}
use Rattle.kinds.specs.Meaning.{Meaning, Fitting}
use Rattle.tallies.specs.Groups.{span}
use Rattle.tallies.specs.Joins.{Joining}
use Rattle.tallies.specs.declared.claim.Claim.{Claim}
use Rattle.rules.specs.declared.row.Row.{Row}
use Rattle.rules.specs.Rows.{Proper}
use Rattle.rules.specs.Costs.{of_rows, cost, charge, pair_cost, pair_bound, sheet_bound, spent_on, prefix_bound}
use Rattle.rules.specs.Orders.{scenario_of, Below, Before, index}
use Rattle.rules.specs.Steps.{Rules, Position, best_cost, unfit, total, step, opening, advance, taken}

-- An assignment gives each of n items a lawful value.
abbrev pub Assignment : {V : Type 0} → Meaning V → ℕ → (ℕ → V) → Type 0
Assignment m n x = (i : ℕ) → i < n → m.lawful (x i)

-- the base relations that hold between the values, and the scenario of n of them
abbrev pub codes_of : {V : Type 0} → Meaning V → (ℕ → V) → ℕ → ℕ → ℕ
codes_of m x i j = m.relation (x i) (x j)

abbrev pub scenario_by : {V : Type 0} → Meaning V → ℕ → (ℕ → V) → List ℕ
scenario_by m n x = scenario_of (codes_of m x) n

-- The cost of an assignment: the join of the penalties of the counting statements that it breaks.
abbrev pub cost_by : {V C : Type 0} → Meaning V → Joining Claim C → List Row → (ℕ → V) → C
cost_by m j rows x = cost j rows (codes_of m x)

-- The invariant of a search.
pub record Sound {V C : Type 0} (m : Meaning V) (r : Rules C) (n : ℕ) (rows : List Row) (s : Position) : Type 0 where
  -- The incumbent has a code for each pair, and its triples all fit.
  pub long : length s.incumbent ≡ pairs n
  pub codes : Below r.codes s.incumbent
  pub fitting : Fitting m n s.incumbent
  -- The cursor is at a scenario after the incumbent, or past the last.
  pub within : s.cursor ≤ total r n
  pub behind : index r.codes s.incumbent < s.cursor
  -- no assignment whose scenario lies before the cursor costs less
  pub best : (x : ℕ → V) → Assignment m n x → index r.codes (scenario_by m n x) < s.cursor → r.at_most (best_cost r rows s) (cost_by m r.joining rows x) ≡ true
  -- and each whose scenario lies before the incumbent costs more
  pub first : (x : ℕ → V) → Assignment m n x → Before (scenario_by m n x) s.incumbent → r.at_most (cost_by m r.joining rows x) (best_cost r rows s) ≡ false

-- A step keeps it and moves the cursor on.
pub record StepKeeps {V C : Type 0} (m : Meaning V) (r : Rules C) (n : ℕ) (rows : List Row) (s : Position) : Type 0 where
  pub sound : Sound m r n rows (step r n rows s)
  pub on : s.cursor < (step r n rows s).cursor

-- So does a search of up to k steps.
pub record SearchKeeps {V C : Type 0} (m : Meaning V) (r : Rules C) (n : ℕ) (rows : List Row) (k : ℕ) (s : Position) : Type 0 where
  pub sound : Sound m r n rows (advance r n rows k s)
  -- the cursor moves by as many places as steps are taken, at least
  pub on : s.cursor + taken r n rows k s ≤ (advance r n rows k s).cursor
  -- all k steps are taken, unless the search has then finished, and never more
  pub all : (advance r n rows k s).cursor < total r n → taken r n rows k s ≡ k
  pub most : taken r n rows k s ≤ k

-- The theorem on the search: closing starts it soundly, and every search keeps it so.
abbrev pub SearchSound : {V C : Type 0} → Meaning V → Rules C → Type 0
SearchSound m r = (n : ℕ) (rows : List Row) → Proper n rows →
    Sound m r n rows (opening n) × ((k : ℕ) (s : Position) → Sound m r n rows s → SearchKeeps m r n rows k s)

-- What is promised of values x that are shown with a cost while a search stands at s, `done` saying whether it has finished.
pub record Settled {V C : Type 0} (m : Meaning V) (r : Rules C) (n : ℕ) (rows : List Row) (s : Position) (x : ℕ → V) (paid : C) (done : Bool) : Type 0 where
  -- The values are lawful, and the cost is the join of the penalties of exactly the counting statements that they break.
  pub lawful : Assignment m n x
  pub exact : paid ≡ cost_by m r.joining rows x
  -- No assignment whose scenario lies before the cursor costs less.
  pub so_far : (y : ℕ → V) → Assignment m n y → index r.codes (scenario_by m n y) < s.cursor → r.at_most paid (cost_by m r.joining rows y) ≡ true
  -- Once the search has finished, no assignment at all costs less.
  pub least : done ≡ true → (y : ℕ → V) → Assignment m n y → r.at_most paid (cost_by m r.joining rows y) ≡ true
  -- Each assignment whose scenario lies before that of x costs more: x is the first of its cost.
  pub first : (y : ℕ → V) → Assignment m n y → Before (scenario_by m n y) (scenario_by m n x) → r.at_most (cost_by m r.joining rows y) paid ≡ false

-- The lower bound of a sheet is at most the cost of each of its assignments.
abbrev pub BoundBelow : {V C : Type 0} → Meaning V → Rules C → Type 0
BoundBelow {V = V} m r = (n : ℕ) (rows : List Row) → Proper n rows → (y : ℕ → V) → Assignment m n y
    → r.at_most (sheet_bound r.joining r.at_most r.codes n rows) (cost_by m r.joining rows y) ≡ true

-- The lower bound of a pair is the least of its costs: its cost under some code, and at most that under each.
abbrev pub BoundLeast : {C : Type 0} → Rules C → Type 0
BoundLeast r = (n : ℕ) (rows : List Row) → Proper n rows → (s : ℕ)
    → ((c : ℕ) × (c < r.codes) × (pair_bound r.joining r.at_most r.codes rows s ≡ pair_cost r.joining rows s c))
    × ((c : ℕ) → c < r.codes → r.at_most (pair_bound r.joining r.at_most r.codes rows s) (pair_cost r.joining rows s c) ≡ true)

-- The scenarios of n items, fitting or not, that begin with the first q codes of a.
pub record Begins {C : Type 0} (r : Rules C) (n q : ℕ) (a e : List ℕ) : Type 0 where
  pub long : length e ≡ pairs n
  pub codes : Below r.codes e
  pub shared : take q e ≡ take q a

-- The lower bound of a prefix, the first q codes of a, is the least cost of all scenarios that begin with it.
pub record PrefixLeast {C : Type 0} (r : Rules C) (n : ℕ) (rows : List Row) (q : ℕ) (a : List ℕ) : Type 0 where
  -- It is the cost of one of them, and at most the cost of each.
  pub attained : (e : List ℕ) × Begins r n q a e × (prefix_bound r.joining r.at_most r.codes (pairs n) rows q a ≡ cost r.joining rows (entry e))
  pub below : (e : List ℕ) → Begins r n q a e → r.at_most (prefix_bound r.joining r.at_most r.codes (pairs n) rows q a) (cost r.joining rows (entry e)) ≡ true
  -- That of the empty prefix is the lower bound of the sheet, and that of a whole scenario is its cost.
  pub empty : q ≡ 0 → prefix_bound r.joining r.at_most r.codes (pairs n) rows q a ≡ sheet_bound r.joining r.at_most r.codes n rows
  pub whole : q ≡ pairs n → prefix_bound r.joining r.at_most r.codes (pairs n) rows q a ≡ cost r.joining rows (entry a)

-- So it is with every prefix of any codes.
abbrev pub PrefixesLeast : {C : Type 0} → Rules C → Type 0
PrefixesLeast r = (n : ℕ) (rows : List Row) (q : ℕ) (a : List ℕ) → Proper n rows → q ≤ pairs n → q ≤ length a → Below r.codes a → PrefixLeast r n rows q a

-- Items i < j < k whose pairs are all among the first q, (j, k) being the last of them, and have codes that do not fit.
pub record Misfit {C : Type 0} (r : Rules C) (n q : ℕ) (a : List ℕ) : Type 0 where
  pub i : ℕ
  pub j : ℕ
  pub k : ℕ
  pub first : i < j
  pub second : j < k
  pub third : k < n
  pub held : place j k < q
  pub fails : r.fit (entry a i j) (entry a j k) (entry a i k) ≡ false

-- A prefix is unfit exactly if it holds a triple that does not fit.
abbrev pub Unfits : {C : Type 0} → Rules C → Type 0
Unfits r = (n q : ℕ) (a : List ℕ) → Decides (unfit r n q a) (Misfit r n q a)

-- A search of k steps and then of l is one of k + l steps.
abbrev pub InParts : {C : Type 0} → Rules C → Type 0
InParts r = (n : ℕ) (rows : List Row) (k l : ℕ) (s : Position)
    → (advance r n rows (k + l) s ≡ advance r n rows l (advance r n rows k s))
    × (taken r n rows (k + l) s ≡ taken r n rows k s + taken r n rows l (advance r n rows k s))

-- The costs of the pairs join to the cost of a scenario.
abbrev pub PairsJoin : {C : Type 0} → Joining Claim C → Type 0
PairsJoin j = (n : ℕ) (rows : List Row) (a : List ℕ) → Proper n rows → spent_on j rows a (pairs n) ≡ cost j rows (entry a)

-- The charges of the persons 1 to 20 join to the cost.
abbrev pub ChargesJoin : {C : Type 0} → Joining Claim C → Type 0
ChargesJoin j = (n : ℕ) (rows : List Row) (f : ℕ → ℕ → ℕ) → Proper n rows → span (of_rows j) (charge j rows f) 1 20 ≡ cost j rows f

-- the rules of a kind and a tally
abbrev pub rules : {V C : Type 0} → Meaning V → (ℕ → ℕ → ℕ → Bool) → Joining Claim C → (C → C → Bool) → Rules C
rules m fit j at_most = record { codes = m.codes; fit = fit; joining = j; at_most = at_most }
