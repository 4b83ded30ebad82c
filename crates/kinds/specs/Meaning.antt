-- What a kind of item means: its lawful values and the base relation that holds from one to another; what it owes; scenarios.
use Rattle.std.specs.Prelude.{◌≡◌, ℕ, ◌<◌, ◌≤◌, List}
use Rattle.points.specs.Scenarios.{entry}

-- A kind with values in V. In the logic a number of a value is any natural number, so `(u : V) → ..` speaks of all values, however large.
pub record Meaning (V : Type 0) : Type 1 where
  -- how many base relations there are; their codes are the numbers below it
  pub codes : ℕ
  pub lawful : V → Type 0
  -- the base relation with this code holds from the first value to the second
  pub holds : ℕ → V → V → Type 0
  -- the code of the base relation that holds
  pub relation : V → V → ℕ
  -- the code of the converse of a base relation
  pub converse : ℕ → ℕ

-- Exactly one base relation holds from u to v, the one that `relation` tells: `below` and `that` say that the base relations are jointly
-- exhaustive, `only` that they are pairwise disjoint.
pub record ExactlyOne {V : Type 0} (m : Meaning V) (u v : V) : Type 0 where
  pub below : m.relation u v < m.codes
  pub that : m.holds (m.relation u v) u v
  pub only : (c : ℕ) → m.holds c u v → c ≡ m.relation u v

-- The duties of a kind. Its base relations are jointly exhaustive and pairwise disjoint: of two lawful values exactly one holds (`one`).
-- Code 0 holds of a value and itself (`self`), and the converse of a base relation holds the other way (`turned`).
pub record Laws {V : Type 0} (m : Meaning V) : Type 0 where
  pub some_codes : 1 ≤ m.codes
  pub few_codes : m.codes ≤ 64
  pub one : (u v : V) → m.lawful u → m.lawful v → ExactlyOne m u v
  pub self : (u : V) → m.lawful u → m.holds 0 u u
  pub turned : (u v : V) → m.lawful u → m.lawful v → (c : ℕ) → m.holds c u v → m.holds (m.converse c) v u

-- What the base relations of a kind owe to be a partition scheme: none is empty, as each holds of some lawful values (`occurs`), and the
-- identity is one of them, as code 0 holds of no two values that differ (`only_self`).
pub record Partition {V : Type 0} (m : Meaning V) : Type 0 where
  pub occurs : (c : ℕ) → c < m.codes → (u : V) × (v : V) × m.lawful u × m.lawful v × m.holds c u v
  pub only_self : (u v : V) → m.lawful u → m.lawful v → m.holds 0 u v → u ≡ v

-- The converse of a code is a code, and the converse of that is the code itself.
pub record Involutive {V : Type 0} (m : Meaning V) : Type 0 where
  pub code : (c : ℕ) → c < m.codes → m.converse c < m.codes
  pub back : (c : ℕ) → c < m.codes → m.converse (m.converse c) ≡ c

-- A triple of base relations fits: lawful values u, v and w exist with c from u to v, d from v to w and e from u to w.
pub record Fits {V : Type 0} (m : Meaning V) (c d e : ℕ) : Type 0 where
  pub u : V
  pub v : V
  pub w : V
  pub u_lawful : m.lawful u
  pub v_lawful : m.lawful v
  pub w_lawful : m.lawful w
  pub first : m.holds c u v
  pub second : m.holds d v w
  pub across : m.holds e u w

-- Every entry of a scenario of n items is a code, and every triple i < j < k of it fits: (i, j), (j, k) and (i, k). Such a scenario is an
-- atomic network that is algebraically closed (path-consistent).
pub record Fitting {V : Type 0} (m : Meaning V) (n : ℕ) (scenario : List ℕ) : Type 0 where
  pub codes : (i j : ℕ) → i < j → j < n → entry scenario i j < m.codes
  pub triples : (i j k : ℕ) → i < j → j < k → k < n → Fits m (entry scenario i j) (entry scenario j k) (entry scenario i k)

-- The values are lawful and have exactly this scenario.
pub record Realises {V : Type 0} (m : Meaning V) (n : ℕ) (scenario : List ℕ) (value : ℕ → V) : Type 0 where
  pub lawful : (i : ℕ) → i < n → m.lawful (value i)
  pub related : (i j : ℕ) → i < j → j < n → m.holds (entry scenario i j) (value i) (value j)

-- The realisation duty: for 1 to 12 items, the values for a scenario whose triples all fit have it. So each algebraically closed atomic
-- network of so many items has a solution.
abbrev pub Realisation : {V : Type 0} → Meaning V → (ℕ → List ℕ → ℕ → V) → Type 0
Realisation m values = (n : ℕ) (scenario : List ℕ) → 1 ≤ n → n ≤ 12 → Fitting m n scenario → Realises m n scenario (values n scenario)
