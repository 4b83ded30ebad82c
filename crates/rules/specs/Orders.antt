-- Scenarios in dictionary order, the first pair counting most, and their numbers in that order.
use Rattle.std.specs.Prelude.{◌≡◌, ℕ, zero, suc, ◌+◌, ◌-◌, ◌*◌, ◌/◌, ◌%◌, ◌^◌, ◌<◌, ◌≤◌, ◌⊎◌, ◌↔◌, List, [], ◌∷◌, ◌++◌, length, take}
use Rattle.std.specs.List.{AllByRecursion as Every}

-- the codes of the pairs (0, j), .., (i - 1, j), where the pair of i and j has the code f i j
abbrev pub column : (ℕ → ℕ → ℕ) → ℕ → ℕ → List ℕ
column f j zero = []
column f j (suc i) = column f j i ++ (f i j ∷ [])

-- those of all pairs of n items, in their order: (0, 1), (0, 2), (1, 2), (0, 3), and so on
abbrev pub scenario_of : (ℕ → ℕ → ℕ) → ℕ → List ℕ
scenario_of f zero = []
scenario_of f (suc j) = scenario_of f j ++ column f j j

-- every code is below b
abbrev pub Below : ℕ → List ℕ → Type 0
Below b scenario = Every (λ c. c < b) scenario

-- dictionary order, of scenarios of one length
abbrev pub Before : List ℕ → List ℕ → Type 0
Before [] e = ⊥
Before (c ∷ a) [] = ⊥
Before (c ∷ a) (d ∷ e) = (c < d) ⊎ ((c ≡ d) × Before a e)

-- how many scenarios lie before this one: its codes as the digits of a number in base b
abbrev pub index : ℕ → List ℕ → ℕ
index b [] = 0
index b (c ∷ a) = c * b ^ length a + index b a

-- the scenario of p pairs that has m before it
abbrev pub digits : ℕ → ℕ → ℕ → List ℕ
digits b zero m = []
digits b (suc p) m = (m / b ^ p) % b ∷ digits b p m

-- the first number past all scenarios that share the first q codes of the one numbered m
abbrev pub past : ℕ → ℕ → ℕ → ℕ → ℕ
past b p q m = (m / b ^ (p - q) + 1) * b ^ (p - q)

-- The number keeps dictionary order.
abbrev pub InOrder : ℕ → Type 0
InOrder b = (a e : List ℕ) → Below b a → Below b e → length a ≡ length e → (Before a e ↔ (index b a < index b e))

-- The scenarios of p pairs with codes below b are numbered from 0 to b ^ p - 1.
pub record Numbers (b : ℕ) : Type 0 where
  -- Each has a number there, and its codes are the digits of that number.
  pub within : (a : List ℕ) → Below b a → index b a < b ^ length a
  pub same : (a : List ℕ) → Below b a → digits b (length a) (index b a) ≡ a
  -- Each number there has as digits the codes of a scenario with that number.
  pub long : (p m : ℕ) → m < b ^ p → length (digits b p m) ≡ p
  pub codes : (p m : ℕ) → m < b ^ p → Below b (digits b p m)
  pub number : (p m : ℕ) → m < b ^ p → index b (digits b p m) ≡ m

-- Of the scenarios from a on, those that share its first q codes are just those numbered below `past`.
abbrev pub Skips : ℕ → Type 0
Skips b = (q : ℕ) (a e : List ℕ) → Below b a → Below b e → length e ≡ length a → q ≤ length a → index b a ≤ index b e
    → ((take q e ≡ take q a) ↔ (index b e < past b (length a) q (index b a)))
