-- Joins regrouped by a key: the joins of the groups join to the whole.
use Rattle.std.specs.Prelude.{◌≡◌, ℕ, zero, suc, ◌+◌, ◌<◌, ◌≤◌, List, length, filter, nat_eq}
use Rattle.std.specs.List.{AllByRecursion as Every}
use Rattle.tallies.specs.Joins.{Joining, joined, most_penalties}

-- The members with the key k.
abbrev pub group : {P : Type 0} → (P → ℕ) → ℕ → List P → List P
group key k xs = filter (λ x. nat_eq (key x) k) xs

-- The join of the n costs g k, g (k + 1), and so on.
abbrev pub span : {P C : Type 0} → Joining P C → (ℕ → C) → ℕ → ℕ → C
span j g k zero = j.empty
span j g k (suc n) = j.join (g k) (span j g (suc k) n)

-- Each key is one of the n numbers k, k + 1, and so on.
abbrev pub Keys : {P : Type 0} → (P → ℕ) → ℕ → ℕ → List P → Type 0
Keys key k n xs = Every (λ x. (k ≤ key x) × (key x < k + n)) xs

-- The joins of the groups of all keys, joined in the order of the keys, are the join of the whole list.
abbrev pub Regroups : {P C : Type 0} → Joining P C → Type 0
Regroups {P = P} j = (key : P → ℕ) (k n : ℕ) (xs : List P) → length xs ≤ most_penalties → Keys key k n xs
    → span j (λ i. joined j (group key i xs)) k n ≡ joined j xs
