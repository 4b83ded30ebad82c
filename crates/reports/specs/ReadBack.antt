-- What can be read back of a report.
use Rattle.std.specs.Prelude.{◌≡◌, ℕ, ◌-◌, ◌^◌, ◌<◌, Bool, true, List, [], ◌∷◌, length, ◌⊎◌}
use Rattle.std.specs.List.{AllByRecursion}
use Rattle.reports.specs.Lines.{Print}
use Rattle.reports.specs.Account.{Account, report_on}

-- The numbers of an account fit 64 bits, and each text in its report has less than 64 bytes, as those of all that a program holds.
pub record Short {V C : Type 0} (p : Print V C) (n : ℕ) (a : Account V C) : Type 0 where
  pub number : n < 2 ^ 64
  pub items : length a.values < 2 ^ 64
  pub persons : length a.charges < 2 ^ 64 - 1
  pub values : AllByRecursion (λ v. length (p.value v) < 64) a.values
  pub cost : length (p.cost a.cost) < 64
  pub floor : length (p.cost a.floor) < 64
  pub charges : AllByRecursion (λ c. length (p.cost c) < 64) a.charges

-- Each person is charged the same in both lists, or nothing in both, as a person past the end of a list is.
abbrev pub SameCharges : {C : Type 0} → (C → Bool) → List C → List C → Type 0
SameCharges nothing [] [] = Unit {0}
SameCharges nothing [] (d ∷ ds) = (nothing d ≡ true) × SameCharges nothing [] ds
SameCharges nothing (c ∷ cs) [] = (nothing c ≡ true) × SameCharges nothing cs []
SameCharges nothing (c ∷ cs) (d ∷ ds) = (((nothing c ≡ true) × (nothing d ≡ true)) ⊎ (c ≡ d)) × SameCharges nothing cs ds

-- The sheets m and n have the same number, and their accounts the same values, cost, lower bound, state and charges.
pub record Alike {V C : Type 0} (nothing : C → Bool) (m n : ℕ) (a b : Account V C) : Type 0 where
  pub number : m ≡ n
  pub values : a.values ≡ b.values
  pub cost : a.cost ≡ b.cost
  pub floor : a.floor ≡ b.floor
  pub finished : a.finished ≡ b.finished
  pub charges : SameCharges nothing a.charges b.charges

-- Reports with the same bytes, of the same kind and tally, are alike.
abbrev pub ReadBack : {V C : Type 0} → Print V C → (C → Bool) → Type 0
ReadBack {V = V} {C = C} p nothing = (m n : ℕ) (a b : Account V C) → Short p m a → report_on p nothing m a ≡ report_on p nothing n b → Alike nothing m n a b
