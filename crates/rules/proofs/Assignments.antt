-- Assignments: the scenario that one has, what it costs, and the triples that it shows to fit.
use Rattle.std.proofs.Common.{◌≡◌, ℕ, ◌^◌, ◌<◌, List, [], subst, arith}
use Rattle.points.specs.Scenarios.{pairs, entry}
use Rattle.kinds.specs.Meaning.{Meaning, Laws, Fits, Realisation}
use Rattle.tallies.specs.Joins.{Joining}
use Rattle.tallies.specs.declared.claim.Claim.{Claim}
use Rattle.rules.specs.declared.row.Row.{Row}
use Rattle.rules.specs.Rows.{Proper}
use Rattle.rules.specs.Costs.{cost}
use Rattle.rules.specs.Orders.{Below, index}
use Rattle.rules.specs.Soundness.{Assignment, codes_of, scenario_by, cost_by}
use Rattle.rules.proofs.Orders.{index_lt}
use Rattle.rules.proofs.Scenarios.{length_scenario_of, entry_scenario_of, below_scenario_of}
use Rattle.rules.proofs.Costs.{cost_depends}

module _ {V : Type 0} (m : Meaning V) (laws : Laws m) where
  -- Values with the codes c, d and e show that these fit.
  pub fits_by : (u v w : V) → m.lawful u → m.lawful v → m.lawful w → (c d e : ℕ)
      → m.relation u v ≡ c → m.relation v w ≡ d → m.relation u w ≡ e → Fits m c d e
  fits_by u v w lu lv lw c d e first second across = record {
    u = u;
    v = v;
    w = w;
    u_lawful = lu;
    v_lawful = lv;
    w_lawful = lw;
    first = subst (λ (z : ℕ). m.holds z u v) first (laws.one u v lu lv).that;
    second = subst (λ (z : ℕ). m.holds z v w) second (laws.one v w lv lw).that;
    across = subst (λ (z : ℕ). m.holds z u w) across (laws.one u w lu lw).that;
  }

module _ {V : Type 0} (m : Meaning V) (laws : Laws m) (n : ℕ) where
  -- The scenario of an assignment has codes only.
  pub below_scenario_by : (x : ℕ → V) → Assignment m n x → Below m.codes (scenario_by m n x)
  below_scenario_by x law = below_scenario_of m.codes (codes_of m x) n (λ i k ik kn. (laws.one (x i) (x k) (law i (omega arith)) (law k kn)).below)

  -- Its number is below the number of scenarios.
  pub index_scenario_by : (x : ℕ → V) → Assignment m n x → index m.codes (scenario_by m n x) < m.codes ^ pairs n
  index_scenario_by x law =
      subst (λ (p : ℕ). index m.codes (scenario_by m n x) < m.codes ^ p) (length_scenario_of (codes_of m x) n)
      (index_lt m.codes (scenario_by m n x) (below_scenario_by x law))

-- The cost of the scenario of an assignment is the cost of the assignment.
pub cost_scenario_by : {V C : Type 0} (m : Meaning V) (j : Joining Claim C) (n : ℕ) (rows : List Row) → Proper n rows → (x : ℕ → V)
    → cost j rows (entry (scenario_by m n x)) ≡ cost_by m j rows x
cost_scenario_by m j n rows proper x = cost_depends j n rows proper (entry (scenario_by m n x)) (codes_of m x) (entry_scenario_of (codes_of m x) n)

-- The realisation duty at one item gives a lawful value.
pub some_lawful : {V : Type 0} (m : Meaning V) (values : ℕ → List ℕ → ℕ → V) → Realisation m values → m.lawful (values 1 [] 0)
some_lawful m values realises =
    (realises 1 [] (omega arith) (omega arith)
    record { codes = λ i k ik kn. absurd (omega arith); triples = λ i k l ik kl ln. absurd (omega arith) }).lawful 0 (omega arith)
