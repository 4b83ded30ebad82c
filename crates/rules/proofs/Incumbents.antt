-- What the incumbent of a sound search is: the scenario of an assignment, and of least cost once the search has finished.
use Rattle.std.proofs.Common.{◌≡◌, ℕ, ◌<◌, Bool, true, List, sym, subst, arith}
use Rattle.std.proofs.lemmas.Bool.{leb-true}
use Rattle.points.specs.Scenarios.{entry}
use Rattle.kinds.specs.Meaning.{Meaning, Laws, Realises}
use Rattle.tallies.specs.Joins.{Joining}
use Rattle.tallies.specs.declared.claim.Claim.{Claim}
use Rattle.rules.specs.declared.row.Row.{Row}
use Rattle.rules.specs.Rows.{Proper}
use Rattle.rules.specs.Orders.{Before}
use Rattle.rules.specs.Steps.{Rules, Position, best_cost, total, finished}
use Rattle.rules.specs.Soundness.{Assignment, codes_of, scenario_by, cost_by, Sound, Settled, rules}
use Rattle.rules.proofs.Scenarios.{scenario_of_entries}
use Rattle.rules.proofs.Costs.{cost_depends}
use Rattle.rules.proofs.Assignments.{index_scenario_by}

-- Once the search has finished, every assignment costs at least as much as the incumbent.
pub finished_least : {V C : Type 0} (m : Meaning V) → Laws m → (fit : ℕ → ℕ → ℕ → Bool) (j : Joining Claim C) (at_most : C → C → Bool)
    (n : ℕ) (rows : List Row) (s : Position) → Sound m (rules m fit j at_most) n rows s → finished (rules m fit j at_most) n s ≡ true
    → (x : ℕ → V) → Assignment m n x → at_most (best_cost (rules m fit j at_most) rows s) (cost_by m j rows x) ≡ true
finished_least m laws fit j at_most n rows s sound done x law =
    sound.best x law (omega (arith, index_scenario_by m laws n x law, leb-true (total (rules m fit j at_most) n) s.cursor done))

-- Values that have the scenario of the incumbent of a sound search are an assignment with that scenario, and cost what the incumbent does.
realised : {V C : Type 0} (m : Meaning V) → Laws m → (r : Rules C) (n : ℕ) (rows : List Row) → Proper n rows
    → (s : Position) → Sound m r n rows s → (x : ℕ → V) → Realises m n s.incumbent x
    → Assignment m n x × (scenario_by m n x ≡ s.incumbent) × (cost_by m r.joining rows x ≡ best_cost r rows s)
realised m laws r n rows proper s sound x real =
    let codes : (i k : ℕ) → i < k → k < n → m.relation (x i) (x k) ≡ entry s.incumbent i k =
    λ i k ik kn. sym ((laws.one (x i) (x k) (real.lawful i (omega arith)) (real.lawful k kn)).only (entry s.incumbent i k) (real.related i k ik kn)) in (
      real.lawful,
      scenario_of_entries (codes_of m x) n s.incumbent sound.long codes,
      cost_depends r.joining n rows proper (codes_of m x) (entry s.incumbent) codes,
    )

-- Values that have the scenario of the incumbent of a sound search, with the cost of the incumbent, are settled.
pub settled : {V C : Type 0} (m : Meaning V) → Laws m → (fit : ℕ → ℕ → ℕ → Bool) (j : Joining Claim C) (at_most : C → C → Bool)
    (n : ℕ) (rows : List Row) → Proper n rows → (s : Position) → Sound m (rules m fit j at_most) n rows s
    → (x : ℕ → V) → Realises m n s.incumbent x
    → Settled m (rules m fit j at_most) n rows s x (best_cost (rules m fit j at_most) rows s) (finished (rules m fit j at_most) n s)
settled m laws fit j at_most n rows proper s sound x real =
    let is = realised m laws (rules m fit j at_most) n rows proper s sound x real in
    record {
      lawful = is.0;
      exact = sym is.2;
      so_far = sound.best;
      least = finished_least m laws fit j at_most n rows s sound;
      first = λ y law before. sound.first y law (subst (λ (a : List ℕ). Before (scenario_by m n y) a) is.1 before);
    }
