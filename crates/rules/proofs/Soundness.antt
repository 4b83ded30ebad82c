-- The search is sound: closing starts it so, and each step keeps it so.
use Rattle.std.proofs.Common.{◌≡◌, ℕ, zero, suc, ◌+◌, ◌<◌, ◌≤◌, Bool, true, false, leb, List, [], length, replicate, Decides, sym, refl, ap, ◌∙◌, subst, inl, inr, arith}
use native.Mathlib.Nat.{one-le-pow}
use Rattle.std.proofs.lemmas.List.{length-replicate, get_or-replicate}
use Rattle.std.proofs.lemmas.Bool.{cases_Bool, cases_lt, both_ways, or_parts, cond_both, leb-true, leb-false}
use Rattle.points.specs.Scenarios.{pairs, place, entry}
use Rattle.points.proofs.Placed.{place_within}
use Rattle.kinds.specs.Meaning.{Meaning, Laws, Fits, Realisation}
use Rattle.tallies.specs.Joins.{Joining, Monoid, Ranking}
use Rattle.tallies.specs.declared.claim.Claim.{Claim}
use Rattle.rules.specs.declared.row.Row.{Row}
use Rattle.rules.specs.Rows.{Proper}
use Rattle.rules.specs.Costs.{cost, prefix_bound}
use Rattle.rules.specs.Orders.{Below, index, digits, past}
use Rattle.rules.specs.Steps.{Rules, Position, position, unfit, refuted, looked_at, best_cost, shortest, step, total, opening, finished, advance, taken}
use Rattle.rules.specs.Soundness.{codes_of, scenario_by, cost_by, Sound, StepKeeps, SearchKeeps, SearchSound, rules}
use Rattle.rules.proofs.Orders.{index_same, in_order, length_digits, below_digits, index_digits, below_zeros, index_zeros, shares_prefix, past_beyond, past_within}
use Rattle.rules.proofs.Scenarios.{length_scenario_of}
use Rattle.rules.proofs.Bounds.{prefix_bound_whole}
use Rattle.rules.proofs.Steps.{first_passes, first_none}
use Rattle.rules.proofs.Compared.{cost_reflexive, cost_total, cost_transitive}
use Rattle.rules.proofs.Assignments.{fits_by, below_scenario_by, cost_scenario_by, some_lawful}
use Rattle.rules.proofs.Refuted.{fitting_whole, refuted_above}

module _ {V C : Type 0} (m : Meaning V) (laws : Laws m) (fit : ℕ → ℕ → ℕ → Bool) (decides : (c d e : ℕ) → Decides (fit c d e) (Fits m c d e))
    (j : Joining Claim C) (monoid : Monoid j) (at_most : C → C → Bool) (ranking : Ranking j at_most)
    (n : ℕ) (rows : List Row) (proper : Proper n rows) where
  -- The rules of this kind and this tally.
  abbrev the_rules : Rules C
  the_rules = rules m fit j at_most

  -- A search stays sound as its cursor moves past a refuted prefix.
  past_sound : (s : Position) → Sound m the_rules n rows s → s.cursor < total the_rules n → (q : ℕ) → q ≤ pairs n
      → refuted the_rules n rows (best_cost the_rules rows s) (looked_at the_rules n s) q ≡ true
      → Sound m the_rules n rows (position s.incumbent (past m.codes (pairs n) q s.cursor))
  past_sound s sound room q qp bad =
      let b : ℕ = m.codes in
      let pos : 0 < m.codes = laws.some_codes in
      record {
        long = sound.long;
        codes = sound.codes;
        fitting = sound.fitting;
        within = past_within b (pairs n) q s.cursor pos qp room;
        behind = omega (arith, past_beyond b (pairs n) q s.cursor pos, sound.behind);
        best = λ x law before. elim (cases_lt (index b (scenario_by m n x)) s.cursor) [
          | inl old ↦ sound.best x law old
          | inr new ↦ refuted_above m laws fit decides j monoid at_most ranking n rows proper (entry s.incumbent) (digits b (pairs n) s.cursor) q qp bad x law
              (shares_prefix b (pairs n) q s.cursor (scenario_by m n x) pos qp room (below_scenario_by m laws n x law)
              (length_scenario_of (codes_of m x) n) new before)
        ];
        first = sound.first;
      }

  -- A search stays sound as a scenario of which no prefix is refuted becomes the incumbent.
  improved_sound : (s : Position) → Sound m the_rules n rows s → s.cursor < total the_rules n
      → refuted the_rules n rows (best_cost the_rules rows s) (looked_at the_rules n s) (pairs n) ≡ false
      → Sound m the_rules n rows (position (looked_at the_rules n s) (s.cursor + 1))
  improved_sound s sound room good =
      let b : ℕ = m.codes in
      let p : ℕ = pairs n in
      let pos : 0 < m.codes = laws.some_codes in
      let old : ℕ → ℕ → ℕ = entry s.incumbent in
      let a : List ℕ = digits b p s.cursor in
      let long : length a ≡ p = length_digits b p s.cursor in
      let low : Below m.codes a = below_digits b p s.cursor pos in
      let number : index b a ≡ s.cursor = index_digits b p s.cursor pos room in
      let both = or_parts (unfit the_rules n p a) (at_most (cost j rows old) (prefix_bound j at_most b p rows p a)) good in
      let over : at_most (cost j rows old) (cost j rows (entry a)) ≡ false =
      subst (λ (z : C). at_most (cost j rows old) z ≡ false) (prefix_bound_whole j monoid at_most n rows proper b a) both.1 in
      let better = cost_total j monoid at_most ranking n rows proper old (entry a) over in
      record {
        long = long;
        codes = low;
        fitting = fitting_whole m laws fit decides j monoid at_most ranking n rows proper a long low both.0;
        within = omega arith;
        behind = omega (arith, number);
        best = λ x law before. elim (cases_lt (index b (scenario_by m n x)) s.cursor) [
          | inl earlier ↦ cost_transitive j monoid at_most ranking n rows proper (entry a) old (codes_of m x) better (sound.best x law earlier)
          | inr here ↦ (let at_cursor : index b (scenario_by m n x) ≡ s.cursor = omega arith in
              let same : scenario_by m n x ≡ a =
              index_same b (scenario_by m n x) a (below_scenario_by m laws n x law) low (length_scenario_of (codes_of m x) n ∙ sym long) (at_cursor ∙ sym number) in
              subst (λ (z : C). at_most (cost j rows (entry a)) z ≡ true) (ap (λ (e : List ℕ). cost j rows (entry e)) (sym same) ∙ cost_scenario_by m j n rows proper x)
              (cost_reflexive j monoid at_most ranking n rows proper (entry a)))
        ];
        first = λ x law before.
            let lower : index b (scenario_by m n x) < index b a =
            (in_order b (scenario_by m n x) a (below_scenario_by m laws n x law) low (length_scenario_of (codes_of m x) n ∙ sym long)).0 before in
            elim (cases_Bool (at_most (cost_by m j rows x) (cost j rows (entry a)))) [
              | inl tie ↦ absurd (both_ways (at_most (cost j rows old) (cost j rows (entry a))) over
                  (cost_transitive j monoid at_most ranking n rows proper old (codes_of m x) (entry a) (sound.best x law (omega arith)) tie))
              | inr more ↦ more
            ];
      }

  -- A step keeps a search sound and moves its cursor on.
  pub step_keeps : (s : Position) → Sound m the_rules n rows s → s.cursor < total the_rules n
      → StepKeeps m the_rules n rows s
  step_keeps s sound room =
      let q : ℕ = shortest the_rules n rows s in
      let bad : ℕ → Bool = refuted the_rules n rows (best_cost the_rules rows s) (looked_at the_rules n s) in
      let skipped : Position = position s.incumbent (past m.codes (pairs n) q s.cursor) in
      let improved : Position = position (looked_at the_rules n s) (s.cursor + 1) in
      let kept : Sound m the_rules n rows (step the_rules n rows s) × (s.cursor < (step the_rules n rows s).cursor) =
      cond_both (leb q (pairs n)) skipped improved (λ (t : Position). Sound m the_rules n rows t × (s.cursor < t.cursor))
      (λ e. let qp : q ≤ pairs n = leb-true q (pairs n) e in
      (past_sound s sound room q qp (first_passes bad (pairs n + 1) 0 (omega arith)), past_beyond m.codes (pairs n) q s.cursor laws.some_codes))
      (λ e. let pq : pairs n < q = leb-false q (pairs n) e in
      (improved_sound s sound room (first_none bad (pairs n + 1) 0 (omega arith) (pairs n) (omega arith) (omega arith)), omega arith)) in
      record { sound = kept.0; on = kept.1 }

  -- Closing starts a search soundly, if there is a lawful value.
  opening_sound : (u : V) → m.lawful u → Sound m the_rules n rows (opening n)
  opening_sound u lawful =
      let b : ℕ = m.codes in
      let pos : 0 < m.codes = laws.some_codes in
      let zeros : List ℕ = replicate (pairs n) 0 in
      let long : length zeros ≡ pairs n = length-replicate (pairs n) 0 in
      let low : Below m.codes zeros = below_zeros b (pairs n) pos in
      let number : index b zeros ≡ 0 = index_zeros b (pairs n) in
      let self : 0 ≡ m.relation u u = (laws.one u u lawful lawful).only 0 (laws.self u lawful) in
      let at : (i k : ℕ) → i < k → k < n → 0 ≡ entry zeros i k = λ i k ik kn. sym (get_or-replicate (pairs n) (place i k) 0 0 (place_within i k n ik kn)) in
      record {
        long = long;
        codes = low;
        fitting = record {
          codes = λ i k ik kn. omega (arith, at i k ik kn);
          triples = λ i k l ik kl ln. fits_by m laws u u u lawful lawful lawful (entry zeros i k) (entry zeros k l) (entry zeros i l)
              (sym self ∙ at i k ik (omega arith)) (sym self ∙ at k l kl ln) (sym self ∙ at i l (omega arith) ln);
        };
        within = one-le-pow (pairs n) b pos;
        behind = omega (arith, number);
        best = λ x law before.
            let first_number : index b (scenario_by m n x) ≡ 0 = omega arith in
            let same : scenario_by m n x ≡ zeros =
            index_same b (scenario_by m n x) zeros (below_scenario_by m laws n x law) low (length_scenario_of (codes_of m x) n ∙ sym long) (first_number ∙ sym number) in
            subst (λ (z : C). at_most (cost j rows (entry zeros)) z ≡ true) (ap (λ (e : List ℕ). cost j rows (entry e)) (sym same) ∙ cost_scenario_by m j n rows proper x)
            (cost_reflexive j monoid at_most ranking n rows proper (entry zeros));
        first = λ x law before. absurd (omega (
          arith,
          number,
          (in_order b (scenario_by m n x) zeros (below_scenario_by m laws n x law) low (length_scenario_of (codes_of m x) n ∙ sym long)).0 before,
        ));
      }

  -- A search of up to k steps keeps it sound.
  pub search_keeps : (k : ℕ) (s : Position) → Sound m the_rules n rows s → SearchKeeps m the_rules n rows k s
  search_keeps zero s sound = record { sound = sound; on = omega arith; all = λ h. refl; most = omega arith }
  search_keeps (suc k) s sound =
      let next : Position = step the_rules n rows s in
      let Kept : Position → ℕ → Type 0 = λ p t. Sound m the_rules n rows p × (s.cursor + t ≤ p.cursor) × (p.cursor < total the_rules n → t ≡ suc k) × (t ≤ suc k) in
      let kept : Kept (advance the_rules n rows (suc k) s) (taken the_rules n rows (suc k) s) =
      elim (cases_Bool (finished the_rules n s)) [
        | inl e ↦ simp e (sound, omega arith, λ h. absurd (omega (arith, leb-true (total the_rules n) s.cursor e)), omega arith)
        | inr e ↦ (let one = step_keeps s sound (leb-false (total the_rules n) s.cursor e) in
            let rest = search_keeps k next one.sound in
            simp e (rest.sound, omega (arith, one.on, rest.on), λ h. ap suc (rest.all h), omega (arith, rest.most)))
      ] in
      record { sound = kept.0; on = kept.1; all = kept.2; most = kept.3 }

-- The theorem on the search.
pub search_sound : {V C : Type 0} (m : Meaning V) → Laws m → (fit : ℕ → ℕ → ℕ → Bool) → ((c d e : ℕ) → Decides (fit c d e) (Fits m c d e))
    → (values : ℕ → List ℕ → ℕ → V) → Realisation m values → (j : Joining Claim C) → Monoid j → (at_most : C → C → Bool) → Ranking j at_most
    → SearchSound m (rules m fit j at_most)
search_sound m laws fit decides values realises j monoid at_most ranking n rows proper = (
  opening_sound m laws fit decides j monoid at_most ranking n rows proper (values 1 [] 0) (some_lawful m values realises),
  search_keeps m laws fit decides j monoid at_most ranking n rows proper,
)
