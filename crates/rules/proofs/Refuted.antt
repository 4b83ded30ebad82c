-- Refuted prefixes: no assignment that shares one costs less; and where none is refuted, the scenario fits.
use Rattle.std.proofs.Common.{◌≡◌, ℕ, ◌+◌, ◌<◌, ◌≤◌, Bool, true, false, not, ◌&&◌, ltb, List, length, take, Decides, sym, ◌∙◌, subst, inl, inr, arith}
use Rattle.std.proofs.lemmas.List.Elements.{All-from_recursion}
use Rattle.std.proofs.lemmas.Bool.{cases_Bool, both_ways, and_parts, and_from, or_cases, not-true, not_from_false, lt-ltb, ltb-true}
use Rattle.points.specs.Scenarios.{pairs, place, entry}
use Rattle.points.proofs.Placed.{pairs_up, place_within}
use Rattle.kinds.specs.Meaning.{Meaning, Laws, Fits, Fitting}
use Rattle.tallies.specs.Joins.{Joining, Monoid, Ranking}
use Rattle.tallies.specs.declared.claim.Claim.{Claim}
use Rattle.rules.specs.declared.row.Row.{Row}
use Rattle.rules.specs.Rows.{Proper}
use Rattle.rules.specs.Costs.{cost, prefix_bound}
use Rattle.rules.specs.Orders.{Below}
use Rattle.rules.specs.Steps.{Rules, some, unfit, refuted}
use Rattle.rules.specs.Soundness.{Assignment, codes_of, scenario_by, cost_by, Misfit, Unfits, rules}
use Rattle.rules.proofs.Orders.{shared_code}
use Rattle.rules.proofs.Scenarios.{length_scenario_of, entry_scenario_of}
use Rattle.rules.proofs.Steps.{some_found, some_none}
use Rattle.rules.proofs.Compared.{bound_transitive}
use Rattle.rules.proofs.Assignments.{fits_by, below_scenario_by, cost_scenario_by}

-- A prefix is unfit exactly if it holds a triple that does not fit.
pub unfits : {C : Type 0} (r : Rules C) → Unfits r
unfits r n q a = (
  λ bad.
      let ks = some_found n (λ k. some k (λ j. some j (test k j))) bad in
      let js = some_found ks.0 (λ j. some j (test ks.0 j)) ks.2 in
      let is = some_found js.0 (test ks.0 js.0) js.2 in
      let fits : Bool = r.fit (entry a is.0 js.0) (entry a js.0 ks.0) (entry a is.0 ks.0) in
      let both = and_parts (ltb (place js.0 ks.0) q) (not fits) is.2 in
      record {
        i = is.0;
        j = js.0;
        k = ks.0;
        first = is.1;
        second = js.1;
        third = ks.1;
        held = ltb-true (place js.0 ks.0) q both.0;
        fails = not-true fits both.1;
      },
  λ t. elim (cases_Bool (unfit r n q a)) [
    | inl bad ↦ bad
    | inr good ↦
        let at_k = some_none n (λ k. some k (λ j. some j (test k j))) good t.k t.third in
        let at_j = some_none t.k (λ j. some j (test t.k j)) at_k t.j t.second in
        let at_i = some_none t.j (test t.k t.j) at_j t.i t.first in
        let fits : Bool = r.fit (entry a t.i t.j) (entry a t.j t.k) (entry a t.i t.k) in
        absurd (both_ways (test t.k t.j t.i) at_i
        (and_from (ltb (place t.j t.k) q) (not fits) (lt-ltb (place t.j t.k) q t.held) (not_from_false fits t.fails)))
  ],
)
  where
    -- Whether the prefix holds the pairs of these items and they do not fit.
    test : ℕ → ℕ → ℕ → Bool
    test k j i = ltb (place j k) q && not (r.fit (entry a i j) (entry a j k) (entry a i k))

module _ {V C : Type 0} (m : Meaning V) (laws : Laws m) (fit : ℕ → ℕ → ℕ → Bool) (decides : (c d e : ℕ) → Decides (fit c d e) (Fits m c d e))
    (j : Joining Claim C) (monoid : Monoid j) (at_most : C → C → Bool) (ranking : Ranking j at_most)
    (n : ℕ) (rows : List Row) (proper : Proper n rows) where
  -- The rules of this kind and this tally.
  abbrev the_rules : Rules C
  the_rules = rules m fit j at_most

  -- No assignment has a scenario with a triple that does not fit.
  pub unfit_none : (q : ℕ) (a : List ℕ) → unfit the_rules n q a ≡ true → (x : ℕ → V) → Assignment m n x → take q (scenario_by m n x) ≡ take q a → ⊥
  unfit_none q a bad x law shared =
      let t : Misfit the_rules n q a = (unfits the_rules n q a).0 bad in
      let i : ℕ = t.i in
      let k : ℕ = t.j in
      let l : ℕ = t.k in
      let ik : i < k = t.first in
      let kl : k < l = t.second in
      let ln : l < n = t.third in
      let last : place k l < q = t.held in
      let up : pairs k + k ≤ pairs l = pairs_up k l kl in
      let code : (c d : ℕ) → c < d → d < n → place c d < q → m.relation (x c) (x d) ≡ entry a c d =
      λ c d cd dn inside. sym (entry_scenario_of (codes_of m x) n c d cd dn) ∙ shared_code q (scenario_by m n x) a shared (place c d) inside in
      both_ways (fit (entry a i k) (entry a k l) (entry a i l)) t.fails
      ((decides (entry a i k) (entry a k l) (entry a i l)).1
      (fits_by m laws (x i) (x k) (x l) (law i (omega arith)) (law k (omega arith)) (law l ln) (entry a i k) (entry a k l) (entry a i l)
      (code i k ik (omega arith) (omega arith)) (code k l kl ln last) (code i l (omega arith) ln (omega arith))))

  -- A scenario with no triple that does not fit, and codes only, fits.
  pub fitting_whole : (a : List ℕ) → length a ≡ pairs n → Below m.codes a → unfit the_rules n (pairs n) a ≡ false → Fitting m n a
  fitting_whole a long low good = record {
    codes = λ i k ik kn. All-from_recursion (λ c. c < m.codes) a low (place i k) 0 (omega (arith, place_within i k n ik kn));
    triples = λ i k l ik kl ln. elim (cases_Bool (fit (entry a i k) (entry a k l) (entry a i l))) [
      | inl fits ↦ (decides (entry a i k) (entry a k l) (entry a i l)).0 fits
      | inr fails ↦ absurd (both_ways (unfit the_rules n (pairs n) a) good
          ((unfits the_rules n (pairs n) a).1
          record { i = i; j = k; k = l; first = ik; second = kl; third = ln; held = place_within k l n kl ln; fails = fails }))
    ];
  }

  -- An assignment whose scenario shares a refuted prefix costs at least as much as what refutes it.
  pub refuted_above : (f : ℕ → ℕ → ℕ) (a : List ℕ) (q : ℕ) → q ≤ pairs n → refuted the_rules n rows (cost j rows f) a q ≡ true
      → (x : ℕ → V) → Assignment m n x → take q (scenario_by m n x) ≡ take q a → at_most (cost j rows f) (cost_by m j rows x) ≡ true
  refuted_above f a q qp bad x law shared =
      elim (or_cases (unfit the_rules n q a) (at_most (cost j rows f) (prefix_bound j at_most m.codes (pairs n) rows q a)) bad) [
        | inl misfit ↦ absurd (unfit_none q a misfit x law shared)
        | inr over ↦ subst (λ (z : C). at_most (cost j rows f) z ≡ true) (cost_scenario_by m j n rows proper x)
            (bound_transitive j monoid at_most ranking n rows proper m.codes f q a (scenario_by m n x) qp shared
            (length_scenario_of (codes_of m x) n) (below_scenario_by m laws n x law) over)
      ]
