-- The lower bound of a prefix is the least cost of all codes that begin with it.
use Rattle.std.proofs.Common.{◌≡◌, ℕ, ◌-◌, ◌<◌, ◌≤◌, ltb, List, length, get_or, take, sym, ap, ◌∙◌, arith}
use Rattle.std.proofs.lemmas.List.Elements.{All-from_recursion}
use Rattle.std.proofs.lemmas.Bool.{cond_both, cond-true, lt-ltb, ltb-true}
use Rattle.std.proofs.lemmas.List.{get_or-take, length-take-le, ext_get_or}
use Rattle.points.specs.Scenarios.{pairs, place, entry}
use Rattle.points.proofs.Placed.{Pair, pair_at}
use Rattle.tallies.specs.Joins.{Monoid, Ranking}
use Rattle.rules.specs.declared.row.Row.{Row}
use Rattle.rules.specs.Rows.{Proper}
use Rattle.rules.specs.Costs.{pair_cost, prefix_bound, cost}
use Rattle.rules.specs.Orders.{scenario_of, Below}
use Rattle.rules.specs.Steps.{Rules}
use Rattle.rules.specs.Soundness.{Begins, PrefixLeast, PrefixesLeast}
use Rattle.rules.proofs.Scenarios.{length_scenario_of, entry_scenario_of, below_scenario_of}
use Rattle.rules.proofs.Costs.{cost_depends}
use Rattle.rules.proofs.Bounds.{least_attained, cheapest, completed, prefix_bound_is, prefix_bound_none, prefix_bound_whole, prefix_bound_below}

module _ {C : Type 0} (r : Rules C) (monoid : Monoid r.joining) (some : 1 ≤ r.codes)
    (n : ℕ) (rows : List Row) (proper : Proper n rows) (q : ℕ) (a : List ℕ) (within : q ≤ pairs n) (enough : q ≤ length a) (low : Below r.codes a) where
  -- The code of each pair: that of the prefix, or else the cheapest.
  abbrev code : ℕ → ℕ
  code s = completed r.joining r.at_most r.codes rows q a s

  code_low : (s : ℕ) → code s < r.codes
  code_low s =
      let found = least_attained r.at_most (pair_cost r.joining rows s) (r.codes - 1) in
      let least : cheapest r.joining r.at_most r.codes rows s < r.codes = omega (arith, found.1, some) in
      cond_both (ltb s q) (get_or a s 0) (cheapest r.joining r.at_most r.codes rows s) (λ c. c < r.codes)
      (λ e. All-from_recursion (λ c. c < r.codes) a low s 0 (omega (arith, ltb-true s q e))) (λ e. least)

  -- The codes that begin with the prefix and cost least.
  abbrev completion : List ℕ
  completion = scenario_of (λ i k. code (place i k)) n

  completion_at : (s : ℕ) → s < pairs n → get_or completion s 0 ≡ code s
  completion_at s l =
      let p : Pair n s = pair_at n s l in
      ap (λ (z : ℕ). get_or completion z 0) (sym p.here) ∙ entry_scenario_of (λ i k. code (place i k)) n p.i p.j p.apart p.within ∙ ap code p.here

  completion_begins : Begins r n q a completion
  completion_begins =
      let long : length completion ≡ pairs n = length_scenario_of (λ i k. code (place i k)) n in
      let cut : length (take q completion) ≡ q = length-take-le q completion (omega arith) in
      record {
        long = long;
        codes = below_scenario_of r.codes (λ i k. code (place i k)) n (λ i k ik kn. code_low (place i k));
        shared = ext_get_or 0 (take q completion) (take q a) (cut ∙ sym (length-take-le q a enough))
            (λ s h. let l : s < q = omega arith in
            get_or-take q completion s 0 l ∙ completion_at s (omega arith)
            ∙ cond-true (ltb s q) (get_or a s 0) (cheapest r.joining r.at_most r.codes rows s) (lt-ltb s q l)
            ∙ sym (get_or-take q a s 0 l));
      }

  -- They cost what the bound is.
  completion_costs : prefix_bound r.joining r.at_most r.codes (pairs n) rows q a ≡ cost r.joining rows (entry completion)
  completion_costs =
      prefix_bound_is r.joining monoid r.at_most n rows proper r.codes q a within
      ∙ sym (cost_depends r.joining n rows proper (entry completion) (λ i k. code (place i k)) (entry_scenario_of (λ i k. code (place i k)) n))

  pub prefix_least : Ranking r.joining r.at_most → PrefixLeast r n rows q a
  prefix_least ranking = record {
    attained = (completion, completion_begins, completion_costs);
    below = λ e b. prefix_bound_below r.joining monoid r.at_most n rows proper r.codes ranking q a e within b.shared b.long b.codes;
    empty = λ e. ap (λ (z : ℕ). prefix_bound r.joining r.at_most r.codes (pairs n) rows z a) e
        ∙ prefix_bound_none r.joining monoid r.at_most n rows proper r.codes a;
    whole = λ e. ap (λ (z : ℕ). prefix_bound r.joining r.at_most r.codes (pairs n) rows z a) e
        ∙ prefix_bound_whole r.joining monoid r.at_most n rows proper r.codes a;
  }

pub prefixes_least : {C : Type 0} (r : Rules C) → Monoid r.joining → Ranking r.joining r.at_most → 1 ≤ r.codes → PrefixesLeast r
prefixes_least r monoid ranking some n rows q a proper within enough low =
    prefix_least r monoid some n rows proper q a within enough low ranking
