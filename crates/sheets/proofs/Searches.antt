-- A sheet is closed with a sound search, each search keeps it so, and what a show of it answers is settled.
use Rattle.std.proofs.Common.{◌≡◌, ℕ, ◌+◌, ◌<◌, ◌≤◌, Bool, true, false, List, length, get_or, Decides, sym, ap, ◌∙◌, subst}
use Rattle.std.proofs.lemmas.Bool.{leb-false}
use Rattle.std.proofs.Math.Logic.{∥∥₁_elim}
use Rattle.std.proofs.Props.{props}
use Rattle.std.specs.List.{AllByRecursion-prop}
use Rattle.points.specs.Scenarios.{pairs, entry}
use Rattle.kinds.specs.Meaning.{Meaning, Laws, Fits, Realises, Realisation}
use Rattle.tallies.specs.Joins.{Joining, Monoid, Ranking}
use Rattle.tallies.specs.declared.claim.Claim.{Claim}
use Rattle.rules.specs.declared.row.Row.{Row}
use Rattle.rules.specs.Rows.{Proper}
use Rattle.rules.specs.Costs.{cost, sheet_bound}
use Rattle.rules.specs.Orders.{Below, Before, index}
use Rattle.rules.specs.Steps.{best_cost, Rules, Position, opening, advance, taken, total, finished}
use Rattle.rules.specs.Soundness.{Assignment, scenario_by, cost_by, Sound, Settled, SearchKeeps, rules}
use Rattle.rules.proofs.Properly.{proper_is}
use Rattle.rules.proofs.Soundness.{search_sound, search_keeps}
use Rattle.rules.proofs.Floors.{bound_below}
use Rattle.rules.proofs.Incumbents.{settled}
use Rattle.search.specs.declared.sheet.Sheet.{Sheet}
use Rattle.search.specs.Closed.{rows_of, position_of, rules_of}
use Rattle.sheets.specs.declared.closed.Shown.{Shown}
use Rattle.sheets.specs.Closed.{SoundSheet, Searched, Keeps, Settles}

-- The rows of a sheet are proper.
proper_rows : (s : Sheet) → Proper s.items (rows_of s)
proper_rows s = proper_is s.items (rows_of s) s.sound

-- With the codes of the kind, the rules of a sheet are those of the kind and the tally.
pub same_rules : {V C : Type 0} (m : Meaning V) (fit : ℕ → ℕ → ℕ → Bool) (j : Joining Claim C) (at_most : C → C → Bool) (s : Sheet)
    → s.codes ≡ m.codes → rules_of s fit j at_most ≡ rules m fit j at_most
same_rules {C = C} m fit j at_most s coded =
    let by : ℕ → Rules C = λ b. record { codes = b; fit = fit; joining = j; at_most = at_most } in ap by coded

-- What holds by the rules of a sheet with the codes of the kind holds by those of the kind and the tally.
pub by_kind : {V C : Type 0} (m : Meaning V) (fit : ℕ → ℕ → ℕ → Bool) (j : Joining Claim C) (at_most : C → C → Bool) (s : Sheet)
    → s.codes ≡ m.codes → (P : Rules C → Type 0) → P (rules_of s fit j at_most) → P (rules m fit j at_most)
by_kind m fit j at_most s coded P x = subst P (same_rules m fit j at_most s coded) x

module _ {V C : Type 0} (m : Meaning V) (laws : Laws m) (fit : ℕ → ℕ → ℕ → Bool) (decides : (c d e : ℕ) → Decides (fit c d e) (Fits m c d e))
    (j : Joining Claim C) (monoid : Monoid j) (at_most : C → C → Bool) (ranking : Ranking j at_most) where
  -- The rules of this kind and this tally.
  abbrev the_rules : Rules C
  the_rules = rules m fit j at_most

  -- What soundness says, with the test of triples in place of what it decides. It has at most one proof.
  record Tested (s : Sheet) : Type 0 where
    coded : s.codes ≡ m.codes
    long : length (position_of s).incumbent ≡ pairs s.items
    codes : Below m.codes (position_of s).incumbent
    related : (i k : ℕ) → i < k → k < s.items → entry (position_of s).incumbent i k < m.codes
    fits : (i k l : ℕ) → i < k → k < l → l < s.items
        → fit (entry (position_of s).incumbent i k) (entry (position_of s).incumbent k l) (entry (position_of s).incumbent i l) ≡ true
    within : (position_of s).cursor ≤ total the_rules s.items
    behind : index m.codes (position_of s).incumbent < (position_of s).cursor
    best : (x : ℕ → V) → Assignment m s.items x → index m.codes (scenario_by m s.items x) < (position_of s).cursor
        → at_most (best_cost the_rules (rows_of s) (position_of s)) (cost_by m j (rows_of s) x) ≡ true
    first : (x : ℕ → V) → Assignment m s.items x → Before (scenario_by m s.items x) (position_of s).incumbent
        → at_most (cost_by m j (rows_of s) x) (best_cost the_rules (rows_of s) (position_of s)) ≡ false

  tested : (s : Sheet) → SoundSheet m the_rules s → Tested s
  tested s h = record {
    coded = h.coded;
    long = h.sound.long;
    codes = h.sound.codes;
    related = h.sound.fitting.codes;
    fits = λ i k l a b c. (decides _ _ _).1 (h.sound.fitting.triples i k l a b c);
    within = h.sound.within;
    behind = h.sound.behind;
    best = h.sound.best;
    first = h.sound.first;
  }

  tested_prop : (s : Sheet) → IsProp (Tested s)
  tested_prop s = Prim.hlevel (props, AllByRecursion-prop)

  -- So the type of a closed sheet can carry that its search is sound.
  pub sound_again : (s : Sheet) → ∥ SoundSheet m the_rules s ∥₁ → SoundSheet m the_rules s
  sound_again s h =
      let t : Tested s = ∥∥₁_elim h (tested_prop s) (tested s) in
      record {
        coded = t.coded;
        sound = record {
          long = t.long;
          codes = t.codes;
          fitting = record { codes = t.related; triples = λ i k l a b c. (decides _ _ _).0 (t.fits i k l a b c) };
          within = t.within;
          behind = t.behind;
          best = t.best;
          first = t.first;
        };
      }

  -- The search of a sheet with the codes of the kind is sound at the opening.
  pub opening_sheet : (values : ℕ → List ℕ → ℕ → V) → Realisation m values → (s : Sheet) (n : ℕ)
      → s.items ≡ n → s.codes ≡ m.codes → position_of s ≡ opening n → SoundSheet m the_rules s
  opening_sheet values realises s n items coded opens =
      let at_opening : Sound m the_rules s.items (rows_of s) (opening s.items) =
      (search_sound m laws fit decides values realises j monoid at_most ranking s.items (rows_of s) (proper_rows s)).0 in
      let here : opening s.items ≡ position_of s = ap opening items ∙ sym opens in
      record {
        coded = coded;
        sound = subst (λ (p : Position). Sound m the_rules s.items (rows_of s) p) here at_opening;
      }

  -- A search keeps the search of a sheet sound.
  pub searched_keeps : (s s' : Sheet) (k t : ℕ) → Searched the_rules s s' k t → SoundSheet m the_rules s → Keeps m the_rules s s' k t
  searched_keeps s s' k t searched sheet =
      let n : ℕ = s.items in
      let rows : List Row = rows_of s in
      let from : Position = position_of s in
      let parts = searched.parts in
      let count : t ≡ taken the_rules n rows k from = searched.count in
      let moved : position_of s' ≡ advance the_rules n rows k from = searched.moved in
      let kept : SearchKeeps m the_rules n rows k from = search_keeps m laws fit decides j monoid at_most ranking n rows (proper_rows s) k from sheet.sound in
      let sound : Sound m the_rules n rows (position_of s') = subst (λ (p : Position). Sound m the_rules n rows p) (sym moved) kept.sound in
      let sound_items : Sound m the_rules s'.items rows (position_of s') =
      subst (λ (i : ℕ). Sound m the_rules i rows (position_of s')) (sym parts.same_items) sound in
      let on : from.cursor + taken the_rules n rows k from ≤ (position_of s').cursor =
      subst (λ (p : Position). from.cursor + taken the_rules n rows k from ≤ p.cursor) (sym moved) kept.on in
      let all : finished the_rules n (position_of s') ≡ false → taken the_rules n rows k from ≡ k =
      λ going. kept.all (subst (λ (p : Position). p.cursor < total the_rules n) moved (leb-false (total the_rules n) (position_of s').cursor going)) in
      record {
        sound = record {
          coded = parts.same_codes ∙ sheet.coded;
          sound = subst (λ (rs : List Row). Sound m the_rules s'.items rs (position_of s')) (sym parts.same_rows) sound_items;
        };
        on = subst (λ (i : ℕ). from.cursor + i ≤ (position_of s').cursor) (sym count) on;
        most = subst (λ (i : ℕ). i ≤ k) (sym count) kept.most;
        all = λ going. count ∙ all going;
      }

  -- A search by the rules of a sheet whose search is sound is one by those of the kind and the tally, and keeps it sound.
  pub searched_soundly : (s s' : Sheet) (k t : ℕ) → Searched (rules_of s fit j at_most) s s' k t → ∥ SoundSheet m the_rules s ∥₁
      → Searched the_rules s s' k t × Keeps m the_rules s s' k t
  searched_soundly s s' k t did h =
      let sheet = sound_again s h in
      let searched : Searched the_rules s s' k t = by_kind m fit j at_most s sheet.coded (λ r. Searched r s s' k t) did in
      (searched, searched_keeps s s' k t searched sheet)

-- What holds by a number of items and a scenario holds by those that are equal to them.
pub same_scenario : (P : ℕ → List ℕ → Type 0) (i n : ℕ) (b a : List ℕ) → i ≡ n → b ≡ a → P i b → P n a
same_scenario P i n b a items scenario x = subst (λ (c : List ℕ). P n c) scenario (subst (λ (k : ℕ). P k b) items x)

-- Values on a page that have the scenario of the incumbent of a sound search are settled, with the cost and the end that are shown; and
-- the lower bound that is shown lies at or below every cost.
pub shown_settles : {V C : Type 0} (m : Meaning V) → Laws m → (fit : ℕ → ℕ → ℕ → Bool) (j : Joining Claim C) → Monoid j → (at_most : C → C → Bool) → Ranking j at_most
    → (s : Sheet) (page : List V) (a : Shown C) → SoundSheet m (rules m fit j at_most) s
    → a.cost ≡ cost j (rows_of s) (entry (position_of s).incumbent)
    → a.floor ≡ sheet_bound j at_most m.codes s.items (rows_of s)
    → a.finished ≡ finished (rules m fit j at_most) s.items (position_of s)
    → ((other : V) → Realises m s.items (position_of s).incumbent (λ i. get_or page i other))
    → Settles m (rules m fit j at_most) s page a
shown_settles {V = V} {C = C} m laws fit j monoid at_most ranking s page a sheet paid bound done real =
    let r : Rules C = rules m fit j at_most in
    record {
      settled = λ other.
          let x : ℕ → V = λ i. get_or page i other in
          let by_incumbent : Settled m r s.items (rows_of s) (position_of s) x (cost j (rows_of s) (entry (position_of s).incumbent)) (finished r s.items (position_of s)) =
          settled m laws fit j at_most s.items (rows_of s) (proper_rows s) (position_of s) sheet.sound x (real other) in
          subst (λ (z : Bool). Settled m r s.items (rows_of s) (position_of s) x a.cost z) (sym done)
          (subst (λ (z : C). Settled m r s.items (rows_of s) (position_of s) x z (finished r s.items (position_of s))) (sym paid) by_incumbent);
      below = λ y law. subst (λ (z : C). at_most z (cost_by m j (rows_of s) y) ≡ true) (sym bound)
          (bound_below m laws fit j monoid at_most ranking s.items (rows_of s) (proper_rows s) y law);
    }
