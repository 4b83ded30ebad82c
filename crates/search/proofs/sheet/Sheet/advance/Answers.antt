-- One more step with each turn, by the tables of the sheet.
use Rattle.std.proofs.Common.{◌≡◌, ℕ, ◌+◌, ◌-◌, ◌^◌, ◌<◌, ◌≤◌, List, ◌++◌, length, take, drop, sym, refl, ap, ◌∙◌, subst, arith}
use Rattle.std.proofs.lemmas.Option.{none-some, same_Some}
use Rattle.std.proofs.lemmas.List.{length-take-le, get_or_past}
use Rattle.points.specs.Scenarios.{pairs}
use Rattle.rules.specs.declared.row.Row.{Row}
use Rattle.rules.specs.Orders.{Below, index}
use Rattle.rules.specs.Steps.{Rules, Position, position, step, advance, taken as taken_of}
use Rattle.rules.proofs.Orders.{index_lt}
use Rattle.rules.proofs.Advances.{UnderWay, under_way_more, under_way_done}
use Rattle.search.specs.Closed.{rows_of, position_of, rules_of}
use Rattle.search.specs.Sheets.{Holds, number_at}
use Rattle.search.specs.Tables.{Keeps}
use Rattle.search.proofs.Closed.{below_from, written_front, written_holds}
use Rattle.search.proofs.sheet.Sheet.advance.Goals as goal

pub step-requires-clause-below : goal.step-requires-clause-below
step-requires-clause-below g c =
    let s = c.args.self.now in
    let inv = c.loop-taken.invariant in
    let same : c.pairs-count.result - 0 ≡ pairs c.args.self.now.items = omega (arith, c.pairs-count.ensures) in
    subst (λ (k : ℕ). Below s.codes (take k c.loop-taken.incumbent) × Below s.codes (take k c.loop-taken.cursor)) (sym same)
    (below_from s.codes (take (pairs s.items) c.loop-taken.incumbent) inv.held.below, below_from s.codes (take (pairs s.items) c.loop-taken.cursor) inv.marked.below)

pub invariant_of-self : goal.invariant_of-self
invariant_of-self g c =
    let s = c.args.self.now in
    let inv = c.loop-taken.invariant in
    let few = s.fits in
    let same : c.pairs-count.result - 0 ≡ pairs c.args.self.now.items = omega (arith, c.pairs-count.ensures) in
    let long = c.step.auto.incumbent ∙ length-take-le (c.pairs-count.result - 0) c.loop-taken.incumbent (omega (arith, same, few, inv.held.long)) ∙ same in
    record {
      some = s.some;
      few = s.few;
      fits = s.fits;
      room = s.room;
      sound = s.sound;
      coded = s.coded;
      narrow = s.narrow;
      held = written_holds s.codes (pairs s.items) (c.pairs-count.result - 0) same c.loop-taken.incumbent c.step.new.incumbent inv.held c.in-None.ensures.below.0 long few;
      marked = λ a e. absurd (none-some a e);
    }

-- One step more on the way, from the codes of the arrays.
module _ {C : Type 0} (r : Rules C) (n : ℕ) (rows : List Row) (steps taken : ℕ) (start : Position) (a e : List ℕ)
    (on : UnderWay r n rows steps taken start (position (take (pairs n) a) (index r.codes (take (pairs n) e)))) (less : taken < steps)
    (marked : Holds r.codes (pairs n) e) (few : pairs n ≤ 66) (k : ℕ) (same : k ≡ pairs n) (out : List ℕ) (next : ℕ)
    (stepped : position out next ≡ step r n rows (position (take k a) (index r.codes (take k e)))) where
  one_more : UnderWay r n rows steps (taken + 1) start (position out next)
  one_more =
      let p : ℕ = pairs n in
      let long : length (take p e) ≡ p = length-take-le p e (omega (arith, few, marked.long)) in
      let room : index r.codes (take p e) < r.codes ^ p =
      subst (λ (z : ℕ). index r.codes (take p e) < r.codes ^ z) long (index_lt r.codes (take p e) (below_from r.codes (take p e) marked.below)) in
      under_way_more r n rows steps taken start (position (take p a) (index r.codes (take p e))) (position out next) on less room
      (subst (λ (z : ℕ). position out next ≡ step r n rows (position (take z a) (index r.codes (take z e)))) same stepped)

  -- The last one, where it leads past the last scenario.
  last_one : next ≡ r.codes ^ pairs n → (position out next ≡ advance r n rows steps start) × (taken + 1 ≡ taken_of r n rows steps start)
  last_one is = under_way_done r n rows steps (taken + 1) start (position out next) one_more (omega (arith, is))

pub returns-in-None-clause-advanced : goal.returns-in-None-clause-advanced
returns-in-None-clause-advanced g c =
    let s = c.args.self.now in
    let p : ℕ = pairs c.args.self.now.items in
    let r = rules_of s g.K.Kind.fit g.T.Joins.joining g.T.Tally.order in
    let inv = c.loop-taken.invariant in
    let few = s.fits in
    let same : c.pairs-count.result - 0 ≡ pairs c.args.self.now.items = omega (arith, c.pairs-count.ensures) in
    let long = c.step.auto.incumbent ∙ length-take-le (c.pairs-count.result - 0) c.loop-taken.incumbent (omega (arith, same, few, inv.held.long)) ∙ same in
    ap (λ (z : List ℕ). position z (s.codes ^ p))
    (written_front s.codes p (c.pairs-count.result - 0) same c.loop-taken.incumbent c.step.new.incumbent inv.held c.in-None.ensures.below.0 long few)
    ∙ (last_one r s.items (rows_of s) c.args.steps c.loop-taken.taken (position_of s) c.loop-taken.incumbent c.loop-taken.cursor inv.under_way c.loop-taken-test.true
    inv.marked few (c.pairs-count.result - 0) same c.step.new.incumbent (s.codes ^ p) c.in-None.ensures.ends refl).0

pub returns-in-None-clause-taken : goal.returns-in-None-clause-taken
returns-in-None-clause-taken g c =
    let s = c.args.self.now in
    let r = rules_of s g.K.Kind.fit g.T.Joins.joining g.T.Tally.order in
    let inv = c.loop-taken.invariant in
    let same : c.pairs-count.result - 0 ≡ pairs c.args.self.now.items = omega (arith, c.pairs-count.ensures) in
    (last_one r s.items (rows_of s) c.args.steps c.loop-taken.taken (position_of s) c.loop-taken.incumbent c.loop-taken.cursor inv.under_way c.loop-taken-test.true
    inv.marked (s.fits) (c.pairs-count.result - 0) same c.step.new.incumbent (s.codes ^ pairs s.items) c.in-None.ensures.ends refl).1

pub loop-taken-preserved : goal.loop-taken-preserved
loop-taken-preserved g c =
    let s = c.args.self.now in
    let b : ℕ = c.args.self.now.codes in
    let p : ℕ = pairs c.args.self.now.items in
    let r = rules_of s g.K.Kind.fit g.T.Joins.joining g.T.Tally.order in
    let inv = c.loop-taken.invariant in
    let e = c.in-Some-step.ensures in
    let few = s.fits in
    let k : ℕ = c.pairs-count.result - 0 in
    let same : c.pairs-count.result - 0 ≡ pairs c.args.self.now.items = omega (arith, c.pairs-count.ensures) in
    let out : List ℕ = c.step.new.incumbent in
    let next : List ℕ = c.step.new.cursor in
    let long = c.step.auto.incumbent ∙ length-take-le k c.loop-taken.incumbent (omega (arith, same, few, inv.held.long)) ∙ same in
    let long' = c.step.auto.cursor ∙ length-take-le k c.loop-taken.cursor (omega (arith, same, few, inv.marked.long)) ∙ same in
    let front = written_front b p k same c.loop-taken.incumbent out inv.held e.below.0 long few in
    let front' = written_front b p k same c.loop-taken.cursor next inv.marked e.below.1 long' few in
    let on : UnderWay r s.items (rows_of s) c.args.steps (c.loop-taken.taken + 1) (position_of s) (position out (index b next)) =
    one_more r s.items (rows_of s) c.args.steps c.loop-taken.taken (position_of s) c.loop-taken.incumbent c.loop-taken.cursor inv.under_way c.loop-taken-test.true
    inv.marked few k same out (index b next) e.goes_on in
    let both : (P : List ℕ → List ℕ → Type 0) → P out next → P (take p (out ++ drop k c.loop-taken.incumbent)) (take p (next ++ drop k c.loop-taken.cursor)) =
    λ P x. subst (λ (z : List ℕ). P z (take p (next ++ drop k c.loop-taken.cursor))) (sym front) (subst (λ (z : List ℕ). P out z) (sym front') x) in
    record {
      under_way = both (λ a z. UnderWay r s.items (rows_of s) c.args.steps (c.loop-taken.taken + 1) (position_of s) (position a (index b z))) on;
      held = written_holds b p k same c.loop-taken.incumbent out inv.held e.below.0 long few;
      marked = written_holds b p k same c.loop-taken.cursor next inv.marked e.below.1 long' few;
      keeps = both (λ a z. Keeps r s.items (rows_of s) a z c.in-Some-step.next c.step.new.spent) e.keeps;
    }

-- Given, since a wrong body is refused 10 s sooner with it.
pub loop-taken-init : goal.loop-taken-init
loop-taken-init g c =
    let s = c.args.self.now in
    let p : ℕ = pairs c.args.self.now.items in
    let r = rules_of s g.K.Kind.fit g.T.Joins.joining g.T.Tally.order in
    let few = c.args.self.now.fits in
    let marked : Holds s.codes p c.in-Some.cursor = s.marked c.in-Some.cursor c.in-Some.is in
    let long : length (take p c.in-Some.cursor) ≡ pairs c.args.self.now.items = length-take-le p c.in-Some.cursor (omega (arith, few, marked.long)) in
    record {
      under_way = subst (λ (m : ℕ). UnderWay r s.items (rows_of s) c.args.steps 0 (position_of s) (position (take p s.incumbent) m)) (ap (number_at s.codes p) c.in-Some.is)
          (let z : c.args.steps ≡ c.args.steps - 0 = omega arith in record {
            few = omega arith;
            leads = ap (λ (i : ℕ). advance r s.items (rows_of s) i (position_of s)) z;
            counts = (let t = ap (λ (i : ℕ). taken_of r s.items (rows_of s) i (position_of s)) z in omega (arith, t));
          });
      held = s.held;
      marked = marked;
      keeps = record {
        best = c.cost.ensures;
        stands = omega arith;
        filled = omega (arith, c.pairs-count.ensures);
        known = record { long = c.requires.1.1; costs = λ z l. absurd (omega (arith, l)); stands = λ z l. absurd (omega (arith, l)) };
        blank = λ k l. get_or_past (take p c.in-Some.cursor) k 0 (omega (arith, c.pairs-count.ensures, long, l));
      };
    }

-- Given, since a wrong body is refused 15 s sooner with it.
pub invariant_of-self-2 : goal.invariant_of-self-2
invariant_of-self-2 g c =
    let s = c.args.self.now in
    let inv = c.loop-taken.invariant in
    record {
      some = s.some;
      few = s.few;
      fits = s.fits;
      room = s.room;
      sound = s.sound;
      coded = s.coded;
      narrow = s.narrow;
      held = inv.held;
      marked = λ a e. subst (Holds s.codes (pairs s.items)) (same_Some _ a e) inv.marked;
    }

-- Given, since a wrong body is refused 7 s sooner with it.
pub returns : goal.returns
returns g c =
    let s = c.args.self.now in
    let r = rules_of s g.K.Kind.fit g.T.Joins.joining g.T.Tally.order in
    let way = c.loop-taken.invariant.under_way in
    let here : Position = position (take (pairs s.items) c.loop-taken.incumbent) (index s.codes (take (pairs s.items) c.loop-taken.cursor)) in
    let none : c.args.steps - c.loop-taken.taken ≡ 0 = omega (arith, c.loop-taken-test.false) in
    record {
      advanced = sym (way.leads ∙ ap (λ (i : ℕ). advance r s.items (rows_of s) i here) none);
      taken = (let last : c.args.steps ≡ c.loop-taken.taken = omega (arith, c.loop-taken.auto, c.loop-taken-test.false) in
          let so_far = way.counts in
          let more = ap (λ (i : ℕ). taken_of r s.items (rows_of s) i here) none in
          omega (arith, last, so_far, more));
      parts = (refl, refl, refl);
    }
