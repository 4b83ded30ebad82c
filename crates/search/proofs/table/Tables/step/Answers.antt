-- A step past the shortest refuted prefix, or to a better incumbent.
use Rattle.std.proofs.Common.{◌≡◌, ℕ, ◌+◌, ◌^◌, ◌≤◌, List, length, sym, ap, ◌∙◌, subst, arith}
use Rattle.std.proofs.lemmas.List.{get_or_default}
use Rattle.points.specs.Scenarios.{pairs, entry}
use Rattle.rules.specs.declared.row.Row.{Row}
use Rattle.rules.specs.Costs.{cost, spent_on}
use Rattle.rules.specs.Orders.{index, past}
use Rattle.rules.specs.Steps.{position, step}
use Rattle.rules.proofs.Properly.{proper_is}
use Rattle.rules.proofs.Costs.{pairs_join}
use Rattle.rules.proofs.Advances.{step_skips, step_holds}
use Rattle.search.specs.Closed.{rows_of, rules_of}
use Rattle.search.proofs.Prefixes.{stands_kept, spent_kept}
use Rattle.search.proofs.table.Tables.step.Goals as goal

-- Where the cursor is then, by the number of pairs.
moved_to : (b p q m next : ℕ) (a : List ℕ) → length a ≡ p → next ≡ past b (length a) q m → next ≡ past b p q m
moved_to b p q m next a long is = subst (λ (z : ℕ). next ≡ past b z q m) long is

ended_at : (b p q m : ℕ) (a : List ℕ) → length a ≡ p → past b (length a) q m ≡ b ^ length a → b ^ p ≡ past b p q m
ended_at b p q m a long is = subst (λ (z : ℕ). b ^ z ≡ past b z q m) long (sym is)

pub returns-in_err-risen-in-Some-clause-ends : goal.returns-in_err-risen-in-Some-clause-ends
returns-in_err-risen-in-Some-clause-ends g c =
    let sheet = c.args.self.now.sheet.now in
    let r = rules_of sheet g.K.Kind.fit g.T.Joins.joining g.T.Tally.order in
    let a : List ℕ = c.args.cursor.now in
    let q : ℕ = c.in-Some.length in
    let is : position c.args.incumbent.now (sheet.codes ^ pairs sheet.items) ≡ step r sheet.items (rows_of sheet) (position c.args.incumbent.now (index sheet.codes a)) =
    step_skips r sheet.items (rows_of sheet) c.args.incumbent.now a sheet.coded c.requires.long.1 c.requires.below.1
    c.args.kept.best c.requires.keeps.best q c.in-Some.ensures.is c.in-Some.ensures.within (sheet.codes ^ pairs sheet.items)
    (ended_at sheet.codes (pairs sheet.items) q (index sheet.codes a) a c.requires.long.1 c.in_err-risen-in-Some.ensures.ended) in
    rw c.from_residual.ensures is

pub returns-in_err-filled-in-None-clause-ends : goal.returns-in_err-filled-in-None-clause-ends
returns-in_err-filled-in-None-clause-ends g c =
    let sheet = c.args.self.now.sheet.now in
    let r = rules_of sheet g.K.Kind.fit g.T.Joins.joining g.T.Tally.order in
    let a : List ℕ = c.args.cursor.now in
    let next : ℕ = sheet.codes ^ pairs sheet.items in
    let is : position c.copy_from_slice.new.self (sheet.codes ^ pairs sheet.items) ≡ step r sheet.items (rows_of sheet) (position c.args.incumbent.now (index sheet.codes a)) =
    ap (λ (z : List ℕ). position z next) c.copy_from_slice.ensures.after
    ∙ step_holds r sheet.items (rows_of sheet) c.args.incumbent.now a sheet.coded c.requires.long.1 c.requires.below.1
    c.args.kept.best c.requires.keeps.best (pairs sheet.items + 1) c.in-None.ensures.is (omega arith) next
    (ended_at sheet.codes (pairs sheet.items) (pairs sheet.items) (index sheet.codes a) a c.requires.long.1
    (ap (λ (z : ℕ). past sheet.codes (length a) z (index sheet.codes a)) (sym c.requires.long.1) ∙ c.in_err-filled-in-None.ensures.ended)) in
    rw c.from_residual-in_err-filled-in-None.ensures is

pub returns-in_ok-risen-in-Some-clause-goes_on : goal.returns-in_ok-risen-in-Some-clause-goes_on
returns-in_ok-risen-in-Some-clause-goes_on g c =
    let sheet = c.args.self.now.sheet.now in
    let r = rules_of sheet g.K.Kind.fit g.T.Joins.joining g.T.Tally.order in
    let a : List ℕ = c.args.cursor.now in
    let q : ℕ = c.in-Some.length in
    let next : ℕ = index sheet.codes c.rise.new.cursor in
    step_skips r sheet.items (rows_of sheet) c.args.incumbent.now a sheet.coded c.requires.long.1 c.requires.below.1
    c.args.kept.best c.requires.keeps.best q c.in-Some.ensures.is c.in-Some.ensures.within next
    (moved_to sheet.codes (pairs sheet.items) q (index sheet.codes a) next a c.requires.long.1 c.in_ok-risen-in-Some.ensures.moved)

pub returns-in_ok-risen-in-Some-clause-keeps : goal.returns-in_ok-risen-in-Some-clause-keeps
returns-in_ok-risen-in-Some-clause-keeps g c =
    let sheet = c.args.self.now.sheet.now in
    let r = rules_of sheet g.K.Kind.fit g.T.Joins.joining g.T.Tally.order in
    let a : List ℕ = c.args.cursor.now in
    let out : List ℕ = c.rise.new.cursor in
    let q : ℕ = c.in-Some.length in
    let risen : ℕ = c.in_ok-risen-in-Some.risen in
    let e = c.in_ok-risen-in-Some.ensures in
    let known = c.in-Some.ensures.known in
    let within : c.in_ok-risen-in-Some.risen ≤ pairs c.args.self.now.sheet.now.items = omega (arith, e.within.1, c.in-Some.ensures.within) in
    record {
      best = c.requires.keeps.best;
      stands = within;
      filled = within;
      known = record {
        long = known.long;
        costs = spent_kept g.T.Joins.joining (rows_of sheet) a out c.shortest.new.spent q risen e.within.1 e.shares known.costs;
        stands = stands_kept r sheet.items (rows_of sheet) c.args.kept.best a out q risen e.within.1 e.shares known.stands;
      };
      blank = e.blank;
    }

pub returns-in_ok-filled-in-None-clause-goes_on : goal.returns-in_ok-filled-in-None-clause-goes_on
returns-in_ok-filled-in-None-clause-goes_on g c =
    let sheet = c.args.self.now.sheet.now in
    let r = rules_of sheet g.K.Kind.fit g.T.Joins.joining g.T.Tally.order in
    let a : List ℕ = c.args.cursor.now in
    let next : ℕ = index sheet.codes c.rise-in-None.new.cursor in
    ap (λ (z : List ℕ). position z next) c.copy_from_slice.ensures.after
    ∙ step_holds r sheet.items (rows_of sheet) c.args.incumbent.now a sheet.coded c.requires.long.1 c.requires.below.1
    c.args.kept.best c.requires.keeps.best (pairs sheet.items + 1) c.in-None.ensures.is (omega arith) next
    (moved_to sheet.codes (pairs sheet.items) (pairs sheet.items) (index sheet.codes a) next a c.requires.long.1
    (c.in_ok-filled-in-None.ensures.moved ∙ ap (λ (z : ℕ). past sheet.codes (length a) z (index sheet.codes a)) c.requires.long.1))

pub returns-in_ok-filled-in-None-clause-keeps : goal.returns-in_ok-filled-in-None-clause-keeps
returns-in_ok-filled-in-None-clause-keeps g c =
    let sheet = c.args.self.now.sheet.now in
    let j = g.T.Joins.joining in
    let rows : List Row = rows_of sheet in
    let a : List ℕ = c.args.cursor.now in
    let few = c.args.self.now.sheet.now.fits in
    let known = c.in-None.ensures.known in
    let best : c.index-spent-count.result ≡ cost j rows (entry c.copy_from_slice.new.self) =
    c.index-spent-count.is
    ∙ get_or_default c.shortest.new.spent (length a) c.index-spent-count.result j.empty (omega (arith, few, c.requires.long.1, known.long))
    ∙ known.costs (length a) (omega (arith, c.requires.long.1))
    ∙ ap (spent_on j rows a) c.requires.long.1
    ∙ pairs_join j g.met.T.Joins.monoid sheet.items rows a (proper_is sheet.items rows sheet.sound)
    ∙ ap (λ (z : List ℕ). cost j rows (entry z)) (sym c.copy_from_slice.ensures.after) in
    record {
      best = best;
      stands = omega arith;
      filled = omega (arith, c.in_ok-filled-in-None.ensures.within.1, c.requires.long.1);
      known = record { long = known.long; costs = λ z l. absurd (omega (arith, l)); stands = λ z l. absurd (omega (arith, l)) };
      blank = c.in_ok-filled-in-None.ensures.blank;
    }

-- Given, since a wrong body is refused 7 s sooner with it.
pub rise-requires-clause-blank : goal.rise-requires-clause-blank
rise-requires-clause-blank g c = c.requires.keeps.blank
