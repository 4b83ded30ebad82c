-- Parts that pass the test make a sheet at its opening.
use Rattle.std.proofs.Common.{◌≡◌, ℕ, ◌≤◌, List, Option, replicate, sym, ap, ◌∙◌, subst, arith}
use Rattle.std.specs.Option.{ForSome}
use Rattle.std.proofs.lemmas.List.{take-replicate}
use Rattle.points.specs.Scenarios.{pairs}
use Rattle.search.specs.Sheets.{Holds, number_at, stands_at}
use Rattle.rules.specs.Steps.{position, opening}
use Rattle.search.proofs.Closed.{blanks, pairs_few, closes_parts, zeros_hold}
use Rattle.search.proofs.sheet.Sheet.closing.Goals as goal

pub second_scenario-cursor-requires-clause-few : goal.second_scenario-cursor-requires-clause-few
second_scenario-cursor-requires-clause-few c =
    let parts = closes_parts c.args.items c.args.rows c.args.codes (sym c.can_close.ensures ∙ c.if-not-can_close.false) in
    omega (arith, pairs_few c.args.items parts.1, c.pairs.ensures)

pub invariant_of-result : goal.invariant_of-result
invariant_of-result c =
    let parts = closes_parts c.args.items c.args.rows c.args.codes (sym c.can_close.ensures ∙ c.if-not-can_close.false) in
    record {
      some = parts.0;
      few = parts.1;
      fits = pairs_few c.args.items parts.1;
      room = parts.4;
      sound = parts.5;
      coded = parts.2;
      narrow = parts.3;
      held = zeros_hold c.args.codes (pairs c.args.items) parts.2 (pairs_few c.args.items parts.1);
      marked = subst (λ (p : ℕ). ForSome c.second_scenario-cursor.result (Holds c.args.codes p)) c.pairs.ensures c.second_scenario-cursor.ensures.holds;
    }

-- The arrays stand at the opening.
opens : (n b p : ℕ) (cursor : Option (List ℕ)) → pairs n ≤ 66 → p ≡ pairs n → number_at b p cursor ≡ 1 → stands_at b n blanks cursor ≡ opening n
opens n b p cursor few same one =
    ap (λ (a : List ℕ). position a (number_at b (pairs n) cursor)) (take-replicate (pairs n) 66 0 few)
    ∙ ap (position (replicate (pairs n) 0)) (ap (λ (z : ℕ). number_at b z cursor) (sym same) ∙ one)

pub returns-clause-opens : goal.returns-clause-opens
returns-clause-opens c =
    let parts = closes_parts c.args.items c.args.rows c.args.codes (sym c.can_close.ensures ∙ c.if-not-can_close.false) in
    opens c.args.items c.args.codes c.pairs.result c.second_scenario-cursor.result (pairs_few c.args.items parts.1) c.pairs.ensures c.second_scenario-cursor.ensures.number
