-- The sum is 0 exactly if each table's count is.
use Rattle.std.proofs.Common.{◌≡◌, ℕ, ◌+◌, ◌-◌, ◌^◌, min, ◌∷◌, Ok, subst, sym, ◌∙◌, refl, arith}
use Rattle.std.proofs.lemmas.Option.{same_Some}
use Rattle.std.specs.List.{All}
use Rattle.spells.specs.Spells.{spells, spell_words}
use Rattle.literature.specs.Literature.{HeldTables, Identity, LiteratureHeld}
use Rattle.literature.specs.Held.{joined}
use Rattle.literature.specs.Published.{IdempotentAgrees, NeutralAgrees}
use Rattle.literature.proofs.Printing.{appends_more}
use Rattle.literature.proofs.Rowed.{code_read}
use Rattle.literature.proofs.literature.hold_all.Goals as goal

-- A capped sum of numbers is 0 exactly if each of them is. These two stand alone, since the searches for them among all that is known below take 2 s more.
none_in_sum : (a b c d e f g n : ℕ) → n ≡ min (a + (b + (c + (d + (e + (f + (g + 0))))))) (2 ^ 32 - 1) → n ≡ 0 → (a ≡ 0) × (b ≡ 0) × (c ≡ 0) × (d ≡ 0) × (e ≡ 0) × (f ≡ 0) × (g ≡ 0)
none_in_sum a b c d e f g n is zero = (omega arith, omega arith, omega arith, omega arith, omega arith, omega arith, omega arith)

sum_of_none : (a b c d e f g n : ℕ) → n ≡ min (a + (b + (c + (d + (e + (f + (g + 0))))))) (2 ^ 32 - 1) → (a ≡ 0) × (b ≡ 0) × (c ≡ 0) × (d ≡ 0) × (e ≡ 0) × (f ≡ 0) × (g ≡ 0) → n ≡ 0
sum_of_none a b c d e f g n is (p1, p2, p3, p4, p5, p6, p7) = omega arith

pub returns-clause-agree : goal.returns-clause-agree
returns-clause-agree g c =
    let l = c.args.literature in
    let letters = l.intervals.letters.0.now in
    let i = c.in_ok-identity.identity in
    let read : Identity l i = code_read _ i (Ok i) c.in_ok-identity.ensures refl in
    let Neutral : ℕ → Type 0 = λ n. IdempotentAgrees spells spell_words letters n l.identity.now × All (λ row. NeutralAgrees spells spell_words letters n row.letter.now) l.intervals.rows.now in
    let (point_converses, of_point_converses) = c.in_ok-hold_converses.ensures.agree in
    let (points, of_points) = c.in_ok-hold_compositions.ensures.agree in
    let (interval_converses, of_interval_converses) = c.in_ok-hold_converses-2.ensures.agree in
    let (intervals, of_intervals) = c.in_ok-hold_compositions-2.ensures.agree in
    let (identity, of_identity) = c.in_ok-hold_identity.ensures.agree in
    let (direction_converses, of_direction_converses) = c.in_ok-hold_converses-3.ensures.agree in
    let (directions, of_directions) = c.in_ok-hold_directions.ensures.agree in
    let d1 = c.in_ok-hold_converses.field-0 in
    let d2 = c.in_ok-hold_compositions.field-0 in
    let d3 = c.in_ok-hold_converses-2.field-0 in
    let d4 = c.in_ok-hold_compositions-2.field-0 in
    let d5 = c.in_ok-hold_identity.field-0 in
    let d6 = c.in_ok-hold_converses-3.field-0 in
    let d7 = c.in_ok-hold_directions.field-0 in
    let is : c.total.result ≡ min (d1 + (d2 + (d3 + (d4 + (d5 + (d6 + (d7 + 0))))))) (2 ^ 32 - 1) = omega (arith, c.total.ensures) in
    let none = none_in_sum d1 d2 d3 d4 d5 d6 d7 c.total.result is in
    let all_none = sum_of_none d1 d2 d3 d4 d5 d6 d7 c.total.result is in (
      λ zero.
          let (n1, n2, n3, n4, n5, n6, n7) = none zero in
          let (first, rows) = identity n5 in
          record {
            point_converses = point_converses n1;
            points = points n2;
            interval_converses = interval_converses n3;
            intervals = intervals n4;
            identity = (i, read, first, rows);
            direction_converses = direction_converses n6;
            directions = directions n7;
          },
      λ all.
          let (i', read', first, rows) = all.identity in
          let same : i' ≡ i = same_Some i' i (sym read' ∙ read) in
          let both : Neutral i = subst Neutral same (first, rows) in
          all_none (of_point_converses all.point_converses, of_points all.points, of_interval_converses all.interval_converses, of_intervals all.intervals, of_identity both, of_direction_converses all.direction_converses, of_directions all.directions),
    )

pub returns-clause-complete : goal.returns-clause-complete
returns-clause-complete g c =
    let l = c.args.literature in
    let i = c.in_ok-identity.identity in
    let read : Identity l i = code_read _ i (Ok i) c.in_ok-identity.ensures refl in
    record {
      point_converses = c.in_ok-hold_converses.ensures.complete;
      points = c.in_ok-hold_compositions.ensures.complete;
      interval_converses = c.in_ok-hold_converses-2.ensures.complete;
      intervals = (i, read, c.single.result, c.single.ensures, c.in_ok-hold_compositions-2.ensures.complete);
      direction_converses = c.in_ok-hold_converses-3.ensures.complete;
      directions = c.in_ok-hold_directions.ensures.complete;
    }

pub returns-clause-printed : goal.returns-clause-printed
returns-clause-printed g c =
    let l = c.args.literature in
    let i = c.in_ok-identity.identity in
    let read : Identity l i = code_read _ i (Ok i) c.in_ok-identity.ensures refl in
    let (point_converses, of_point_converses, m1, p1) = c.in_ok-hold_converses.ensures.printed in
    let (points, of_points, m2, p2) = c.in_ok-hold_compositions.ensures.printed in
    let (interval_converses, of_interval_converses, m3, p3) = c.in_ok-hold_converses-2.ensures.printed in
    let (intervals, of_intervals, m4, p4) = c.in_ok-hold_compositions-2.ensures.printed in
    let (itself, identity, of_identity, m5, p5) = c.in_ok-hold_identity.ensures.printed in
    let (direction_converses, of_direction_converses, m6, p6) = c.in_ok-hold_converses-3.ensures.printed in
    let (directions, of_directions, m7, p7) = c.in_ok-hold_directions.ensures.printed in
    let held : HeldTables = record {
      point_converses = point_converses;
      points = joined points;
      interval_converses = interval_converses;
      intervals = joined intervals;
      identity = itself ∷ joined identity;
      direction_converses = direction_converses;
      directions = joined directions;
    } in
    let of_held : LiteratureHeld l held = record {
      point_converses = of_point_converses;
      points = (points, of_points, refl);
      interval_converses = of_interval_converses;
      intervals = (intervals, of_intervals, refl);
      identity = (i, read, itself, identity, of_identity, refl);
      direction_converses = of_direction_converses;
      directions = (directions, of_directions, refl);
    } in (
      held,
      of_held,
      omega (arith, c.total.ensures, m1, m2, m3, m4, m5, m6, m7),
      appends_more _ _ _ _ _
          (appends_more _ _ _ _ _ (appends_more _ _ _ _ _ (appends_more _ _ _ _ _ (appends_more _ _ _ _ _ (appends_more _ _ _ _ _ p1 p2) p3) p4) p5) p6)
          p7,
    )
