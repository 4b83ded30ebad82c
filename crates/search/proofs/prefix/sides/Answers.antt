-- The table is right at each place, by one computed test for each clause.
use Rattle.std.proofs.Common.{ℕ, ◌+◌, eqb, ltb, List, [], ◌∷◌, get_or, eqb→eq, ltb→lt}
use Rattle.points.specs.Scenarios.{pairs}
use Rattle.search.proofs.Listed.{at_each}
use Rattle.search.proofs.prefix.sides.Goals as goal

table : List (ℕ × ℕ)
table =
    (0, 1) ∷
    (0, 2) ∷ (1, 2) ∷
    (0, 3) ∷ (1, 3) ∷ (2, 3) ∷
    (0, 4) ∷ (1, 4) ∷ (2, 4) ∷ (3, 4) ∷
    (0, 5) ∷ (1, 5) ∷ (2, 5) ∷ (3, 5) ∷ (4, 5) ∷
    (0, 6) ∷ (1, 6) ∷ (2, 6) ∷ (3, 6) ∷ (4, 6) ∷ (5, 6) ∷
    (0, 7) ∷ (1, 7) ∷ (2, 7) ∷ (3, 7) ∷ (4, 7) ∷ (5, 7) ∷ (6, 7) ∷
    (0, 8) ∷ (1, 8) ∷ (2, 8) ∷ (3, 8) ∷ (4, 8) ∷ (5, 8) ∷ (6, 8) ∷ (7, 8) ∷
    (0, 9) ∷ (1, 9) ∷ (2, 9) ∷ (3, 9) ∷ (4, 9) ∷ (5, 9) ∷ (6, 9) ∷ (7, 9) ∷ (8, 9) ∷
    (0, 10) ∷ (1, 10) ∷ (2, 10) ∷ (3, 10) ∷ (4, 10) ∷ (5, 10) ∷ (6, 10) ∷ (7, 10) ∷ (8, 10) ∷ (9, 10) ∷
    (0, 11) ∷ (1, 11) ∷ (2, 11) ∷ (3, 11) ∷ (4, 11) ∷ (5, 11) ∷ (6, 11) ∷ (7, 11) ∷ (8, 11) ∷ (9, 11) ∷ (10, 11) ∷ []

pub returns : goal.returns
unfolding table
returns c =
    let p = c.args.spot in
    let side = get_or table p (0, 0) in
    record {
      placed = eqb→eq (pairs side.1 + side.0) p (at_each (λ k s. eqb (pairs s.1 + s.0) k) table (0, 0) tt p c.requires);
      rising = ltb→lt side.0 side.1 (at_each (λ k s. ltb s.0 s.1) table (0, 0) tt p c.requires);
      few = ltb→lt side.1 12 (at_each (λ k s. ltb s.1 12) table (0, 0) tt p c.requires);
    }
