-- The laws over lists give the laws over joins of any shape.
use Rattle.std.proofs.Common.{◌≡◌, ◌≤◌, Bool, false, List, [], ◌∷◌, length, sym, refl, ap, ◌∙◌, arith, length-append}
use Rattle.tallies.specs.Joins.{Joining, Monoid, Ranking, joined, most_penalties}
use Rattle.tallies.specs.Shapes.{Shape, empty, one, both, size, listing, cost_of, Listed, MonoidOfShapes, RankingOfShapes}
use Rattle.tallies.proofs.Joins.{append, identity_right as list_identity_right}
use Rattle.tallies.proofs.Orders.{reflexive as list_reflexive, above_empty}

-- A join has as many penalties as its list.
pub length_listing : {P : Type 0} (s : Shape P) → length (listing s) ≡ size s
length_listing empty = refl
length_listing (one x) = refl
length_listing (both s t) = let a = length_listing s in let b = length_listing t in simp length-append (omega arith)

module _ {P C : Type 0} (j : Joining P C) (m : Monoid j) where
  -- A join comes to the join of the list of its penalties.
  pub joined_listing : Listed j
  joined_listing empty h = refl
  joined_listing (one x) h = sym (m.single x)
  joined_listing (both s t) h =
      let a = length_listing s in
      let b = length_listing t in
      ap (λ (z : C). j.join z (cost_of j t)) (joined_listing s (omega arith))
      ∙ ap (j.join (joined j (listing s))) (joined_listing t (omega arith))
      ∙ append j m (listing s) (listing t) (omega arith)

  pub monoid_of_shapes : MonoidOfShapes j
  monoid_of_shapes = record {
    identity_left = λ s h. let n = length_listing s in
        simp (joined_listing s h) (m.identity (listing s) (omega arith));
    identity_right = λ s h. let n = length_listing s in
        simp (joined_listing s h) (list_identity_right j m (listing s) (omega arith));
    assoc = λ s t u h. let a = length_listing s in let b = length_listing t in let c = length_listing u in
        simp (joined_listing s (omega arith), joined_listing t (omega arith), joined_listing u (omega arith))
        (m.assoc (listing s) (listing t) (listing u) (omega arith));
    comm = λ s t h. let a = length_listing s in let b = length_listing t in
        simp (joined_listing s (omega arith), joined_listing t (omega arith)) (m.comm (listing s) (listing t) (omega arith));
  }

module _ {P C : Type 0} (j : Joining P C) (m : Monoid j) (at_most : C → C → Bool) (r : Ranking j at_most) where
  -- A list of one penalty or more is above the empty cost.
  list_above : (xs : List P) → 1 ≤ length xs → length xs ≤ most_penalties → at_most (joined j xs) j.empty ≡ false
  list_above [] l h = absurd (omega arith)
  list_above (x ∷ xs) l h = above_empty j m at_most r x xs (omega arith)

  pub ranking_of_shapes : RankingOfShapes j at_most
  ranking_of_shapes = record {
    above = λ s l h. let n = length_listing s in
        simp (joined_listing j m s h) (list_above (listing s) (omega arith) (omega arith));
    reflexive = λ s h. let n = length_listing s in
        simp (joined_listing j m s h) (list_reflexive j m at_most r (listing s) (omega arith));
    total = λ s t h g e. let a = length_listing s in let b = length_listing t in
        simp (joined_listing j m s h, joined_listing j m t g)
        (r.total (listing s) (listing t) (omega arith) (omega arith) (simp (joined_listing j m s h, joined_listing j m t g) at e));
    transitive = λ s t u h g i d e. let a = length_listing s in let b = length_listing t in let c = length_listing u in
        simp (joined_listing j m s h, joined_listing j m u i)
        (r.transitive (listing s) (listing t) (listing u) (omega arith) (omega arith) (omega arith)
        (simp (joined_listing j m s h, joined_listing j m t g) at d) (simp (joined_listing j m t g, joined_listing j m u i) at e));
    antisymmetric = λ s t h g d e. let a = length_listing s in let b = length_listing t in
        simp (joined_listing j m s h, joined_listing j m t g)
        (r.antisymmetric (listing s) (listing t) (omega arith) (omega arith)
        (simp (joined_listing j m s h, joined_listing j m t g) at d) (simp (joined_listing j m s h, joined_listing j m t g) at e));
    monotone = λ s t u h g e. let a = length_listing s in let b = length_listing t in let c = length_listing u in
        simp (joined_listing j m s (omega arith), joined_listing j m t (omega arith), joined_listing j m u (omega arith))
        (r.monotone (listing s) (listing t) (listing u) (omega arith) (omega arith)
        (simp (joined_listing j m s (omega arith), joined_listing j m t (omega arith)) at e));
  }
