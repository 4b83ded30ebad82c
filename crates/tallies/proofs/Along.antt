-- A joining taken along a function keeps the laws.
use Rattle.std.proofs.Common.{◌≡◌, Bool, List, [], ◌∷◌, map, refl, ap}
use Rattle.std.proofs.lemmas.List.{length-map}
use Rattle.tallies.specs.Joins.{Joining, Monoid, Ranking, joined, along}

module _ {R P C : Type 0} (f : R → P) (j : Joining P C) where
  -- The join along f is the join of the list mapped by f.
  pub joined_along : (rs : List R) → joined (along f j) rs ≡ joined j (map f rs)
  joined_along [] = refl
  joined_along (r ∷ rs) = ap (j.join (j.penalty (f r))) (joined_along rs)

  pub monoid_along : Monoid j → Monoid (along f j)
  monoid_along m = record {
    identity = λ xs h. simp joined_along (m.identity (map f xs) (simp length-map h));
    single = λ x. m.single (f x);
    assoc = λ xs ys zs h. simp joined_along (m.assoc (map f xs) (map f ys) (map f zs) (simp length-map h));
    comm = λ xs ys h. simp joined_along (m.comm (map f xs) (map f ys) (simp length-map h));
  }

  pub ranking_along : (at_most : C → C → Bool) → Ranking j at_most → Ranking (along f j) at_most
  ranking_along at_most r = record {
    above = λ x. r.above (f x);
    total = λ xs ys h g e. simp joined_along (r.total (map f xs) (map f ys) (simp length-map h) (simp length-map g) (simp joined_along at e));
    transitive = λ xs ys zs h g i d e. simp joined_along
        (r.transitive (map f xs) (map f ys) (map f zs) (simp length-map h) (simp length-map g) (simp length-map i) (simp joined_along at d) (simp joined_along at e));
    antisymmetric = λ xs ys h g d e. simp joined_along
        (r.antisymmetric (map f xs) (map f ys) (simp length-map h) (simp length-map g) (simp joined_along at d) (simp joined_along at e));
    monotone = λ xs ys zs h g e. simp joined_along
        (r.monotone (map f xs) (map f ys) (map f zs) (simp length-map h) (simp length-map g) (simp joined_along at e));
  }
