-- The rank lemma.
use Rattle.std.proofs.Common.{◌≡◌, ◌<◌, ◌≤◌, T, List, sym, refl, ap, ◌∙◌, subst, arith}
use Prim.Native.Nat.{Ordering, compare}
use Rattle.points.specs.Points.{converse, is_lt, compose}
use Rattle.points.specs.Ranks.{Has, rank, Consistent, RankLemma}
use Rattle.points.proofs.Compare.{said, self_converse, compose_lt, compose_eq, eq_compose}
use Rattle.points.proofs.Counting.{count_le, count_lt}

-- The marks of xs, ranked by how many of rs stand before them: rs is a part of xs in which each mark of xs has an equal.
module _ {A : Type 0} (cmp : A → A → Ordering) (xs rs : List A) (ok : Consistent cmp xs)
    (part : (x : A) → Has x rs → Has x xs)
    (equal : (x : A) → Has x xs → (r : A) × Has r rs × (cmp r x ≡ Ordering.eq)) where
  rank_le : (x y : A) → Has x xs → Has y xs → cmp x y ≡ Ordering.eq → rank cmp rs x ≤ rank cmp rs y
  rank_le x y hx hy e =
      count_le (λ z. is_lt (cmp z x)) (λ z. is_lt (cmp z y)) rs
      (λ z hz t. subst (λ (o : Ordering). T (is_lt o))
      (compose_eq (cmp z x) (cmp z y) (subst (λ (o : Ordering). T (compose (cmp z x) o (cmp z y))) e (ok.triple z x y (part z hz) hx hy))) t)

  rank_lt : (x y : A) → Has x xs → Has y xs → cmp x y ≡ Ordering.lt → rank cmp rs x < rank cmp rs y
  rank_lt x y hx hy e =
      let q : (r : A) × Has r rs × (cmp r x ≡ Ordering.eq) = equal x hx in
      let here : cmp x y ≡ cmp q.0 y =
      eq_compose (cmp x y) (cmp q.0 y) (subst (λ (o : Ordering). T (compose o (cmp x y) (cmp q.0 y))) q.2 (ok.triple q.0 x y (part q.0 q.1) hx hy)) in
      count_lt (λ z. is_lt (cmp z x)) (λ z. is_lt (cmp z y)) rs
      (λ z hz t. compose_lt (cmp z x) (cmp z y) (subst (λ (o : Ordering). T (compose (cmp z x) o (cmp z y))) e (ok.triple z x y (part z hz) hx hy)) t)
      q.0 q.1 (ap is_lt q.2) (ap is_lt (sym here ∙ e))

  pub rank_among : (x y : A) → Has x xs → Has y xs → compare (rank cmp rs x) (rank cmp rs y) ≡ cmp x y
  rank_among x y hx hy = go (cmp x y) refl
    where
      go : (o : Ordering) → cmp x y ≡ o → compare (rank cmp rs x) (rank cmp rs y) ≡ o
      go Ordering.lt e = said Ordering.lt (rank cmp rs x) (rank cmp rs y) (rank_lt x y hx hy e)
      go Ordering.eq e =
          let back : cmp y x ≡ Ordering.eq = ok.turned x y hx hy ∙ ap converse e in
          said Ordering.eq (rank cmp rs x) (rank cmp rs y) (omega (arith, rank_le x y hx hy e, rank_le y x hy hx back))
      go Ordering.gt e = said Ordering.gt (rank cmp rs x) (rank cmp rs y) (rank_lt y x hy hx (ok.turned x y hx hy ∙ ap converse e))

pub rank_lemma : {A : Type 0} → RankLemma A
rank_lemma cmp xs ok =
    rank_among cmp xs xs ok (λ x h. h) (λ x h. (x, h, self_converse (cmp x x) (ok.turned x x h h)))
