-- The marks of items on one axis: where each triple of a scenario fits along the axis, the ranks of the marks have the scenario.
use Rattle.std.proofs.Common.{◌≡◌, ℕ, zero, suc, ◌+◌, ◌<◌, ◌≤◌, Bool, T, List, [], count_by, sym, ap, ◌∙◌, subst, inl, inr, not-suc-le-zero, add-one, arith}
use Prim.Native.Nat.{Ordering, compare}
use Rattle.std.proofs.lemmas.Bool.{cases_order, cases_lt}
use Rattle.points.specs.Points.{converse, is_lt, compose}
use Rattle.points.specs.Ranks.{Has, rank, Consistent}
use Rattle.points.specs.Scenarios.{entry}
use Rattle.points.specs.Marks.{of_item, marks, choose, stands, in_scenario, mark_rank}
use Rattle.points.proofs.Compare.{compare_lt, compare_gt, compare_self, compare_converse, compose_compare, converse_converse, compose_swap, compose_turn}
use Rattle.points.proofs.Counting.{one, count-cons, count_same}
use Rattle.points.proofs.Ranked.{rank_lemma}

-- the marks of n items that have m each are the pairs (i, s) with i < n and s < m

of_item_rest : (k m : ℕ) (ms : List (ℕ × ℕ)) (x : ℕ × ℕ) → Has x ms → Has x (of_item k m ms)
of_item_rest k zero ms x h = h
of_item_rest k (suc m) ms x h = inr (of_item_rest k m ms x h)

of_item_here : (k m : ℕ) (ms : List (ℕ × ℕ)) (s : ℕ) → s < m → Has (k, s) (of_item k m ms)
of_item_here k zero ms s h = absurd (not-suc-le-zero h)
of_item_here k (suc m) ms s h = elim (cases_order s m) [
  | inl e ↦ inl (ap (λ (u : ℕ). (k, u)) e)
  | inr (inl l) ↦ inr (of_item_here k m ms s l)
  | inr (inr g) ↦ absurd (between g)
]
  where
    between : m < s → ⊥
    between g = omega arith

pub has_mark : (m n i s : ℕ) → i < n → s < m → Has (i, s) (marks m n)
has_mark m zero i s l h = absurd (not-suc-le-zero l)
has_mark m (suc n) i s l h = elim (cases_order i n) [
  | inl e ↦ subst (λ (k : ℕ). Has (k, s) (of_item n m (marks m n))) (sym e) (of_item_here n m (marks m n) s h)
  | inr (inl p) ↦ of_item_rest n m (marks m n) (i, s) (has_mark m n i s p h)
  | inr (inr p) ↦ absurd (between p)
]
  where
    between : n < i → ⊥
    between p = omega arith

Within : ℕ → ℕ → ℕ × ℕ → Type 0
Within m n x = (x.0 < n) × (x.1 < m)

of_item_within : (p n k : ℕ) → k < n → (m : ℕ) → m ≤ p → (ms : List (ℕ × ℕ)) → ((x : ℕ × ℕ) → Has x ms → Within p n x) → (x : ℕ × ℕ) → Has x (of_item k m ms) → Within p n x
unfolding Within
of_item_within p n k l zero b ms f x h = f x h
of_item_within p n k l (suc m) b ms f x (inl e) = subst (λ (y : ℕ × ℕ). Within p n y) (sym e) (l, omega arith)
of_item_within p n k l (suc m) b ms f x (inr h) = of_item_within p n k l m (omega arith) ms f x h

pub mark_within : (m n : ℕ) (x : ℕ × ℕ) → Has x (marks m n) → (x.0 < n) × (x.1 < m)
unfolding Within
mark_within m zero x h = absurd h
mark_within m (suc n) x h =
    of_item_within m (suc n) n (omega arith) m (omega arith) (marks m n) (λ y g. up y (mark_within m n y g)) x h
  where
    up : (y : ℕ × ℕ) → (y.0 < n) × (y.1 < m) → (y.0 < suc n) × (y.1 < m)
    up y w = (omega arith, w.1)

-- What is asked of m marks each of n items: that two marks of one item and one of another fit, and one mark of each of three items.
pub record Fitting (at : ℕ → ℕ → ℕ → ℕ → Ordering) (m n : ℕ) : Type 0 where
  pub left : (i j : ℕ) → i < j → j < n → (s t r : ℕ) → s < m → t < m → r < m → T (compose (compare s t) (at i j t r) (at i j s r))
  pub right : (i j : ℕ) → i < j → j < n → (s t r : ℕ) → s < m → t < m → r < m → T (compose (at i j s t) (compare t r) (at i j s r))
  pub triple : (i j k : ℕ) → i < j → j < k → k < n → (s t r : ℕ) → s < m → t < m → r < m → T (compose (at i j s t) (at j k t r) (at i k s r))

module _ (at : ℕ → ℕ → ℕ → ℕ → Ordering) where
  pub stands_lt : (i j s t : ℕ) → i < j → stands at (i, s) (j, t) ≡ at i j s t
  stands_lt i j s t h = ap (λ (o : Ordering). choose o (at i j s t) (compare s t) (converse (at j i t s))) (compare_lt i j h)

  pub stands_gt : (i j s t : ℕ) → j < i → stands at (i, s) (j, t) ≡ converse (at j i t s)
  stands_gt i j s t h = ap (λ (o : Ordering). choose o (at i j s t) (compare s t) (converse (at j i t s))) (compare_gt i j h)

  pub stands_own : (i s t : ℕ) → stands at (i, s) (i, t) ≡ compare s t
  stands_own i s t = ap (λ (o : Ordering). choose o (at i i s t) (compare s t) (converse (at i i t s))) (compare_self i)

  Three : ℕ × ℕ → ℕ × ℕ → ℕ × ℕ → Type 0
  Three x y z = T (compose (stands at x y) (stands at y z) (stands at x z))

  turned : (x y : ℕ × ℕ) → stands at y x ≡ converse (stands at x y)
  turned x y = elim (cases_order x.0 y.0) [
    | inl e ↦ own x.0 x.1 y.1 y.0 e
    | inr (inl l) ↦ stands_gt y.0 x.0 y.1 x.1 l ∙ ap converse (sym (stands_lt x.0 y.0 x.1 y.1 l))
    | inr (inr g) ↦ stands_lt y.0 x.0 y.1 x.1 g ∙ converse_converse (at y.0 x.0 y.1 x.1) ∙ ap converse (sym (stands_gt x.0 y.0 x.1 y.1 g))
  ]
    where
      own : (i s t j : ℕ) → i ≡ j → stands at (j, t) (i, s) ≡ converse (stands at (i, s) (j, t))
      own i s t j e =
          subst (λ (k : ℕ). stands at (k, t) (i, s) ≡ converse (stands at (i, s) (k, t))) e
          (stands_own i t s ∙ compare_converse s t ∙ ap converse (sym (stands_own i s t)))

  swap : (x y z : ℕ × ℕ) → Three x y z → Three y x z
  unfolding Three
  swap x y z h =
      subst (λ (o : Ordering). T (compose o (stands at x z) (stands at y z))) (sym (turned x y))
      (compose_swap (stands at x y) (stands at y z) (stands at x z) h)

  turn : (x y z : ℕ × ℕ) → Three x y z → Three x z y
  unfolding Three
  turn x y z h =
      subst (λ (o : Ordering). T (compose (stands at x z) o (stands at x y))) (sym (turned y z))
      (compose_turn (stands at x y) (stands at y z) (stands at x z) h)

  by : (x y z : ℕ × ℕ) {a b c : Ordering} → stands at x y ≡ a → stands at y z ≡ b → stands at x z ≡ c → T (compose a b c) → Three x y z
  unfolding Three
  by x y z p q r h = rw (p, q, r) h

  module _ (m n : ℕ) (f : Fitting at m n) where
    -- three marks of items in their order
    sorted : (i j k s t r : ℕ) → i ≤ j → j ≤ k → k < n → s < m → t < m → r < m → Three (i, s) (j, t) (k, r)
    sorted i j k s t r p q l hs ht hr = elim (cases_order i j) [
      | inl e ↦ elim (cases_order j k) [
        | inl d ↦ all_same j k e d
        | inr (inl o) ↦ left_same j o e
        | inr (inr o) ↦ absurd (no o q)
      ]
      | inr (inl o) ↦ elim (cases_order j k) [
        | inl d ↦ right_same k l o d
        | inr (inl w) ↦ by (i, s) (j, t) (k, r) (stands_lt i j s t o) (stands_lt j k t r w) (stands_lt i k s r (far o w)) (f.triple i j k o w l s t r hs ht hr)
        | inr (inr w) ↦ absurd (no w q)
      ]
      | inr (inr o) ↦ absurd (no o p)
    ]
      where
        no : {a b : ℕ} → b < a → a ≤ b → ⊥
        no u v = omega arith

        far : i < j → j < k → i < k
        far u v = omega arith

        all_same : (a b : ℕ) → i ≡ a → a ≡ b → Three (i, s) (a, t) (b, r)
        all_same a b e d =
            subst (λ (b : ℕ). Three (i, s) (a, t) (b, r)) d
            (subst (λ (a : ℕ). Three (i, s) (a, t) (a, r)) e
            (by (i, s) (i, t) (i, r) (stands_own i s t) (stands_own i t r) (stands_own i s r) (compose_compare s t r)))

        left_same : (a : ℕ) → a < k → i ≡ a → Three (i, s) (a, t) (k, r)
        left_same a w e =
            let h : i < k = rw e w in
            subst (λ (a : ℕ). Three (i, s) (a, t) (k, r)) e
            (by (i, s) (i, t) (k, r) (stands_own i s t) (stands_lt i k t r h) (stands_lt i k s r h) (f.left i k h l s t r hs ht hr))

        right_same : (b : ℕ) → b < n → i < j → j ≡ b → Three (i, s) (j, t) (b, r)
        right_same b l o d =
            let h : j < n = rw d l in
            subst (λ (b : ℕ). Three (i, s) (j, t) (b, r)) d
            (by (i, s) (j, t) (j, r) (stands_lt i j s t o) (stands_own j t r) (stands_lt i j s r o) (f.right i j o h s t r hs ht hr))

    -- three marks in any order
    each : (i j k s t r : ℕ) → i < n → j < n → k < n → s < m → t < m → r < m → Three (i, s) (j, t) (k, r)
    each i j k s t r hi hj hk hs ht hr = elim (cases_lt j i) [
      | inr ij ↦ elim (cases_lt k j) [
        | inr jk ↦ sorted i j k s t r ij jk hk hs ht hr
        | inl kj ↦ elim (cases_lt k i) [
          | inr ik ↦ turn (i, s) (k, r) (j, t) (sorted i k j s r t ik (weak kj) hj hs hr ht)
          | inl ki ↦ turn (i, s) (k, r) (j, t) (swap (k, r) (i, s) (j, t) (sorted k i j r s t (weak ki) ij hj hr hs ht))
        ]
      ]
      | inl ji ↦ elim (cases_lt k i) [
        | inr ik ↦ swap (j, t) (i, s) (k, r) (sorted j i k t s r (weak ji) ik hk ht hs hr)
        | inl ki ↦ elim (cases_lt k j) [
          | inr jk ↦ swap (j, t) (i, s) (k, r) (turn (j, t) (k, r) (i, s) (sorted j k i t r s jk (weak ki) hi ht hr hs))
          | inl kj ↦ swap (j, t) (i, s) (k, r) (turn (j, t) (k, r) (i, s) (swap (k, r) (j, t) (i, s) (sorted k j i r t s (weak kj) (weak ji) hi hr ht hs)))
        ]
      ]
    ]
      where
        weak : {a b : ℕ} → a < b → a ≤ b
        weak u = omega arith

    consistent : Consistent (stands at) (marks m n)
    unfolding Three
    consistent = record {
      turned = λ x y hx hy. turned x y;
      triple = λ x y z hx hy hz.
          let a = mark_within m n x hx in let b = mark_within m n y hy in let c = mark_within m n z hz in
          each x.0 y.0 z.0 x.1 y.1 z.1 a.0 b.0 c.0 a.1 b.1 c.1;
    }

    -- the ranks of the marks of two items stand as the scenario says
    pub ranks_pair : (i j s t : ℕ) → i < j → j < n → s < m → t < m → compare (rank (stands at) (marks m n) (i, s)) (rank (stands at) (marks m n) (j, t)) ≡ at i j s t
    ranks_pair i j s t l w hs ht =
        rank_lemma (stands at) (marks m n) consistent (i, s) (j, t) (has_mark m n i s (omega arith) hs) (has_mark m n j t w ht) ∙ stands_lt i j s t l

    -- those of one item ascend
    pub ranks_own : (i s t : ℕ) → i < n → s < m → t < m → compare (rank (stands at) (marks m n) (i, s)) (rank (stands at) (marks m n) (i, t)) ≡ compare s t
    ranks_own i s t l hs ht =
        rank_lemma (stands at) (marks m n) consistent (i, s) (i, t) (has_mark m n i s l hs) (has_mark m n i t l ht) ∙ stands_own i s t

-- Two ways of saying how the marks of two items stand that agree on their marks give the same ranks.
pub stands_same : (f g : ℕ → ℕ → ℕ → ℕ → Ordering) (i j s t : ℕ) → f i j s t ≡ g i j s t → f j i t s ≡ g j i t s → stands f (i, s) (j, t) ≡ stands g (i, s) (j, t)
stands_same f g i j s t p q =
    ap (λ (o : Ordering). choose (compare i j) o (compare s t) (converse (f j i t s))) p
    ∙ ap (λ (o : Ordering). choose (compare i j) (g i j s t) (compare s t) (converse o)) q

pub mark_rank_same : (f g : ℕ → ℕ → ℕ → Ordering) (m : ℕ) → ((c s t : ℕ) → s < m → t < m → f c s t ≡ g c s t) →
    (n : ℕ) (scenario : List ℕ) (i s : ℕ) → s < m → mark_rank f m n scenario i s ≡ mark_rank g m n scenario i s
mark_rank_same f g m e n scenario i s hs =
    count_same (λ y. is_lt (stands (in_scenario f scenario) y (i, s))) (λ y. is_lt (stands (in_scenario g scenario) y (i, s))) (marks m n)
    (λ y h. let w = mark_within m n y h in
    ap is_lt (stands_same (in_scenario f scenario) (in_scenario g scenario) y.0 i y.1 s
    (e (entry scenario y.0 i) y.1 s w.1 hs) (e (entry scenario i y.0) s y.1 hs w.1)))

-- a loop over the marks of an item, and one over the items

pub count_of_item : (f : ℕ × ℕ → Bool) (k m : ℕ) (ms : List (ℕ × ℕ)) → count_by f (of_item k m ms) ≡ count_by f (of_item k m []) + count_by f ms
count_of_item f k zero ms = omega arith
count_of_item f k (suc m) ms =
    omega (arith, count_of_item f k m ms, count-cons f (k, m) (of_item k m ms), count-cons f (k, m) (of_item k m []))

pub count_mark : (f : ℕ × ℕ → Bool) (k s : ℕ) (b : Bool) → b ≡ f (k, s) → count_by f (of_item k (s + 1) []) ≡ one b + count_by f (of_item k s [])
count_mark f k s b e = rw (add-one s, e) (count-cons f (k, s) (of_item k s []))

pub count_item : (f : ℕ × ℕ → Bool) (m k sum more : ℕ) → sum ≡ count_by f (marks m k) → more ≡ count_by f (of_item k m []) → sum + more ≡ count_by f (marks m (k + 1))
count_item f m k sum more e d = rw add-one (omega (arith, count_of_item f k m (marks m k)))
