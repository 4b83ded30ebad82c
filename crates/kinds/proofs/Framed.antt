-- What is proved once for every kind that is marks on axes: its laws, its fitting triples, and that counting realises a scenario.
use Rattle.std.proofs.Common.{◌≡◌, ℕ, zero, suc, ◌<◌, ◌≤◌, Bool, ◌&&◌, true, false, T, eqb, ltb, ◌⊎◌, List, [], ◌∷◌, Decides, sym, refl, ap, ◌∙◌, subst, ap₂, inl, inr, arith, eqb→eq}
use Prim.Native.Nat.{Ordering, compare}
use Rattle.std.proofs.lemmas.Bool.{ltb-true, lt-ltb}
use Rattle.points.specs.Points.{converse as turned_round, same, compose}
use Rattle.points.specs.Tests.{upto}
use Rattle.points.specs.Scenarios.{entry}
use Rattle.points.specs.Sets.{has}
use Rattle.points.specs.Marks.{in_scenario}
use Rattle.points.proofs.Finite.{both_left, both_right, both_from, implies, implied, true_from, holds_from, upto_at, upto_from}
use Rattle.points.proofs.Compare.{same_eq, says, compare_self, compare_converse, compose_compare, converse_converse}
use Rattle.points.proofs.Tabled.{has_beyond}
use Rattle.points.proofs.Marked.{Fitting as FittingMarks, ranks_pair, ranks_own}
use Rattle.kinds.specs.Meaning.{Meaning, ExactlyOne, Laws, Partition, Involutive, Fits, Fitting, Realises}
use Rattle.kinds.specs.Layouts.{Layout, marks_fit, fit, rank_on}

-- something of each axis and each two marks on it, and the test of it
abbrev pub Sides : Layout → (ℕ → ℕ → ℕ → Type 0) → Type 0
Sides l P = (a s t : ℕ) → a < l.axes → s < l.marks → t < l.marks → P a s t

abbrev pub sides : Layout → (ℕ → ℕ → ℕ → Bool) → Bool
sides l p = upto l.axes (λ a. upto l.marks (λ s. upto l.marks (λ t. p a s t)))

pub sides_at : (l : Layout) (p : ℕ → ℕ → ℕ → Bool) → T (sides l p) → Sides l (λ a s t. T (p a s t))
sides_at l p h a s t ha hs ht =
    upto_at l.marks (λ t. p a s t) (upto_at l.marks (λ s. upto l.marks (λ t. p a s t)) (upto_at l.axes (λ a. upto l.marks (λ s. upto l.marks (λ t. p a s t))) h a ha) s hs) t ht

pub sides_from : (l : Layout) (p : ℕ → ℕ → ℕ → Bool) → Sides l (λ a s t. T (p a s t)) → T (sides l p)
sides_from l p h =
    upto_from l.axes (λ a. upto l.marks (λ s. upto l.marks (λ t. p a s t))) (λ a ha.
    upto_from l.marks (λ s. upto l.marks (λ t. p a s t)) (λ s hs.
    upto_from l.marks (λ t. p a s t) (λ t ht. h a s t ha hs ht)))

-- The tests of a layout, which the checker computes.
-- Under a code, two marks of one item and one of another fit.
abbrev pub item_test : Layout → Bool
item_test l = upto l.codes (λ c. sides l (λ a s t. upto l.marks (λ r.
    compose (compare s t) (l.side a c t r) (l.side a c s r) && compose (l.side a c s t) (compare t r) (l.side a c s r))))

-- Code 0 has the marks of an item and of itself.
abbrev pub self_test : Layout → Bool
self_test l = sides l (λ a s t. same (compare s t) (l.side a 0 s t))

-- The converse has the sides turned round.
abbrev pub converse_test : Layout → (ℕ → ℕ) → Bool
converse_test l conv = upto l.codes (λ c. ltb (conv c) l.codes && sides l (λ a s t. same (turned_round (l.side a c t s)) (l.side a (conv c) s t)))

-- Two codes with the same sides are the same.
abbrev pub apart_test : Layout → Bool
apart_test l = upto l.codes (λ c. upto l.codes (λ d. implies (sides l (λ a s t. same (l.side a c s t) (l.side a d s t))) (eqb c d)))

-- The comparisons of the marks of two values are those of a code.
abbrev pub Seen : {V : Type 0} → Layout → (V → ℕ → ℕ → ℕ) → V → V → ℕ → Type 0
Seen l number u v c = Sides l (λ a s t. compare (number u a s) (number v a t) ≡ l.side a c s t)

-- A kind whose values are marks on axes: `number v a s` is mark s of v on the axis a.
pub record Frame {V : Type 0} (m : Meaning V) (l : Layout) : Type 0 where
  pub number : V → ℕ → ℕ → ℕ
  pub make : (ℕ → ℕ → ℕ) → V
  pub made : (f : ℕ → ℕ → ℕ) (a s : ℕ) → a < l.axes → s < l.marks → number (make f) a s ≡ f a s
  pub same_codes : m.codes ≡ l.codes
  -- a value is lawful where its marks ascend
  pub ascends : (v : V) → m.lawful v → Sides l (λ a s t. compare (number v a s) (number v a t) ≡ compare s t)
  pub lawful : (v : V) → Sides l (λ a s t. compare (number v a s) (number v a t) ≡ compare s t) → m.lawful v
  -- a base relation holds where its comparisons are seen, and the relation that is told is seen
  pub seen : (u v : V) → m.lawful u → m.lawful v → (c : ℕ) → m.holds c u v → (c < l.codes) × Seen l number u v c
  pub holds : (u v : V) → m.lawful u → m.lawful v → (c : ℕ) → c < l.codes → Seen l number u v c → m.holds c u v
  pub told : (u v : V) → m.lawful u → m.lawful v → (m.relation u v < l.codes) × Seen l number u v (m.relation u v)
  pub items : T (item_test l)
  pub selves : T (self_test l)
  pub converses : T (converse_test l m.converse)
  pub differ : T (apart_test l)
  pub some : 1 ≤ l.codes
  pub few : l.codes ≤ 64

module _ {V : Type 0} (m : Meaning V) (l : Layout) (f : Frame m l) where
  -- two codes with the same sides are the same
  only_code : (c d : ℕ) → c < l.codes → d < l.codes → Sides l (λ a s t. l.side a c s t ≡ l.side a d s t) → c ≡ d
  only_code c d hc hd alike =
      let p : ℕ → ℕ → ℕ → ℕ → ℕ → Bool = λ c d a s t. same (l.side a c s t) (l.side a d s t) in
      eqb→eq c d
      (implied (sides l (p c d)) (eqb c d)
      (upto_at l.codes (λ d. implies (sides l (p c d)) (eqb c d)) (upto_at l.codes (λ c. upto l.codes (λ d. implies (sides l (p c d)) (eqb c d))) f.differ c hc) d hd)
      (sides_from l (p c d) (λ a s t ha hs ht.
      subst (λ (o : Ordering). T (same (l.side a c s t) o)) (alike a s t ha hs ht) (same_self (l.side a c s t)))))
    where
      same_self : (o : Ordering) → T (same o o)
      same_self Prim.Native.Nat.Ordering.lt = tt
      same_self Prim.Native.Nat.Ordering.eq = tt
      same_self Prim.Native.Nat.Ordering.gt = tt

  -- and so are two that are seen of the same values
  only_one : (u v : V) (c d : ℕ) → c < l.codes → d < l.codes → Seen l f.number u v c → Seen l f.number u v d → c ≡ d
  only_one u v c d hc hd sc sd = only_code c d hc hd (λ a s t ha hs ht. sym (sc a s t ha hs ht) ∙ sd a s t ha hs ht)

  one : (u v : V) → m.lawful u → m.lawful v → ExactlyOne m u v
  one u v hu hv =
      let t = f.told u v hu hv in
      record {
        below = subst (λ (b : ℕ). m.relation u v < b) (sym f.same_codes) t.0;
        that = f.holds u v hu hv (m.relation u v) t.0 t.1;
        only = λ c h. let s = f.seen u v hu hv c h in only_one u v c (m.relation u v) s.0 t.0 s.1 t.1;
      }

  -- under code 0 marks stand as those of one item do
  own_side : (a s t : ℕ) → a < l.axes → s < l.marks → t < l.marks → compare s t ≡ l.side a 0 s t
  own_side a s t ha hs ht = same_eq (compare s t) (l.side a 0 s t) (sides_at l (λ a s t. same (compare s t) (l.side a 0 s t)) f.selves a s t ha hs ht)

  self : (u : V) → m.lawful u → m.holds 0 u u
  self u hu = f.holds u u hu hu 0 f.some (λ a s t ha hs ht. f.ascends u hu a s t ha hs ht ∙ own_side a s t ha hs ht)

  -- values with the same marks are the same
  abbrev pub Determined : Type 0
  Determined = (u v : V) → ((a s : ℕ) → a < l.axes → s < l.marks → f.number u a s ≡ f.number v a s) → u ≡ v

  -- where code 0 holds each mark is level with its like
  only_self : Determined → (u v : V) → m.lawful u → m.lawful v → m.holds 0 u v → u ≡ v
  only_self determined u v hu hv h =
      let k = f.seen u v hu hv 0 h in
      determined u v (λ a s ha hs. says Prim.Native.Nat.Ordering.eq (f.number u a s) (f.number v a s) (k.1 a s s ha hs hs ∙ sym (own_side a s s ha hs hs) ∙ compare_self s))

  -- the converse of a code is a code, with the sides turned round
  turned_code : (c : ℕ) → c < l.codes → (m.converse c < l.codes) × Sides l (λ a s t. turned_round (l.side a c t s) ≡ l.side a (m.converse c) s t)
  turned_code c hc =
      let p : ℕ → ℕ → ℕ → Bool = λ a s t. same (turned_round (l.side a c t s)) (l.side a (m.converse c) s t) in
      let here : T (ltb (m.converse c) l.codes && sides l p) =
      upto_at l.codes (λ c. ltb (m.converse c) l.codes && sides l (λ a s t. same (turned_round (l.side a c t s)) (l.side a (m.converse c) s t))) f.converses c hc in (
        ltb-true (m.converse c) l.codes (true_from (ltb (m.converse c) l.codes) (both_left (ltb (m.converse c) l.codes) (sides l p) here)),
        λ a s t ha hs ht. same_eq (turned_round (l.side a c t s)) (l.side a (m.converse c) s t) (sides_at l p (both_right (ltb (m.converse c) l.codes) (sides l p) here) a s t ha hs ht),
      )

  turned : (u v : V) → m.lawful u → m.lawful v → (c : ℕ) → m.holds c u v → m.holds (m.converse c) v u
  turned u v hu hv c h =
      let s = f.seen u v hu hv c h in
      let turn = turned_code c s.0 in
      f.holds v u hv hu (m.converse c) turn.0
      (λ a x y ha hx hy. compare_converse (f.number u a y) (f.number v a x) ∙ ap turned_round (s.1 a y x ha hy hx) ∙ turn.1 a x y ha hx hy)

  inside : (c : ℕ) → c < m.codes → c < l.codes
  inside c h = subst (λ (b : ℕ). c < b) f.same_codes h

  pub involutive : Involutive m
  involutive =
      record {
        code = λ c h. subst (λ (b : ℕ). m.converse c < b) (sym f.same_codes) (turned_code c (inside c h)).0;
        back = λ c h.
            let once = turned_code c (inside c h) in
            let twice = turned_code (m.converse c) once.0 in
            only_code (m.converse (m.converse c)) c twice.0 (inside c h) (λ a s t ha hs ht.
            sym (twice.1 a s t ha hs ht) ∙ ap turned_round (sym (once.1 a t s ha ht hs)) ∙ sym (converse_converse (l.side a c s t)));
      }

  -- the test of three codes whose marks fit
  fit_codes : (c d e : ℕ) → c < l.codes → d < l.codes → e < l.codes → T (marks_fit l c d e) → T (fit l c d e)
  fit_codes c d e hc hd he inner =
      both_from (ltb c l.codes) (ltb d l.codes && (ltb e l.codes && marks_fit l c d e)) (holds_from (ltb c l.codes) (lt-ltb c l.codes hc))
      (both_from (ltb d l.codes) (ltb e l.codes && marks_fit l c d e) (holds_from (ltb d l.codes) (lt-ltb d l.codes hd))
      (both_from (ltb e l.codes) (marks_fit l c d e) (holds_from (ltb e l.codes) (lt-ltb e l.codes he)) inner))

  pub fit_from : (c d e : ℕ) → Fits m c d e → T (fit l c d e)
  fit_from c d e h =
      let p = f.seen h.u h.v h.u_lawful h.v_lawful c h.first in
      let q = f.seen h.v h.w h.v_lawful h.w_lawful d h.second in
      let o = f.seen h.u h.w h.u_lawful h.w_lawful e h.across in
      fit_codes c d e p.0 q.0 o.0
      (sides_from l (λ a s t. upto l.marks (λ r. compose (l.side a c s t) (l.side a d t r) (l.side a e s r))) (λ a s t ha hs ht.
      upto_from l.marks (λ r. compose (l.side a c s t) (l.side a d t r) (l.side a e s r)) (λ r hr.
      let x : ℕ = f.number h.u a s in let y : ℕ = f.number h.v a t in let z : ℕ = f.number h.w a r in
      subst (λ (w : Ordering). T (compose w (l.side a d t r) (l.side a e s r))) (p.1 a s t ha hs ht)
      (subst (λ (w : Ordering). T (compose (compare x y) w (l.side a e s r))) (q.1 a t r ha ht hr)
      (subst (λ (w : Ordering). T (compose (compare x y) (compare y z) w)) (o.1 a s r ha hs hr) (compose_compare x y z))))))

  -- what a test that passes tells
  record Fit (c d e : ℕ) : Type 0 where
    c_code : c < l.codes
    d_code : d < l.codes
    e_code : e < l.codes
    marks : (a s t r : ℕ) → a < l.axes → s < l.marks → t < l.marks → r < l.marks → T (compose (l.side a c s t) (l.side a d t r) (l.side a e s r))

  fit_tells : (c d e : ℕ) → T (fit l c d e) → Fit c d e
  fit_tells c d e h =
      let a : T (ltb d l.codes && (ltb e l.codes && marks_fit l c d e)) = both_right (ltb c l.codes) (ltb d l.codes && (ltb e l.codes && marks_fit l c d e)) h in
      let b : T (ltb e l.codes && marks_fit l c d e) = both_right (ltb d l.codes) (ltb e l.codes && marks_fit l c d e) a in
      record {
        c_code = ltb-true c l.codes (true_from (ltb c l.codes) (both_left (ltb c l.codes) (ltb d l.codes && (ltb e l.codes && marks_fit l c d e)) h));
        d_code = ltb-true d l.codes (true_from (ltb d l.codes) (both_left (ltb d l.codes) (ltb e l.codes && marks_fit l c d e) a));
        e_code = ltb-true e l.codes (true_from (ltb e l.codes) (both_left (ltb e l.codes) (marks_fit l c d e) b));
        marks = λ x s t r hx hs ht hr.
            upto_at l.marks (λ r. compose (l.side x c s t) (l.side x d t r) (l.side x e s r))
            (sides_at l (λ a s t. upto l.marks (λ r. compose (l.side a c s t) (l.side a d t r) (l.side a e s r))) (both_right (ltb e l.codes) (marks_fit l c d e) b) x s t hx hs ht) r hr;
      }

  -- two marks of one item and one of another fit under a code
  item_fits : (c : ℕ) → c < l.codes → (a s t r : ℕ) → a < l.axes → s < l.marks → t < l.marks → r < l.marks →
      T (compose (compare s t) (l.side a c t r) (l.side a c s r) && compose (l.side a c s t) (compare t r) (l.side a c s r))
  item_fits c hc a s t r ha hs ht hr =
      upto_at l.marks (λ r. compose (compare s t) (l.side a c t r) (l.side a c s r) && compose (l.side a c s t) (compare t r) (l.side a c s r))
      (sides_at l (λ a s t. upto l.marks (λ r. compose (compare s t) (l.side a c t r) (l.side a c s r) && compose (l.side a c s t) (compare t r) (l.side a c s r)))
      (upto_at l.codes (λ c. sides l (λ a s t. upto l.marks (λ r.
      compose (compare s t) (l.side a c t r) (l.side a c s r) && compose (l.side a c s t) (compare t r) (l.side a c s r)))) f.items c hc) a s t ha hs ht) r hr

  -- the value of an item: its marks counted on each axis
  abbrev pub counted : ℕ → List ℕ → ℕ → V
  counted n scenario i = f.make (λ a s. rank_on l n scenario i a s)

  -- a scenario of n items whose entries are codes and whose triples all pass
  module _ (n : ℕ) (scenario : List ℕ)
      (codes : (i j : ℕ) → i < j → j < n → entry scenario i j < l.codes)
      (pass : (i j k : ℕ) → i < j → j < k → k < n → T (fit l (entry scenario i j) (entry scenario j k) (entry scenario i k))) where
    fitting_marks : (a : ℕ) → a < l.axes → FittingMarks (in_scenario (l.side a) scenario) l.marks n
    fitting_marks a ha = record {
      left = λ i j p q s t r hs ht hr.
          both_left (compose (compare s t) (l.side a (entry scenario i j) t r) (l.side a (entry scenario i j) s r)) (compose (l.side a (entry scenario i j) s t) (compare t r) (l.side a (entry scenario i j) s r))
          (item_fits (entry scenario i j) (codes i j p q) a s t r ha hs ht hr);
      right = λ i j p q s t r hs ht hr.
          both_right (compose (compare s t) (l.side a (entry scenario i j) t r) (l.side a (entry scenario i j) s r)) (compose (l.side a (entry scenario i j) s t) (compare t r) (l.side a (entry scenario i j) s r))
          (item_fits (entry scenario i j) (codes i j p q) a s t r ha hs ht hr);
      triple = λ i j k p q h s t r hs ht hr. (fit_tells (entry scenario i j) (entry scenario j k) (entry scenario i k) (pass i j k p q h)).marks a s t r ha hs ht hr;
    }

    marked : (i a s : ℕ) → a < l.axes → s < l.marks → f.number (counted n scenario i) a s ≡ rank_on l n scenario i a s
    marked i a s ha hs = f.made (λ a s. rank_on l n scenario i a s) a s ha hs

    counted_lawful : (i : ℕ) → i < n → m.lawful (counted n scenario i)
    counted_lawful i h = f.lawful (counted n scenario i) (λ a s t ha hs ht.
        ap₂ compare (marked i a s ha hs) (marked i a t ha ht)
        ∙ ranks_own (in_scenario (l.side a) scenario) l.marks n (fitting_marks a ha) i s t h hs ht)

    pub counted_realises : Realises m n scenario (counted n scenario)
    counted_realises = record {
      lawful = counted_lawful;
      related = λ i j p q. f.holds (counted n scenario i) (counted n scenario j) (counted_lawful i (omega arith)) (counted_lawful j q) (entry scenario i j) (codes i j p q) (λ a s t ha hs ht.
          ap₂ compare (marked i a s ha hs) (marked j a t ha ht)
          ∙ ranks_pair (in_scenario (l.side a) scenario) l.marks n (fitting_marks a ha) i j s t p q hs ht);
    }

  -- every scenario whose triples all fit is had by the counted values, for any number of items
  pub realises : (n : ℕ) (scenario : List ℕ) → Fitting m n scenario → Realises m n scenario (counted n scenario)
  realises n scenario h =
      counted_realises n scenario (λ i j p q. subst (λ (b : ℕ). entry scenario i j < b) f.same_codes (h.codes i j p q))
      (λ i j k p q r. fit_from (entry scenario i j) (entry scenario j k) (entry scenario i k) (h.triples i j k p q r))

  -- the scenario of three items
  trio : ℕ → ℕ → ℕ → List ℕ
  trio c d e = c ∷ e ∷ d ∷ []

  pub fit_gives : (c d e : ℕ) → T (fit l c d e) → Fits m c d e
  unfolding trio
  fit_gives c d e h =
      let t : Fit c d e = fit_tells c d e h in
      let r : Realises m 3 (trio c d e) (counted 3 (trio c d e)) = counted_realises 3 (trio c d e) (codes t) pass in
      record {
        u = counted 3 (trio c d e) 0;
        v = counted 3 (trio c d e) 1;
        w = counted 3 (trio c d e) 2;
        u_lawful = r.lawful 0 (omega arith);
        v_lawful = r.lawful 1 (omega arith);
        w_lawful = r.lawful 2 (omega arith);
        first = r.related 0 1 (omega arith) (omega arith);
        second = r.related 1 2 (omega arith) (omega arith);
        across = r.related 0 2 (omega arith) (omega arith);
      }
    where
      two : (P : ℕ → ℕ → Type 0) → P 0 1 → P 0 2 → P 1 2 → (i j : ℕ) → i < j → j < 3 → P i j
      two P x y z zero zero p q = absurd (none p)
        where
          none : zero < zero → ⊥
          none o = omega arith
      two P x y z zero (suc zero) p q = x
      two P x y z zero (suc (suc zero)) p q = y
      two P x y z zero (suc (suc (suc j))) p q = absurd (none q)
        where
          none : suc (suc (suc j)) < 3 → ⊥
          none o = omega arith
      two P x y z (suc zero) zero p q = absurd (none p)
        where
          none : 1 < zero → ⊥
          none o = omega arith
      two P x y z (suc zero) (suc zero) p q = absurd (none p)
        where
          none : 1 < 1 → ⊥
          none o = omega arith
      two P x y z (suc zero) (suc (suc zero)) p q = z
      two P x y z (suc zero) (suc (suc (suc j))) p q = absurd (none q)
        where
          none : suc (suc (suc j)) < 3 → ⊥
          none o = omega arith
      two P x y z (suc (suc i)) j p q = absurd (none p q)
        where
          none : suc (suc i) < j → j < 3 → ⊥
          none o w = omega arith

      codes : Fit c d e → (i j : ℕ) → i < j → j < 3 → entry (trio c d e) i j < l.codes
      codes t = two (λ i j. entry (trio c d e) i j < l.codes) t.c_code t.e_code t.d_code

      pass : (i j k : ℕ) → i < j → j < k → k < 3 → T (fit l (entry (trio c d e) i j) (entry (trio c d e) j k) (entry (trio c d e) i k))
      pass i j k p q r =
          let ei : 0 ≡ i = omega arith in
          let ej : 1 ≡ j = omega arith in
          let ek : 2 ≡ k = omega arith in
          subst (λ (k : ℕ). T (fit l (entry (trio c d e) i j) (entry (trio c d e) j k) (entry (trio c d e) i k))) ek
          (subst (λ (j : ℕ). T (fit l (entry (trio c d e) i j) (entry (trio c d e) j 2) (entry (trio c d e) i 2))) ej
          (subst (λ (i : ℕ). T (fit l (entry (trio c d e) i 1) (entry (trio c d e) 1 2) (entry (trio c d e) i 2))) ei h))

  pub composes : (c d e : ℕ) → Decides (fit l c d e) (Fits m c d e)
  composes c d e = (λ h. fit_gives c d e (holds_from (fit l c d e) h), λ h. true_from (fit l c d e) (fit_from c d e h))

  -- each code fits with code 0 and itself
  fits_self : (c : ℕ) → c < l.codes → T (fit l c 0 c)
  fits_self c hc =
      fit_codes c 0 c hc f.some hc
      (sides_from l (λ a s t. upto l.marks (λ r. compose (l.side a c s t) (l.side a 0 t r) (l.side a c s r))) (λ a s t ha hs ht.
      upto_from l.marks (λ r. compose (l.side a c s t) (l.side a 0 t r) (l.side a c s r)) (λ r hr.
      subst (λ (o : Ordering). T (compose (l.side a c s t) o (l.side a c s r))) (own_side a t r ha ht hr)
      (both_right (compose (compare s t) (l.side a c t r) (l.side a c s r)) (compose (l.side a c s t) (compare t r) (l.side a c s r))
      (item_fits c hc a s t r ha hs ht hr)))))

  -- so it holds of some values, those that are counted
  occurs : (c : ℕ) → c < m.codes → (u : V) × (v : V) × m.lawful u × m.lawful v × m.holds c u v
  occurs c h =
      let found : Fits m c 0 c = fit_gives c 0 c (fits_self c (inside c h)) in
      (found.u, found.v, found.u_lawful, found.v_lawful, found.first)

  pub laws : Laws m
  laws = record {
    some_codes = subst (λ (b : ℕ). 1 ≤ b) (sym f.same_codes) f.some;
    few_codes = subst (λ (b : ℕ). b ≤ 64) (sym f.same_codes) f.few;
    one = one;
    self = self;
    turned = turned;
  }

  pub partition : Determined → Partition m
  partition determined = record { occurs = occurs; only_self = only_self determined }

-- three numbers that are codes
abbrev Codes : Layout → ℕ → ℕ → ℕ → Type 0
Codes l c d e = (c < l.codes) × (d < l.codes) × (e < l.codes)

-- an answer that is the test of a triple decides whether it fits
pub decides_as : {P : Type 0} (a b : Bool) → a ≡ b → Decides b P → Decides a P
decides_as {P} a b e d = subst (λ (t : Bool). Decides t P) (sym e) d

-- a number that is no code fits in no triple
no_code : (l : Layout) (c d e : ℕ) → (Codes l c d e → ⊥) → fit l c d e ≡ false
no_code l c d e never = false_from (fit l c d e) (λ t.
    let a = both_right (ltb c l.codes) (ltb d l.codes && (ltb e l.codes && marks_fit l c d e)) t in
    let b = both_right (ltb d l.codes) (ltb e l.codes && marks_fit l c d e) a in
    never (
      ltb-true c l.codes (true_from (ltb c l.codes) (both_left (ltb c l.codes) (ltb d l.codes && (ltb e l.codes && marks_fit l c d e)) t)),
      ltb-true d l.codes (true_from (ltb d l.codes) (both_left (ltb d l.codes) (ltb e l.codes && marks_fit l c d e) a)),
      ltb-true e l.codes (true_from (ltb e l.codes) (both_left (ltb e l.codes) (marks_fit l c d e) b)),
    ))
  where
    false_from : (a : Bool) → (T a → ⊥) → a ≡ false
    false_from true h = absurd (h tt)
    false_from false h = refl

pub fit_beyond : (l : Layout) (c d e : ℕ) → l.codes ≤ e → fit l c d e ≡ false
fit_beyond l c d e h = no_code l c d e (λ k. let e_code = k.2 in omega arith)

-- the empty set is the composition where one of the two is no code
pub none_fit : (l : Layout) (c d : ℕ) → (l.codes ≤ c) ⊎ (l.codes ≤ d) → (e : ℕ) → has 0 e ≡ fit l c d e
none_fit l c d h e = has_beyond 0 0 e (omega arith) (omega arith) ∙ sym (no_code l c d e (λ k. elim h [ inl p ↦ below k.0 p | inr q ↦ below k.1 q ]))
  where
    below : {a b : ℕ} → a < b → b ≤ a → ⊥
    below p q = omega arith
