-- Prefixes of scenarios: what one more code adds, and what scenarios that share a prefix share.
use Rattle.std.proofs.Common.{◌≡◌, ℕ, zero, suc, ◌+◌, ◌-◌, ◌<◌, ◌≤◌, Bool, true, false, not, ◌&&◌, ◌||◌, ltb, List, [], ◌∷◌, length, get_or, take, drop, sym, refl, ap, ◌∙◌, subst, inl, inr, arith}
use Rattle.std.specs.List.{list_any, zip}
use Rattle.std.proofs.Math.Bool.{or_assoc, or_comm, and-false}
use Rattle.std.proofs.lemmas.List.{length-take-le, length-drop, get_or-take, get_or-drop, take-take}
use Rattle.std.proofs.lemmas.Bool.{cases_Bool, cases_lt, both_ways, and_cases, or_left, or_right, lt-ltb, le-ltb, not-false, not-true}
use Rattle.points.specs.Scenarios.{pairs, place, entry}
use Rattle.points.proofs.Placed.{pairs_up}
use Rattle.tallies.specs.Joins.{Joining}
use Rattle.tallies.specs.declared.claim.Claim.{Claim}
use Rattle.tallies.proofs.Groups.{span_same}
use Rattle.rules.specs.declared.row.Row.{Row}
use Rattle.rules.specs.Costs.{of_rows, pair_cost, prefix_bound, spent_on, owed_from}
use Rattle.rules.specs.Steps.{Rules, some, unfit, refuted}
use Rattle.search.specs.Tables.{Spent, Stands}
use Rattle.rules.proofs.Orders.{shared_code}
use Rattle.rules.proofs.Steps.{some_found, some_none}

-- A place has one pair.
place_same : (i j i' j' : ℕ) → i < j → i' < j' → place i j ≡ place i' j' → (i ≡ i') × (j ≡ j')
place_same i j i' j' h h' e = elim (cases_lt j j') [
  | inl lt ↦ absurd (omega (arith, pairs_up j j' lt))
  | inr ge ↦ elim (cases_lt j' j) [
    | inl lt ↦ absurd (omega (arith, pairs_up j' j lt))
    | inr ge' ↦ (let same : j ≡ j' = omega arith in let t : pairs j ≡ pairs j' = ap pairs same in (omega arith, same))
  ]
]

-- The higher item of one of the pairs of n items is one of them.
pub high_within : (n j l : ℕ) → place j l < pairs n → l < n
high_within n j l h = elim (cases_lt l n) [
  | inl lt ↦ lt
  | inr ge ↦ absurd (elim (cases_lt n l) [
    | inl lt ↦ omega (arith, pairs_up n l lt)
    | inr le ↦ (let same : l ≡ n = omega arith in let t : pairs l ≡ pairs n = ap pairs same in omega arith)
  ])
]

-- One that passes, none that passes, and equal tests.
pub some_hit : (n : ℕ) (f : ℕ → Bool) (i : ℕ) → i < n → f i ≡ true → some n f ≡ true
some_hit zero f i l h = absurd (omega arith)
some_hit (suc n) f i l h = elim (cases_lt i n) [
  | inl lt ↦ or_right (f n) (some n f) (some_hit n f i lt h)
  | inr ge ↦ (let e : i ≡ n = omega arith in or_left (f n) (some n f) (subst (λ (z : ℕ). f z ≡ true) e h))
]

pub some_fails : (n : ℕ) (f : ℕ → Bool) → ((i : ℕ) → i < n → f i ≡ false) → some n f ≡ false
some_fails zero f h = refl
some_fails (suc n) f h = ap (λ (v : Bool). v || some n f) (h n (omega arith)) ∙ some_fails n f (λ i l. h i (omega arith))

pub some_same : (n : ℕ) (f g : ℕ → Bool) → ((i : ℕ) → i < n → f i ≡ g i) → some n f ≡ some n g
some_same zero f g h = refl
some_same (suc n) f g h =
    ap (λ (v : Bool). v || some n f) (h n (omega arith)) ∙ ap (λ (v : Bool). g n || v) (some_same n f g (λ i l. h i (omega arith)))

-- The lowest number is one of them.
some_first : (n : ℕ) (f : ℕ → Bool) → some (suc n) f ≡ (f 0 || some n (λ i. f (suc i)))
some_first zero f = refl
some_first (suc n) f =
    let rest : Bool = some n (λ i. f (suc i)) in
    ap (λ (v : Bool). f (suc n) || v) (some_first n f) ∙ sym (or_assoc (f (suc n)) (f 0) rest)
    ∙ ap (λ (v : Bool). v || rest) (or_comm (f (suc n)) (f 0)) ∙ or_assoc (f 0) (f (suc n)) rest

-- Some pair of two lists passes, by its place.
zip_some : (test : ℕ → ℕ → Bool) (xs ys : List ℕ) (n : ℕ) → length xs ≡ n → length ys ≡ n
    → list_any (λ p. test p.0 p.1) (zip xs ys) ≡ some n (λ i. test (get_or xs i 0) (get_or ys i 0))
zip_some test [] ys zero lx ly = refl
zip_some test [] ys (suc n) lx ly = absurd (omega arith)
zip_some test (x ∷ xs) ys zero lx ly = absurd (omega arith)
zip_some test (x ∷ xs) [] (suc n) lx ly = absurd (omega arith)
zip_some test (x ∷ xs) (y ∷ ys) (suc n) lx ly =
    ap (λ (v : Bool). test x y || v) (zip_some test xs ys n (omega arith) (omega arith))
    ∙ sym (some_first n (λ i. test (get_or (x ∷ xs) i 0) (get_or (y ∷ ys) i 0)))

-- The same of two parts of one list.
pub part_long : {A : Type 0} (a : List A) (m k : ℕ) → m + k ≤ length a → length (take (m + k - m) (drop m a)) ≡ k
part_long a m k h =
    let same : m + k - m ≡ k = omega arith in
    length-take-le (m + k - m) (drop m a) (let l = length-drop m a in omega (arith, l, h)) ∙ same

part_read : (a : List ℕ) (m k i : ℕ) → i < k → get_or (take (m + k - m) (drop m a)) i 0 ≡ get_or a (m + i) 0
part_read a m k i l = get_or-take (m + k - m) (drop m a) i 0 (omega arith) ∙ get_or-drop m a i 0

pub parts_some : (test : ℕ → ℕ → Bool) (a : List ℕ) (m l k : ℕ) → m + k ≤ length a → l + k ≤ length a
    → list_any (λ p. test p.0 p.1) (zip (take (m + k - m) (drop m a)) (take (l + k - l) (drop l a))) ≡ some k (λ i. test (get_or a (m + i) 0) (get_or a (l + i) 0))
parts_some test a m l k hm hl =
    let xs : List ℕ = take (m + k - m) (drop m a) in
    let ys : List ℕ = take (l + k - l) (drop l a) in
    zip_some test xs ys k (part_long a m k hm) (part_long a l k hl)
    ∙ some_same k (λ i. test (get_or xs i 0) (get_or ys i 0)) (λ i. test (get_or a (m + i) 0) (get_or a (l + i) 0))
    (λ i lt. ap (λ (z : ℕ). test z (get_or ys i 0)) (part_read a m k i lt) ∙ ap (test (get_or a (m + i) 0)) (part_read a l k i lt))

-- The triples of a prefix, and whether all fit.
module _ {C : Type 0} (r : Rules C) where
  -- A triple of a prefix of q codes does not fit.
  abbrev misfit : ℕ → List ℕ → ℕ → ℕ → ℕ → Bool
  misfit q a l j i = ltb (place j l) q && not (r.fit (entry a i j) (entry a j l) (entry a i l))

  misfit_out : (q : ℕ) (a : List ℕ) (i j l : ℕ) → q ≤ place j l → misfit q a l j i ≡ false
  misfit_out q a i j l h = ap (λ (v : Bool). v && not (r.fit (entry a i j) (entry a j l) (entry a i l))) (le-ltb (place j l) q h)

  misfit_fits : (q : ℕ) (a : List ℕ) (i j l : ℕ) → r.fit (entry a i j) (entry a j l) (entry a i l) ≡ true → misfit q a l j i ≡ false
  misfit_fits q a i j l h = ap (λ (v : Bool). ltb (place j l) q && not v) h ∙ and-false (ltb (place j l) q)

  -- Where no triple of the prefix is unfit, each fits.
  fits_each : (n q : ℕ) (a : List ℕ) → unfit r n q a ≡ false → (i j l : ℕ) → i < j → j < l → l < n → place j l < q
      → r.fit (entry a i j) (entry a j l) (entry a i l) ≡ true
  fits_each n q a good i j l ij jl ln within =
      let at_l = some_none n (λ l. some l (λ j. some j (misfit q a l j))) good l ln in
      let at_j = some_none l (λ j. some j (misfit q a l j)) at_l j jl in
      let at_i = some_none j (misfit q a l j) at_j i ij in
      elim (and_cases (ltb (place j l) q) (not (r.fit (entry a i j) (entry a j l) (entry a i l))) at_i) [
        | inl out ↦ absurd (both_ways (ltb (place j l) q) out (lt-ltb (place j l) q within))
        | inr fits ↦ not-false (r.fit (entry a i j) (entry a j l) (entry a i l)) fits
      ]

  unfit_none_of : (n q : ℕ) (a : List ℕ) → ((i j l : ℕ) → i < j → j < l → l < n → misfit q a l j i ≡ false) → unfit r n q a ≡ false
  unfit_none_of n q a h =
      some_fails n (λ l. some l (λ j. some j (misfit q a l j)))
      (λ l ln. some_fails l (λ j. some j (misfit q a l j)) (λ j jl. some_fails j (misfit q a l j) (λ i ij. h i j l ij jl ln)))

  -- The empty prefix has no triple.
  pub unfit_zero : (n : ℕ) (a : List ℕ) → unfit r n 0 a ≡ false
  unfit_zero n a = unfit_none_of n 0 a (λ i j l ij jl ln. misfit_out 0 a i j l (omega arith))

  -- With one more code, the triples that its pair closes decide.
  unfit_next : (n p j l : ℕ) (a : List ℕ) → place j l ≡ p → j < l → unfit r n p a ≡ false
      → ((i : ℕ) → i < j → r.fit (entry a i j) (entry a j l) (entry a i l) ≡ true) → unfit r n (p + 1) a ≡ false
  unfit_next n p j l a e jl none good = unfit_none_of n (p + 1) a one
    where
      one : (i j' l' : ℕ) → i < j' → j' < l' → l' < n → misfit (p + 1) a l' j' i ≡ false
      one i j' l' ij jl' ln' = elim (cases_lt (place j' l') p) [
        | inl lt ↦ misfit_fits (p + 1) a i j' l' (fits_each n p a none i j' l' ij jl' ln' lt)
        | inr ge ↦ elim (cases_lt (place j' l') (p + 1)) [
          | inl here ↦ (let same : place j l ≡ place j' l' = omega arith in
              let both = place_same j l j' l' jl jl' same in
              let ej : j ≡ j' = both.0 in
              misfit_fits (p + 1) a i j' l'
              (subst (λ (z : ℕ). r.fit (entry a i z) (entry a z l') (entry a i l') ≡ true) both.0
              (subst (λ (z : ℕ). r.fit (entry a i j) (entry a j z) (entry a i z) ≡ true) both.1 (good i (omega arith)))))
          | inr out ↦ misfit_out (p + 1) a i j' l' out
        ]
      ]

  unfit_hit : (n p j l i : ℕ) (a : List ℕ) → place j l ≡ p → j < l → l < n → i < j
      → r.fit (entry a i j) (entry a j l) (entry a i l) ≡ false → unfit r n (p + 1) a ≡ true
  unfit_hit n p j l i a e jl ln ij bad =
      let inside : ltb (place j l) (p + 1) ≡ true = lt-ltb (place j l) (p + 1) (omega arith) in
      some_hit n (λ l. some l (λ j. some j (misfit (p + 1) a l j))) l ln
      (some_hit l (λ j. some j (misfit (p + 1) a l j)) j jl
      (some_hit j (misfit (p + 1) a l j) i ij
      (ap (λ (v : Bool). v && not (r.fit (entry a i j) (entry a j l) (entry a i l))) inside ∙ ap not bad)))

  pub unfit_closed : (n p j l : ℕ) (a : List ℕ) (v : Bool) → place j l ≡ p → j < l → p < pairs n
      → v ≡ some j (λ i. not (r.fit (get_or a (pairs j + i) 0) (get_or a p 0) (get_or a (pairs l + i) 0)))
      → unfit r n p a ≡ false → unfit r n (p + 1) a ≡ v
  unfit_closed n p j l a v e jl within is none =
      let test : ℕ → Bool = λ i. not (r.fit (entry a i j) (entry a j l) (entry a i l)) in
      let is' : v ≡ some j test = is ∙ ap (λ (z : ℕ). some j (λ i. not (r.fit (get_or a (pairs j + i) 0) (get_or a z 0) (get_or a (pairs l + i) 0)))) (sym e) in
      elim (cases_Bool (some j test)) [
        | inl hit ↦ (let found = some_found j test hit in
            unfit_hit n p j l found.0 a e jl (high_within n j l (omega arith)) found.1
            (not-true (r.fit (entry a found.0 j) (entry a j l) (entry a found.0 l)) found.2) ∙ sym (is' ∙ hit))
        | inr miss ↦ unfit_next n p j l a e jl none
            (λ i ij. not-false (r.fit (entry a i j) (entry a j l) (entry a i l)) (some_none j test miss i ij)) ∙ sym (is' ∙ miss)
      ]

  -- Scenarios that share the first q codes have the same triples there.
  misfit_same : (q : ℕ) (a e : List ℕ) → take q e ≡ take q a → (i j l : ℕ) → i < j → j < l → misfit q e l j i ≡ misfit q a l j i
  misfit_same q a e s i j l ij jl = elim (cases_lt (place j l) q) [
    | inl inside ↦ (let up = pairs_up j l jl in
        let first : entry e i j ≡ entry a i j = shared_code q e a s (place i j) (omega arith) in
        let second : entry e j l ≡ entry a j l = shared_code q e a s (place j l) inside in
        let across : entry e i l ≡ entry a i l = shared_code q e a s (place i l) (omega arith) in
        simp (first, second, across) refl)
    | inr out ↦ misfit_out q e i j l out ∙ sym (misfit_out q a i j l out)
  ]

  unfit_same : (n q : ℕ) (a e : List ℕ) → take q e ≡ take q a → unfit r n q e ≡ unfit r n q a
  unfit_same n q a e s =
      some_same n (λ l. some l (λ j. some j (misfit q e l j))) (λ l. some l (λ j. some j (misfit q a l j)))
      (λ l ln. some_same l (λ j. some j (misfit q e l j)) (λ j. some j (misfit q a l j))
      (λ j jl. some_same j (misfit q e l j) (misfit q a l j) (λ i ij. misfit_same q a e s i j l ij jl)))

-- A shorter prefix is shared too.
take_less : (q m : ℕ) (a e : List ℕ) → q ≤ m → take m e ≡ take m a → take q e ≡ take q a
take_less q m a e h s = sym (take-take q m e h) ∙ ap (take q) s ∙ take-take q m a h

-- Scenarios that share the first q codes have the same cost there.
spent_same : {C : Type 0} (j : Joining Claim C) (rows : List Row) (a e : List ℕ) (q : ℕ) → take q e ≡ take q a → spent_on j rows e q ≡ spent_on j rows a q
spent_same j rows a e q s =
    span_same (of_rows j) (λ s. pair_cost j rows s (get_or e s 0)) (λ s. pair_cost j rows s (get_or a s 0)) 0 q
    (λ i lo hi. ap (pair_cost j rows i) (shared_code q e a s i (omega arith)))

module _ {C : Type 0} (r : Rules C) (n : ℕ) (rows : List Row) where
  refuted_same : (best : C) (a e : List ℕ) (q : ℕ) → take q e ≡ take q a → refuted r n rows best e q ≡ refuted r n rows best a q
  refuted_same best a e q s =
      ap (λ (v : Bool). v || r.at_most best (prefix_bound r.joining r.at_most r.codes (pairs n) rows q e)) (unfit_same r n q a e s)
      ∙ ap (λ (z : C). unfit r n q a || r.at_most best (r.joining.join z (owed_from r.joining r.at_most r.codes rows (pairs n) q))) (spent_same r.joining rows a e q s)

  -- What is known of the prefixes of a shorter than q holds of those of e shorter than m, if e has the first m - 1 codes of a.
  pub stands_kept : (best : C) (a e : List ℕ) (q m : ℕ) → m ≤ q → take (m - 1) e ≡ take (m - 1) a → Stands r n rows best a q → Stands r n rows best e m
  stands_kept best a e q m h s known z lt = refuted_same best a e z (take_less z (m - 1) a e (omega arith) s) ∙ known z (omega arith)

  -- Whether a prefix is refuted, by its triples and by its cost.
  pub refuted_by : (best : C) (a : List ℕ) (q : ℕ) (cost owed bound : C) (u over : Bool)
      → cost ≡ spent_on r.joining rows a q → owed ≡ owed_from r.joining r.at_most r.codes rows (pairs n) q → bound ≡ r.joining.join cost owed
      → unfit r n q a ≡ u → over ≡ r.at_most best bound → refuted r n rows best a q ≡ (u || over)
  refuted_by best a q cost owed bound u over is_cost is_owed is_bound is_unfit is_over =
      let whole : prefix_bound r.joining r.at_most r.codes (pairs n) rows q a ≡ bound =
      ap (λ (z : C). r.joining.join z (owed_from r.joining r.at_most r.codes rows (pairs n) q)) (sym is_cost)
      ∙ ap (r.joining.join cost) (sym is_owed) ∙ sym is_bound in
      ap (λ (v : Bool). v || r.at_most best (prefix_bound r.joining r.at_most r.codes (pairs n) rows q a)) is_unfit
      ∙ ap (λ (z : C). u || r.at_most best z) whole ∙ ap (λ (v : Bool). u || v) (sym is_over)

module _ {C : Type 0} (j : Joining Claim C) (rows : List Row) where
  pub spent_kept : (a e : List ℕ) (spent : List C) (q m : ℕ) → m ≤ q → take (m - 1) e ≡ take (m - 1) a → Spent j rows a q spent → Spent j rows e m spent
  spent_kept a e spent q m h s known z lt = known z (omega arith) ∙ sym (spent_same j rows a e z (take_less z (m - 1) a e (omega arith) s))
