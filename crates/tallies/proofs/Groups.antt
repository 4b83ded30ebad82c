-- Joins regrouped by a key.
use Rattle.std.proofs.Common.{◌≡◌, ℕ, zero, suc, ◌+◌, ◌<◌, ◌≤◌, Bool, not, eqb, List, [], ◌∷◌, length, filter, sym, refl, ap, ◌∙◌, inl, inr, eq-or-lt_of_le, arith}
use Rattle.std.proofs.lemmas.List.Filters.{length-filter_both}
use Rattle.std.proofs.lemmas.Bool.{eqb-true, eqb-false, ne_eqb, not-true}
use Rattle.tallies.specs.Joins.{Joining, Monoid, joined}
use Rattle.tallies.specs.Groups.{group, span, Keys, Regroups}
use Rattle.tallies.proofs.Filters.{kept_by_in, all_kept_by_to}
use Rattle.tallies.proofs.Joins.{part}

module _ {P : Type 0} (key : P → ℕ) where
  -- Whether the key is another than k.
  abbrev pub other : ℕ → P → Bool
  other k x = not (eqb (key x) k)

  -- Without the group of the first key, the keys are the others.
  pub keys_other : (k n : ℕ) (xs : List P) → Keys key k (suc n) xs → Keys key (suc k) n (filter (other k) xs)
  keys_other k n xs ks =
      all_kept_by_to (other k) (λ x. (k ≤ key x) × (key x < k + suc n)) (λ x. (suc k ≤ key x) × (key x < suc k + n))
      (λ x e b.
      let ne = eqb-false (key x) k (not-true (eqb (key x) k) e) in
      let lo = b.0 in
      let hi = b.1 in
      let l : k < key x = elim (eq-or-lt_of_le lo) [ inl d ↦ absurd (ne (sym d)) | inr l ↦ l ] in
      (omega arith, omega arith))
      xs ks

  -- Without the group of one key, the groups of the others stay.
  pub group_other : (k i : ℕ) (xs : List P) → k < i → group key i (filter (other k) xs) ≡ group key i xs
  group_other k i xs l =
      kept_by_in (λ x. eqb (key x) i) (other k) xs
      (λ x e. let at : key x ≡ i = eqb-true (key x) i e in ap not (ne_eqb (key x) k (λ z. omega arith)))

-- Equal costs at each key of the range have equal joins.
pub span_same : {P C : Type 0} (j : Joining P C) (g h : ℕ → C) (k n : ℕ) → ((i : ℕ) → k ≤ i → i < k + n → g i ≡ h i) → span j g k n ≡ span j h k n
span_same j g h k zero same = refl
span_same {C = C} j g h k (suc n) same =
    ap (λ (z : C). j.join z (span j g (suc k) n)) (same k (omega arith) (omega arith))
    ∙ ap (j.join (h k)) (span_same j g h (suc k) n (λ i lo hi. same i (omega arith) (omega arith)))

module _ {P C : Type 0} (j : Joining P C) (m : Monoid j) where
  -- The joins of the groups of all keys join to the whole.
  pub regroup : Regroups j
  regroup key k zero [] h ks = refl
  regroup key k zero (x ∷ xs) h ks = let lo = ks.0.0 in let hi = ks.0.1 in absurd (omega arith)
  regroup key k (suc n) xs h ks =
      let ys : List P = filter (other key k) xs in
      let both : length (filter (λ x. eqb (key x) k) xs) + length ys ≡ length xs = length-filter_both (λ x. eqb (key x) k) (other key k) (λ x. refl) xs in
      let rest : span j (λ i. joined j (group key i ys)) (suc k) n ≡ joined j ys = regroup key (suc k) n ys (omega arith) (keys_other key k n xs ks) in
      let same : span j (λ i. joined j (group key i xs)) (suc k) n ≡ span j (λ i. joined j (group key i ys)) (suc k) n =
      span_same j (λ i. joined j (group key i xs)) (λ i. joined j (group key i ys)) (suc k) n (λ i lo hi. ap (joined j) (sym (group_other key k i xs lo))) in
      ap (j.join (joined j (group key k xs))) (same ∙ rest) ∙ sym (part j m (λ x. eqb (key x) k) xs h)
