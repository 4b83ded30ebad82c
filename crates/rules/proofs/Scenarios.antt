-- The scenario of given codes: its length, its entries, and that these determine it.
use Rattle.std.proofs.Common.{◌≡◌, ℕ, zero, suc, ◌+◌, ◌<◌, List, [], ◌∷◌, ◌++◌, length, get_or, sym, refl, ap, ◌∙◌, inl, inr, arith, length-append}
use Rattle.rules.proofs.Elements.{All-append, All-push}
use Rattle.std.proofs.lemmas.List.{get_or_append_left, get_or-append-add, get_or_push, ext_get_or}
use Rattle.std.proofs.lemmas.Bool.{cases_lt}
use Rattle.points.specs.Scenarios.{pairs, place, entry}
use Rattle.points.proofs.Placed.{place_within, Pair, pair_at}
use Rattle.rules.specs.Orders.{column, scenario_of, Below}

length_column : (f : ℕ → ℕ → ℕ) (j i : ℕ) → length (column f j i) ≡ i
length_column f j zero = refl
length_column f j (suc i) = let h = length_column f j i in simp length-append (omega arith)

-- The scenario of n items has as many codes as these have pairs.
pub length_scenario_of : (f : ℕ → ℕ → ℕ) (n : ℕ) → length (scenario_of f n) ≡ pairs n
length_scenario_of f zero = refl
length_scenario_of f (suc n) = let h = length_scenario_of f n in let l = length_column f n n in simp length-append (omega arith)

entry_column : (f : ℕ → ℕ → ℕ) (j i h : ℕ) → h < i → get_or (column f j i) h 0 ≡ f h j
entry_column f j zero h l = absurd (omega arith)
entry_column f j (suc i) h l = elim (cases_lt h i) [
  | inl lt ↦ (let in' : h < length (column f j i) = omega (arith, length_column f j i) in
      get_or_append_left (column f j i) (f i j ∷ []) 0 h in' ∙ entry_column f j i h lt)
  | inr ge ↦ (let e : i ≡ h = omega arith in
      get_or_push (column f j i) (f i j) 0 h (length_column f j i ∙ e) ∙ ap (λ (z : ℕ). f z j) e)
]

-- Its entry for the pair of i and j is the code of that pair.
pub entry_scenario_of : (f : ℕ → ℕ → ℕ) (n i j : ℕ) → i < j → j < n → entry (scenario_of f n) i j ≡ f i j
entry_scenario_of f zero i j ij jn = absurd (omega arith)
entry_scenario_of f (suc n) i j ij jn = elim (cases_lt j n) [
  | inl lt ↦ (let in' : place i j < length (scenario_of f n) = omega (arith, place_within i j n ij lt, length_scenario_of f n) in
      get_or_append_left (scenario_of f n) (column f n n) 0 (place i j) in' ∙ entry_scenario_of f n i j ij lt)
  | inr ge ↦ (let e : j ≡ n = omega arith in
      ap (λ (z : ℕ). get_or (scenario_of f n ++ column f n n) (z + i) 0) (ap pairs e ∙ sym (length_scenario_of f n))
      ∙ get_or-append-add (scenario_of f n) (column f n n) i 0
      ∙ entry_column f n n i (omega arith)
      ∙ ap (f i) (sym e))
]

below_column : (b : ℕ) (f : ℕ → ℕ → ℕ) (j i : ℕ) → ((h : ℕ) → h < i → f h j < b) → Below b (column f j i)
below_column b f j zero h = tt
below_column b f j (suc i) h = All-push (λ c. c < b) (column f j i) (f i j) (below_column b f j i (λ z l. h z (omega arith))) (h i (omega arith))

-- Where the codes of all pairs are below b, so are those of the scenario.
pub below_scenario_of : (b : ℕ) (f : ℕ → ℕ → ℕ) (n : ℕ) → ((i j : ℕ) → i < j → j < n → f i j < b) → Below b (scenario_of f n)
below_scenario_of b f zero h = tt
below_scenario_of b f (suc n) h =
    All-append (λ c. c < b) (scenario_of f n) (column f n n)
    (below_scenario_of b f n (λ i j ij jn. h i j ij (omega arith))) (below_column b f n n (λ z l. h z n l (omega arith)))

-- A list with a code for each pair is the scenario of its entries.
pub scenario_of_entries : (f : ℕ → ℕ → ℕ) (n : ℕ) (a : List ℕ) → length a ≡ pairs n → ((i j : ℕ) → i < j → j < n → f i j ≡ entry a i j)
    → scenario_of f n ≡ a
scenario_of_entries f n a long same =
    let l = length_scenario_of f n in
    ext_get_or 0 (scenario_of f n) a (l ∙ sym long)
    (λ k h.
    let p : Pair n k = pair_at n k (omega arith) in
    ap (λ (z : ℕ). get_or (scenario_of f n) z 0) (sym p.here)
    ∙ entry_scenario_of f n p.i p.j p.apart p.within
    ∙ same p.i p.j p.apart p.within
    ∙ ap (λ (z : ℕ). get_or a z 0) p.here)
