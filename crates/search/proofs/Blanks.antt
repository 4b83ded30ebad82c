-- Scenarios whose codes are 0 from a place on.
use Rattle.std.proofs.Common.{◌≡◌, ℕ, zero, suc, ◌-◌, ◌<◌, ◌≢◌, List, [], ◌∷◌, ◌++◌, length, get_or, take, set, sym, refl, ap, ◌∙◌, inl, inr, arith}
use Rattle.std.proofs.lemmas.Bool.{cases_lt}
use Rattle.std.proofs.lemmas.List.{length-replicate, get_or-replicate, get_or_past, get_or-set_other}
use Rattle.rules.proofs.Cursors.{zeros}
use Rattle.search.specs.Sheets.{Blank}

zeros_read : (r k : ℕ) → get_or (zeros r) k 0 ≡ 0
zeros_read r k = elim (cases_lt k r) [
  | inl lt ↦ get_or-replicate r k 0 0 lt
  | inr ge ↦ (let long : length (zeros r) ≡ r = length-replicate r 0 in get_or_past (zeros r) k 0 (omega (arith, long, ge)))
]

-- Zeros are 0 from each place on.
pub blank_zeros : (m r : ℕ) → Blank m (zeros r)
blank_zeros m r k l = zeros_read r k

pub blank_set : (i v : ℕ) (a : List ℕ) → 0 < i → Blank i a → Blank i (set a (i - 1) v)
blank_set i v a pos blank k l = let ne : k ≢ i - 1 = omega (arith, pos, l) in get_or-set_other a (i - 1) k v 0 ne ∙ blank k l

-- Such a scenario is a prefix and zeros.
pub blank_front : (m : ℕ) (a : List ℕ) → Blank m a → a ≡ take m a ++ zeros (length a - m)
blank_front zero [] blank = refl
blank_front (suc m) [] blank = let none : 0 - suc m ≡ 0 = omega arith in ap zeros (sym none)
blank_front zero (c ∷ a) blank =
    let more : suc (length a - 0) ≡ suc (length a) - 0 = omega arith in
    ap (λ (x : ℕ). x ∷ a) (blank 0 (omega arith))
    ∙ ap (λ (z : List ℕ). 0 ∷ z) (blank_front 0 a (λ k l. blank (suc k) (omega arith))) ∙ ap zeros more
blank_front (suc m) (c ∷ a) blank =
    let less : length a - m ≡ suc (length a) - suc m = omega arith in
    ap (λ (z : List ℕ). c ∷ z) (blank_front m a (λ k l. blank (suc k) (omega (arith, l))) ∙ ap (λ (z : ℕ). take m a ++ zeros z) less)
