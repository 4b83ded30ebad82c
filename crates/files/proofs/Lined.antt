-- The lines of a text are its parts between the line feeds, but for an empty last one.
use Rattle.std.proofs.Common.{◌≡◌, ℕ, ◌≤◌, Bool, true, false, cond, List, [], ◌∷◌, ◌++◌, length, ◌==◌, refl, ap, ◌∙◌, arith}
use Rattle.std.specs.List.{onto_first}
use Rattle.files.specs.Parts.{parted, lines, is_ended, Lined}

onto_some : (b : ℕ) (xs ys : List (List ℕ)) → 1 ≤ length xs → onto_first b (xs ++ ys) ≡ onto_first b xs ++ ys
onto_some b [] ys h = absurd (omega (arith, h))
onto_some b (x ∷ xs) ys h = refl

onto_long : (b : ℕ) (xs : List (List ℕ)) → 1 ≤ length (onto_first b xs)
onto_long b [] = omega arith
onto_long b (x ∷ xs) = omega arith

-- a text that has a byte has a line
some_line : (b : ℕ) (bs : List ℕ) → 1 ≤ length (lines (b ∷ bs))
some_line b bs = elim (b == 10) as (λ (v : Bool). 1 ≤ length (cond v ([] ∷ lines bs) (onto_first b (lines bs)))) [
  | true ↦ omega arith
  | false ↦ onto_long b (lines bs)
]

pub lined : (text : List ℕ) → Lined text
lined [] = refl
lined (b ∷ []) = elim (b == 10) as (λ (v : Bool). cond v ([] ∷ parted 10 []) (onto_first b (parted 10 [])) ≡ cond v ([] ∷ lines []) (onto_first b (lines [])) ++ cond v ([] ∷ []) []) [
  | true ↦ refl
  | false ↦ refl
]
lined (b ∷ (c ∷ bs)) =
    let end : List (List ℕ) = cond (is_ended (c ∷ bs)) ([] ∷ []) [] in
    elim (b == 10) as (λ (v : Bool). cond v ([] ∷ parted 10 (c ∷ bs)) (onto_first b (parted 10 (c ∷ bs))) ≡ cond v ([] ∷ lines (c ∷ bs)) (onto_first b (lines (c ∷ bs))) ++ end) [
      | true ↦ ap (λ (ps : List (List ℕ)). [] ∷ ps) (lined (c ∷ bs))
      | false ↦ ap (onto_first b) (lined (c ∷ bs)) ∙ onto_some b (lines (c ∷ bs)) end (some_line c bs)
    ]
