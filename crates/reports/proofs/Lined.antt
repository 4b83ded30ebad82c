-- Lines of the members of a list, one more at the end.
use Rattle.std.proofs.Common.{◌≡◌, ℕ, suc, ◌+◌, List, [], ◌∷◌, ◌++◌, length, map, Bor, ap, sym, ◌∙◌, append_assoc, append-nil, length-append, arith}
use Rattle.std.proofs.lemmas.List.{map-append, length-map, nil_from_length}
use Rattle.reports.specs.Lines.{lines_from}

pub lines_push : {X : Type 0} (line : ℕ → X → List ℕ) (k : ℕ) (xs : List X) (x : X) → lines_from line k (xs ++ (x ∷ [])) ≡ lines_from line k xs ++ line (k + length xs) x
lines_push line k [] x = append-nil (line k x) ∙ ap (λ (n : ℕ). line n x) (omega arith)
lines_push line k (y ∷ ys) x =
    let count : k + 1 + length ys ≡ k + suc (length ys) = omega arith in
    ap (λ (t : List ℕ). line k y ++ t) (lines_push line (k + 1) ys x)
    ∙ sym (append_assoc (line k y) (lines_from line (k + 1) ys) (line (k + 1 + length ys) x))
    ∙ ap (λ (n : ℕ). line k y ++ lines_from line (k + 1) ys ++ line n x) count

-- The members of a loop's turns so far, each with its place.
abbrev pub seen : {X : Type 0} → List (ℕ × Bor X) → List X
seen ys = map (λ y. y.1.now) ys

seen_push : {X : Type 0} (ys : List (ℕ × Bor X)) (y : ℕ × Bor X) → seen (ys ++ (y ∷ [])) ≡ seen ys ++ (y.1.now ∷ [])
seen_push ys y = map-append (λ y. y.1.now) ys (y ∷ [])

-- The text so far, one line longer.
pub text_more : {X : Type 0} (line : ℕ → X → List ℕ) (ys : List (ℕ × Bor X)) (y : ℕ × Bor X) (start text text' more : List ℕ)
    → y.0 ≡ length ys → text ≡ start ++ lines_from line 1 (seen ys) → more ≡ line (y.0 + 1) y.1.now → text' ≡ text ++ more
    → text' ≡ start ++ lines_from line 1 (seen (ys ++ (y ∷ [])))
text_more line ys y start text text' more n h m e =
    let numbered : y.0 + 1 ≡ 1 + length (seen ys) = omega (arith, n, length-map ys (λ (y : ℕ × Bor _). y.1.now)) in
    e
    ∙ ap (λ (t : List ℕ). t ++ more) h
    ∙ append_assoc start (lines_from line 1 (seen ys)) more
    ∙ ap (λ (t : List ℕ). start ++ t)
    (ap (λ (t : List ℕ). lines_from line 1 (seen ys) ++ t) (m ∙ ap (λ (n : ℕ). line n y.1.now) numbered)
    ∙ sym (lines_push line 1 (seen ys) y.1.now)
    ∙ ap (lines_from line 1) (sym (seen_push ys y)))

-- The members that are left, one fewer.
pub left_less : {X : Type 0} (all rest rest' : List X) (ys : List (ℕ × Bor X)) (y : ℕ × Bor X)
    → all ≡ seen ys ++ rest → rest ≡ y.1.now ∷ rest' → all ≡ seen (ys ++ (y ∷ [])) ++ rest'
left_less all rest rest' ys y h e =
    h
    ∙ ap (λ t. seen ys ++ t) e
    ∙ sym (append_assoc (seen ys) (y.1.now ∷ []) rest')
    ∙ ap (λ t. t ++ rest') (sym (seen_push ys y))

-- All members, where none is left.
pub none_left : {X : Type 0} (all rest : List X) (ys : List (ℕ × Bor X)) → all ≡ seen ys ++ rest → length rest ≡ 0 → seen ys ≡ all
none_left all rest ys h n = sym (h ∙ ap (λ t. seen ys ++ t) (nil_from_length rest n) ∙ append-nil (seen ys))

-- As many members as have been seen and are left.
pub count_left : {X : Type 0} (all rest : List X) (ys : List (ℕ × Bor X)) → all ≡ seen ys ++ rest → length all ≡ length ys + length rest
count_left all rest ys h = omega (arith, ap length h, length-append (seen ys) rest, length-map ys (λ (y : ℕ × Bor _). y.1.now))
