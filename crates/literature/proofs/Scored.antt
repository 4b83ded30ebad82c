-- The score of tests that are counted in one by one.
use Rattle.std.proofs.Common.{◌≡◌, ◌↔◌, ℕ, ◌+◌, ◌-◌, ◌^◌, min, Bool, true, false, List, [], ◌∷◌, ◌++◌, length, refl, ap, sym, ◌∙◌, append_assoc, codes, arith}
use Rattle.literature.specs.Scores.{capped, failed, passed, score_after, score_of}
use Rattle.std.specs.Fmt.{decimal}
use Rattle.literature.specs.Printed.{below, score_text}
use Rattle.literature.specs.declared.score.Score.{Score}
use Rattle.literature.proofs.Printing.{below_next}

-- tests of two lists
pub passed_more : (xs ys : List Bool) → passed (xs ++ ys) ≡ passed xs + passed ys
passed_more [] ys = omega arith
passed_more (true ∷ xs) ys = omega (arith, passed_more xs ys)
passed_more (false ∷ xs) ys = omega (arith, passed_more xs ys)

pub failed_more : (xs ys : List Bool) → failed (xs ++ ys) ≡ failed xs + failed ys
failed_more [] ys = omega arith
failed_more (true ∷ xs) ys = omega (arith, failed_more xs ys)
failed_more (false ∷ xs) ys = omega (arith, failed_more xs ys)

-- each test is passed or not
pub all_tests : (xs : List Bool) → passed xs + failed xs ≡ length xs
all_tests [] = refl
all_tests (true ∷ xs) = omega (arith, all_tests xs)
all_tests (false ∷ xs) = omega (arith, all_tests xs)

capped_next : (n : ℕ) → min (capped n + 1) (2 ^ 32 - 1) ≡ capped (n + 1)
capped_next n = omega arith

-- one more test
pub score_next : (xs : List Bool) (b : Bool) → score_after (score_of xs) b ≡ score_of (xs ++ (b ∷ []))
score_next xs true =
    let stand : min (capped (passed xs) + 1) (2 ^ 32 - 1) ≡ capped (passed (xs ++ (true ∷ []))) = omega (arith, passed_more xs (true ∷ [])) in
    let lacking : capped (failed xs) ≡ capped (failed (xs ++ (true ∷ []))) = omega (arith, failed_more xs (true ∷ [])) in
    λ i. record { stand = stand i; lacking = lacking i }
score_next xs false =
    let stand : capped (passed xs) ≡ capped (passed (xs ++ (false ∷ []))) = omega (arith, passed_more xs (false ∷ [])) in
    let lacking : min (capped (failed xs) + 1) (2 ^ 32 - 1) ≡ capped (failed (xs ++ (false ∷ []))) = omega (arith, failed_more xs (false ∷ [])) in
    λ i. record { stand = stand i; lacking = lacking i }

-- how many were tried
pub tried_all : (xs : List Bool) → min (capped (passed xs) + capped (failed xs)) (2 ^ 32 - 1) ≡ capped (length xs)
tried_all xs = omega (arith, all_tests xs)

-- the tests of one more number, after others
pub score_below : (xs : List Bool) (f : ℕ → List Bool) (n : ℕ) (ys : List Bool) (s : Score) → s ≡ score_of ((xs ++ below f n) ++ ys) → ys ≡ f n → s ≡ score_of (xs ++ below f (n + 1))
score_below xs f n ys s is same =
    is ∙ ap score_of (append_assoc xs (below f n) ys ∙ ap (λ t. xs ++ t) (ap (λ t. below f n ++ t) same ∙ sym (below_next f n)))

-- one test more
pub score_more : (xs : List Bool) (b : Bool) (old new : Score) → old ≡ score_of xs → new ≡ score_after old b → new ≡ score_of (xs ++ (b ∷ []))
score_more xs b old new was is = is ∙ ap (λ s. score_after s b) was ∙ score_next xs b

-- the two numbers of a score, printed
pub score_shown : (s : Score) (tests : List Bool) (tried : ℕ) → s ≡ score_of tests → tried ≡ min (s.stand + s.lacking) (2 ^ 32 - 1) → decimal s.stand ++ codes " of " ++ decimal tried ≡ score_text tests
score_shown s tests tried is all =
    let stand = ap (λ (s : Score). s.stand) is in
    let number = all ∙ ap (λ (s : Score). min (s.stand + s.lacking) (2 ^ 32 - 1)) is ∙ tried_all tests in
    λ i. decimal (stand i) ++ codes " of " ++ decimal (number i)

-- None is lacking in all exactly if none is in each.
pub none_of_four : (A B C D : Type 0) (w x y z a b c d : ℕ) → w ≡ a → x ≡ b → y ≡ c → z ≡ d → ((w ≡ 0) ↔ A) → ((x ≡ 0) ↔ B) → ((y ≡ 0) ↔ C) → ((z ≡ 0) ↔ D)
    → (capped (a + (b + (c + d))) ≡ 0) ↔ (A × B × C × D)
none_of_four A B C D w x y z a b c d e f g h p q r s = (
  λ n. (p.0 (omega (arith, n, e)), q.0 (omega (arith, n, f)), r.0 (omega (arith, n, g)), s.0 (omega (arith, n, h))),
  λ all. let i = p.1 all.0 in let j = q.1 all.1 in let k = r.1 all.2 in let l = s.1 all.3 in omega (arith, e, f, g, h, i, j, k, l),
)
