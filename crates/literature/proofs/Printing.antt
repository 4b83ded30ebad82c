-- Texts that are written one after another.
use Rattle.std.proofs.Common.{◌≡◌, ℕ, zero, suc, ◌+◌, ◌<◌, List, [], ◌++◌, Option, None, Some, Result, Ok, Err, IfOk, sym, refl, ap, subst, ◌∙◌, append_assoc, append-nil, arith}
use Rattle.std.specs.Io.KnownBytes.{Appends}
use Rattle.literature.specs.Printed.{below}

-- nothing was written
pub appends_none : (a : Option (List ℕ)) → Appends a a []
appends_none None = tt
appends_none (Some xs) = sym (append-nil xs)

-- a text and then another
pub appends_more : (a b c : Option (List ℕ)) (x y : List ℕ) → Appends a b x → Appends b c y → Appends a c (x ++ y)
appends_more None b c x y p q = tt
appends_more (Some xs) None c x y p q = absurd p
appends_more (Some xs) (Some ys) None x y p q = absurd q
appends_more (Some xs) (Some ys) (Some zs) x y p q = q ∙ ap (λ t. t ++ y) p ∙ append_assoc xs x y

-- the same text, said otherwise
pub appends_as : (a b : Option (List ℕ)) {x y : List ℕ} → x ≡ y → Appends a b x → Appends a b y
appends_as a b same p = subst (Appends a b) same p

-- lists with the same items
pub below_same : {A : Type 0} (f g : ℕ → List A) (n : ℕ) → ((c : ℕ) → c < n → f c ≡ g c) → below f n ≡ below g n
below_same f g zero same = refl
below_same f g (suc n) same =
    ap (λ t. t ++ f n) (below_same f g n (λ c l. same c (omega (arith, l)))) ∙ ap (λ t. below g n ++ t) (same n (omega arith))

-- one more list
pub below_next : {A : Type 0} (f : ℕ → List A) (n : ℕ) → below f (n + 1) ≡ below f n ++ f n
below_next f n = let same : n + 1 ≡ suc n = omega arith in ap (below f) same

-- the text of one more number
pub appends_next : (f : ℕ → List ℕ) (a b c : Option (List ℕ)) (n : ℕ) (x : List ℕ) → Appends a b (below f n) → Appends b c x → x ≡ f n → Appends a c (below f (n + 1))
appends_next f a b c n x p q same =
    appends_as a c (ap (λ t. below f n ++ t) same ∙ sym (below_next f n)) (appends_more a b c (below f n) x p q)

-- Parts put together from the right are those put together from the left.
pub two_parts : (a t b u : List ℕ) → a ++ (t ++ (b ++ u)) ≡ a ++ t ++ b ++ u
two_parts a t b u = simp append_assoc refl

pub four_parts : (a p s o t e : List ℕ) → a ++ (p ++ (s ++ (o ++ (t ++ e)))) ≡ a ++ p ++ (s ++ o ++ t) ++ e
four_parts a p s o t e = simp append_assoc refl

pub three_parts : (a p b s c t d e : List ℕ) → a ++ (p ++ (b ++ (s ++ (c ++ (t ++ (d ++ e)))))) ≡ a ++ p ++ b ++ s ++ c ++ t ++ d ++ e
three_parts a p b s c t d e = simp append_assoc refl

-- what follows of two facts on what a call answers
pub if_ok_both : {X E : Type 0} (r : Result X E) (P Q R : X → Type 0) → ((x : X) → P x → Q x → R x) → IfOk r P → IfOk r Q → IfOk r R
if_ok_both (Ok x) P Q R f p q = f x p q
if_ok_both (Err e) P Q R f p q = tt
