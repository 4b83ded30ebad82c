-- A text that is cut at the first place of a byte.
use Rattle.std.proofs.Common.{◌≡◌, ◌≢◌, ℕ, suc, ◌+◌, ◌-◌, ◌<◌, ◌≤◌, false, eqb, List, [], ◌∷◌, ◌++◌, length, get_or, take, drop, Some, None, Option, sym, refl, ap, ◌∙◌, subst, arith, take-append-drop, Bor, All, count_by, false-eqb}
use Rattle.std.specs.Option.{unwrap_or}
use Rattle.std.specs.List.{onto_first, join_with_byte, AllByRecursion}
use Rattle.std.proofs.lemmas.List.{drop_more, get_or-take, length-take-le, take_rest}
use Rattle.std.proofs.lemmas.List.Elements.{All-from_get_or, All-get_or, All-from_recursion, recursion_from_All, All-weaker}
use Rattle.std.proofs.lemmas.List.Splits.{join_with_byte-slice_split, length-slice_split, slice_split_at, slice_split_none}
use Rattle.std.proofs.lemmas.Bool.{eq-eqb, ne_eqb, cond-false, cond_both}
use Rattle.files.specs.Parts.{parted, lines, Lacks, Split, left}

abbrev pub Cut : ℕ → List ℕ → List ℕ → List ℕ → Type 0
Cut c text front rest = Lacks c front × (text ≡ front ++ (c ∷ rest))

abbrev pub Whole : ℕ → List ℕ → List ℕ → Type 0
Whole c text front = Lacks c text × (text ≡ front)

pub lacks_all : (c : ℕ) (bs : List ℕ) → ((k : ℕ) → k < length bs → get_or bs k 0 ≢ c) → Lacks c bs
lacks_all c bs h = recursion_from_All (λ b. b ≢ c) bs (All-from_get_or (λ b. b ≢ c) bs 0 h)

-- a text at the place n of its first c, as `&text[..n]` and `&text[n + 1..]` are read
pub cut_at : (c : ℕ) (bs : List ℕ) (n : ℕ) → n < length bs → ((k : ℕ) → k < n → get_or bs k 0 ≢ c) → get_or bs n 0 ≡ c
    → Cut c bs (take n bs) (take (length bs - (n + 1)) (drop (n + 1) bs))
cut_at c bs n h l e = rw (take_rest bs (n + 1)) (
  lacks_all c (take n bs) (λ k m. let within : k < n = omega (arith, m, length-take-le n bs (omega arith)) in subst (λ b. b ≢ c) (sym (get_or-take n bs k 0 within)) (l k within)),
  sym (take-append-drop n bs) ∙ ap (λ r. take n bs ++ r) (drop_more bs n 0 h ∙ ap (λ b. b ∷ drop (n + 1) bs) e),
)

-- no byte of the text is c
none_is : (c : ℕ) (bs : List ℕ) → Lacks c bs → All (λ b. eqb b c ≡ false) bs
none_is c bs l = All-weaker (λ b. b ≡ c → ⊥) (λ b. eqb b c ≡ false) (λ b. ne_eqb b c) bs (All-from_recursion (λ b. b ≡ c → ⊥) bs l)

pub parted_cut : (c : ℕ) (text p rest : List ℕ) → Cut c text p rest → parted c text ≡ p ∷ parted c rest
parted_cut c text p rest h = ap (parted c) h.1 ∙ slice_split_at (λ b. eqb b c) p c rest (none_is c p h.0) (eq-eqb c c refl)

pub parted_whole : (c : ℕ) (text p : List ℕ) → Whole c text p → parted c text ≡ p ∷ []
parted_whole c text p h = slice_split_none (λ b. eqb b c) text (none_is c text h.0) ∙ ap (λ q. q ∷ []) h.1

lines_first : (p rest : List ℕ) → Lacks 10 p → lines (p ++ (10 ∷ rest)) ≡ p ∷ lines rest
lines_first [] rest l = refl
lines_first (b ∷ bs) rest l = cond-false _ _ _ (ne_eqb b 10 l.0) ∙ ap (onto_first b) (lines_first bs rest l.1)

pub lines_cut : (text p rest : List ℕ) → Cut 10 text p rest → lines text ≡ p ∷ lines rest
lines_cut text p rest h = ap lines h.1 ∙ lines_first p rest h.0

lines_lacks : (b : ℕ) (bs : List ℕ) → Lacks 10 (b ∷ bs) → lines (b ∷ bs) ≡ (b ∷ bs) ∷ []
lines_lacks b [] l = cond-false _ _ _ (ne_eqb b 10 l.0)
lines_lacks b (b' ∷ bs) l = cond-false _ _ _ (ne_eqb b 10 l.0) ∙ ap (onto_first b) (lines_lacks b' bs l.1)

pub lines_whole : (text p : List ℕ) → 0 < length text → Whole 10 text p → lines text ≡ p ∷ []
lines_whole [] p h w = absurd (omega arith)
lines_whole (b ∷ bs) p h w = lines_lacks b bs w.0 ∙ ap (λ q. q ∷ []) w.1

-- a cursor that gives its next part
pub part_given : (c : ℕ) (text p : List ℕ) (rest : Option (Bor (List ℕ))) → Split c text p rest → parted c text ≡ p ∷ left (record { by = c; rest = rest })
part_given c text p (Some r) h = parted_cut c text p r.now h
part_given c text p None h = parted_whole c text p h

-- a cursor that gives its next line: after the last, nothing is left
pub line_given : (text p : List ℕ) (rest : Option (Bor (List ℕ))) (none : Bor (List ℕ)) → (length text ≡ 0 → ⊥) → Split 10 text p rest → none.now ≡ []
    → lines text ≡ p ∷ lines (unwrap_or rest none).now
line_given text p (Some r) none some h e = lines_cut text p r.now h
line_given text p None none some h e = lines_whole text p (omega arith) h ∙ ap (λ ls. p ∷ lines ls) (sym e)

length-onto_first : (b : ℕ) (ls : List (List ℕ)) → length (onto_first b ls) ≤ suc (length ls)
length-onto_first b [] = omega arith
length-onto_first b (l ∷ ls) = omega arith

-- a line has a byte, its line feed or another
pub lines_le : (bs : List ℕ) → length (lines bs) ≤ length bs
lines_le [] = omega arith
lines_le (b ∷ bs) =
    cond_both (eqb b 10) ([] ∷ lines bs) (onto_first b (lines bs)) (λ ls. length ls ≤ suc (length bs))
    (λ e. omega (arith, lines_le bs)) (λ e. omega (arith, lines_le bs, length-onto_first b (lines bs)))

-- no part has the byte that parts them
onto_first_lacks : (c b : ℕ) (ps : List (List ℕ)) → (b ≡ c → ⊥) → AllByRecursion (Lacks c) ps → AllByRecursion (Lacks c) (onto_first b ps)
onto_first_lacks c b [] n h = ((n, tt), tt)
onto_first_lacks c b (p ∷ ps) n h = ((n, h.0), h.1)

parts_lack : (c : ℕ) (bs : List ℕ) → AllByRecursion (Lacks c) (parted c bs)
parts_lack c [] = (tt, tt)
parts_lack c (b ∷ bs) =
    cond_both (eqb b c) ([] ∷ parted c bs) (onto_first b (parted c bs)) (AllByRecursion (Lacks c))
    (λ e. (tt, parts_lack c bs)) (λ e. onto_first_lacks c b (parted c bs) (false-eqb b c (sym e)) (parts_lack c bs))

pub parts_apart : (c : ℕ) (bs : List ℕ) → All (Lacks c) (parted c bs)
parts_apart c bs = All-from_recursion (Lacks c) (parted c bs) (parts_lack c bs)

pub part_lacks : (c : ℕ) (bs : List ℕ) (k : ℕ) → k < length (parted c bs) → Lacks c (get_or (parted c bs) k [])
part_lacks c bs k l = All-get_or (Lacks c) (parted c bs) k [] l (parts_apart c bs)

pub parts_joined : (c : ℕ) (bs : List ℕ) → join_with_byte c (parted c bs) ≡ bs
parts_joined c bs = join_with_byte-slice_split c bs

pub parts_counted : (c : ℕ) (bs : List ℕ) → length (parted c bs) ≡ count_by (λ b. eqb b c) bs + 1
parts_counted c bs = length-slice_split (λ b. eqb b c) bs
