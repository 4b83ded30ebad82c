-- A reader that is moved on stands where its place says.
use Rattle.std.proofs.Common.{◌≡◌, ℕ, suc, ◌+◌, ◌<◌, ◌≤◌, Bool, true, false, cond, leb, List, [], ◌∷◌, length, take, drop, Some, None, Ok, Err, Option, Result, sym, refl, ap, ◌∙◌, subst, ⊎_elim, add-zero, arith, take-add}
use Rattle.std.proofs.lemmas.List.{drop-drop, drop_all, take_all}
use Rattle.std.proofs.lemmas.Bool.{cases_Bool, leb-true, leb-false}
use Rattle.std.proofs.lemmas.List.Sums.{sum_by-cons, sum_by-append}
use Rattle.files.specs.declared.fault.LineFault.{LineFault}
use Rattle.files.specs.declared.fault.Place.{Place}
use Rattle.files.specs.declared.head.Head.{Head}
use Rattle.files.specs.Faults.{SheetFault}
use Rattle.files.specs.Heads.{is_head}
use Rattle.files.specs.Sheets.{before, located}
use Rattle.files.specs.Words.{Spelling}
use Rattle.files.specs.Views.{View, lines_of, head_answer, head_move, head_after, load_fault, load_move, load_after}
use Rattle.files.specs.Standing.{heads, Stands}
use Rattle.files.proofs.Seeking.{before_head, before_line}

-- by whether a line is a head
heads_yes : (l : List ℕ) (ls : List (List ℕ)) → is_head l ≡ true → heads (l ∷ ls) ≡ suc (heads ls)
heads_yes l ls h = omega (arith, sum_by-cons (λ x. cond (is_head x) 1 0) l ls, ap {B = ℕ} (λ t. cond t 1 0) h)

heads_no : (l : List ℕ) (ls : List (List ℕ)) → is_head l ≡ false → heads (l ∷ ls) ≡ heads ls
heads_no l ls h = omega (arith, sum_by-cons (λ x. cond (is_head x) 1 0) l ls, ap {B = ℕ} (λ t. cond t 1 0) h)

-- n lines, and k after them
heads_more : (n k : ℕ) (ls : List (List ℕ)) → heads (take n ls) + heads (take k (drop n ls)) ≡ heads (take (n + k) ls)
heads_more n k ls = sym (ap heads (take-add n k ls) ∙ sum_by-append (λ l. cond (is_head l) 1 0) (take n ls) (take k (drop n ls)))

-- no head stands before the next
pub heads_before : (ls : List (List ℕ)) → heads (take (before ls) ls) ≡ 0
heads_before [] = refl
heads_before (l ∷ ls) =
    ⊎_elim
    (λ h. ap (λ k. heads (take k (l ∷ ls))) (before_head l ls h))
    (λ h. ap (λ k. heads (take k (l ∷ ls))) (before_line l ls h) ∙ heads_no l (take (before ls) ls) h ∙ heads_before ls)
    (cases_Bool (is_head l))

-- and it is one
heads_through : (ls : List (List ℕ)) → before ls < length ls → heads (take (suc (before ls)) ls) ≡ 1
heads_through [] b = absurd (omega arith)
heads_through (l ∷ ls) b =
    ⊎_elim
    (λ h. ap (λ k. heads (take (suc k) (l ∷ ls))) (before_head l ls h) ∙ heads_yes l [] h)
    (λ h. ap (λ k. heads (take (suc k) (l ∷ ls))) (before_line l ls h) ∙ heads_no l (take (suc (before ls)) ls) h ∙ heads_through ls (omega (arith, before_line l ls h)))
    (cases_Bool (is_head l))

-- k lines on
moved_on : (file : List ℕ) (v : View) (k : ℕ) → Stands file v → (drop k v.ahead ≡ drop (v.place.line + k) (lines_of file)) × (v.place.sheet + heads (take k v.ahead) ≡ heads (take (v.place.line + k) (lines_of file)))
moved_on file v k s = (
  ap (drop k) s.0 ∙ drop-drop k v.place.line (lines_of file),
  ap (λ ls. v.place.sheet + heads (take k ls)) s.0 ∙ ap (λ n. n + heads (take k (drop v.place.line (lines_of file)))) s.1 ∙ heads_more v.place.line k (lines_of file),
)

-- which answer was given says whether a head is ahead
some_by : (a b c : Bool) (e f : SheetFault) (p : Place) (r : Result Head LineFault) (h : Head) → Ok (Some h) ≡ cond a (Err e) (cond b (Err f) (cond c (Ok None) (located p r))) → c ≡ false
some_by true b c e f p r h q = cc
some_by false true c e f p r h q = cc
some_by false false true e f p r h q = cc
some_by false false false e f p r h q = refl

none_by : (a b c : Bool) (e f : SheetFault) (p : Place) (r : Result Head LineFault) → Ok None ≡ cond a (Err e) (cond b (Err f) (cond c (Ok None) (located p r))) → c ≡ true
none_by true b c e f p r q = cc
none_by false true c e f p r q = cc
none_by false false true e f p r q = refl
none_by false false false e f p (Ok h) q = cc
none_by false false false e f p (Err g) q = cc

pub some_ahead : (v : View) (h : Head) → Ok (Some h) ≡ head_answer v → before v.ahead < length v.ahead
some_ahead v h e = leb-false _ _ (some_by v.too_long _ (leb (length v.ahead) (before v.ahead)) _ _ _ _ h e)

none_ahead : (v : View) → Ok None ≡ head_answer v → length v.ahead ≤ before v.ahead
none_ahead v e = leb-true _ _ (none_by v.too_long _ (leb (length v.ahead) (before v.ahead)) _ _ _ _ e)

-- after a call for a head
by_answer : (file : List ℕ) (v : View) (r : Result (Option Head) SheetFault) → r ≡ head_answer v → Stands file v → Stands file (head_move v r)
by_answer file v (Ok (Some h)) e s =
    let m = moved_on file v (before v.ahead + 1) s in
    let n : v.place.line + (before v.ahead + 1) ≡ v.place.line + before v.ahead + 1 = omega arith in
    let o : before v.ahead + 1 ≡ suc (before v.ahead) = omega arith in (
      m.0 ∙ ap (λ k. drop k (lines_of file)) n,
      ap (λ k. v.place.sheet + k) (sym (heads_through v.ahead (some_ahead v h e)) ∙ ap (λ k. heads (take k v.ahead)) (sym o)) ∙ m.1 ∙ ap (λ k. heads (take k (lines_of file))) n,
    )
by_answer file v (Ok None) e s =
    let m = moved_on file v (length v.ahead) s in
    let all = take_all (before v.ahead) v.ahead (none_ahead v e) in
    let zero_heads : heads (take (length v.ahead) v.ahead) ≡ 0 = ap heads (take_all (length v.ahead) v.ahead (omega arith) ∙ sym all) ∙ heads_before v.ahead in (
      sym (drop_all (length v.ahead) v.ahead (omega arith)) ∙ m.0,
      sym (add-zero v.place.sheet) ∙ ap (λ k. v.place.sheet + k) (sym zero_heads) ∙ m.1,
    )
by_answer file v (Err f) e s = s

pub head_stands : (file : List ℕ) (v u : View) → u ≡ head_after v → Stands file v → Stands file u
head_stands file v u e s = subst (Stands file) (sym e) (by_answer file v (head_answer v) refl s)

-- after a load
by_fault : (file : List ℕ) (v : View) (o : Option SheetFault) → Stands file v → Stands file (load_move v o)
by_fault file v (Some f) s = s
by_fault file v None s =
    let m = moved_on file v (before v.ahead) s in
    (m.0, sym (add-zero v.place.sheet) ∙ ap (λ k. v.place.sheet + k) (sym (heads_before v.ahead)) ∙ m.1)

pub load_stands : (file : List ℕ) (s : Spelling) (v u : View) → u ≡ load_after s v → Stands file v → Stands file u
load_stands file s v u e h = subst (Stands file) (sym e) (by_fault file v (load_fault s v) h)
