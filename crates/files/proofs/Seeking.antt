-- One line on in the search for a head.
use Rattle.std.proofs.Common.{◌≡◌, ℕ, suc, ◌+◌, ◌-◌, ◌≤◌, true, false, not, cond, ◌&&◌, eqb, leb, List, [], ◌∷◌, length, get_or, drop, None, Ok, Err, Option, Result, sym, refl, ap, ◌∙◌, subst, arith}
use Rattle.std.proofs.lemmas.Bool.Decides.{nat_tests}
use Rattle.std.proofs.lemmas.List.{drop-drop}
use Rattle.files.specs.declared.fault.Place.{Place}
use Rattle.files.specs.declared.head.Head.{Head}
use Rattle.files.specs.Faults.{SheetFault}
use Rattle.files.specs.Heads.{is_head, head_in}
use Rattle.files.specs.Sheets.{before, onward, head_place, located, stray_fault, next_head, class_of, state_of}
use Rattle.files.specs.declared.class.Class.TheVariants.{HeadLine, StatementLine}
use Rattle.files.specs.declared.class.State.TheVariants.{NoSheet, InSheet}
use Rattle.std.proofs.lemmas.Bool.{cond-false, and_left, ne_eqb}

-- from q, with ms still to come, the answer is that from p, with ls to come
pub record Same (p : Place) (ls : List (List ℕ)) (q : Place) (ms : List (List ℕ)) : Type 0 where
  pub answer : next_head q ms ≡ next_head p ls
  pub rest : drop (before ms + 1) ms ≡ drop (before ls + 1) ls
  pub head : q.line + before ms ≡ p.line + before ls
  pub end : q.line + length ms ≡ p.line + length ls
  pub sheet : q.sheet ≡ p.sheet
  pub from : p.line ≤ q.line
  pub read : ms ≡ drop (q.line - p.line) ls

-- by whether the next line is a head
pub before_head : (l : List ℕ) (ls : List (List ℕ)) → is_head l ≡ true → before (l ∷ ls) ≡ 0
before_head l ls y = ap (λ t. cond (not t) (1 + before ls) 0) y

pub before_line : (l : List ℕ) (ls : List (List ℕ)) → is_head l ≡ false → before (l ∷ ls) ≡ suc (before ls)
before_line l ls n = ap (λ t. cond (not t) (1 + before ls) 0) n ∙ omega arith

pub at_end : (p : Place) → next_head p [] ≡ Ok None
at_end p = grind (arith, nat_tests)

pub at_head : (p : Place) (l : List ℕ) (ls : List (List ℕ)) → is_head l ≡ true → next_head p (l ∷ ls) ≡ located (head_place p 0) (head_in l)
at_head p l ls h = grind (arith, nat_tests)

pub at_stray : (p : Place) (l : List ℕ) (ls : List (List ℕ)) → is_head l ≡ false → p.sheet ≡ 0 → next_head p (l ∷ ls) ≡ Err (record { place = record { sheet = 0; line = p.line + 1 }; fault = stray_fault l })
at_stray p l ls h z = grind (arith, nat_tests)

-- the answer where the head is known to stand k lines on
abbrev at : Place → List (List ℕ) → ℕ → Result (Option Head) SheetFault
at p ls k =
    cond (eqb p.sheet 0 && leb 1 k) (Err (record { place = record { sheet = 0; line = p.line + 1 }; fault = stray_fault (get_or ls 0 []) }))
    (cond (leb (length ls) k) (Ok None) (located (head_place p k) (head_in (get_or ls k []))))

at_next : (p : Place) (l : List ℕ) (ls : List (List ℕ)) (k : ℕ) → (p.sheet ≡ 0 → ⊥) → at (onward p) ls k ≡ at p (l ∷ ls) (suc k)
at_next p l ls k z =
    let t : leb (length ls) k ≡ leb (suc (length ls)) (suc k) = grind (arith, nat_tests) in
    let e : p.line + 1 + k + 1 ≡ p.line + suc k + 1 = omega arith in
    cond-false _ _ _ (and_left (eqb p.sheet 0) (leb 1 k) (ne_eqb _ _ z))
    ∙ ap (λ b. cond b (Ok None) (located (head_place (onward p) k) (head_in (get_or ls k [])))) t
    ∙ ap (λ n. cond (leb (suc (length ls)) (suc k)) (Ok None) (located (record { sheet = p.sheet + 1; line = n }) (head_in (get_or ls k [])))) e
    ∙ sym (cond-false _ _ _ (and_left (eqb p.sheet 0) (leb 1 (suc k)) (ne_eqb _ _ z)))

pub onward_same : (p : Place) (l : List ℕ) (ls : List (List ℕ)) → is_head l ≡ false → (p.sheet ≡ 0 → ⊥) → Same p (l ∷ ls) (onward p) ls
onward_same p l ls h z =
    let b = before_line l ls h in
    let d : before (l ∷ ls) + 1 ≡ suc (before ls + 1) = omega (arith, b) in
    let o : 1 ≡ p.line + 1 - p.line = omega arith in
    record {
      answer = at_next p l ls (before ls) z ∙ ap (at p (l ∷ ls)) (sym b);
      rest = sym (ap (λ k. drop k (l ∷ ls)) d);
      head = omega (arith, b);
      end = omega arith;
      sheet = refl;
      from = omega arith;
      read = ap (λ k. drop k (l ∷ ls)) o;
    }

-- one line is read
pub one_read : (p q : Place) (ls ms ns : List (List ℕ)) (l : List ℕ) → p.line ≤ q.line → ms ≡ drop (q.line - p.line) ls → ms ≡ l ∷ ns → ns ≡ drop (q.line + 1 - p.line) ls
one_read p q ls ms ns l f r e =
    let k : q.line - p.line + 1 ≡ q.line + 1 - p.line = omega (arith, f) in
    ap (drop 1) (sym e) ∙ ap (drop 1) r ∙ drop-drop 1 (q.line - p.line) ls ∙ ap (λ n. drop n ls) k

-- and it is passed
pub passed : (p q : Place) (ls ms ns : List (List ℕ)) (l : List ℕ) → Same p ls q ms → ms ≡ l ∷ ns → is_head l ≡ false → (q.sheet ≡ 0 → ⊥) → Same p ls (onward q) ns
passed p q ls ms ns l s e h z =
    let o = subst (λ xs. Same q xs (onward q) ns) (sym e) (onward_same q l ns h z) in
    record {
      answer = o.answer ∙ s.answer;
      rest = o.rest ∙ s.rest;
      head = o.head ∙ s.head;
      end = o.end ∙ s.end;
      sheet = o.sheet ∙ s.sheet;
      from = omega (arith, s.from);
      read = one_read p q ls ms ns l s.from s.read e;
    }

-- where a head is come to, its place is that of the head that is looked for
pub place_of_head : (p q : Place) (ls ms ns : List (List ℕ)) (l : List ℕ) → Same p ls q ms → ms ≡ l ∷ ns → is_head l ≡ true → record { sheet = q.sheet + 1; line = q.line + 1 } ≡ head_place p (before ls)
place_of_head p q ls ms ns l s e h =
    let none : before ms ≡ 0 = ap before e ∙ before_head l ns h in
    let n : q.line + 1 ≡ p.line + before ls + 1 = omega (arith, none, s.head) in
    ap (λ x. record { sheet = x + 1; line = q.line + 1 }) s.sheet ∙ ap (λ x. record { sheet = p.sheet + 1; line = x }) n

-- the class of a line tells whether it is a head
pub head_known : (l : List ℕ) → class_of l ≡ HeadLine → is_head l ≡ true
head_known l e = grind (arith, nat_tests)

pub no_head : (l : List ℕ) → class_of l ≡ StatementLine → is_head l ≡ false
no_head l e = grind (arith, nat_tests)

-- a sheet has begun
pub some_sheet : (p : Place) → state_of p ≡ InSheet → p.sheet ≡ 0 → ⊥
some_sheet p e z = grind (arith, nat_tests)

-- no sheet has begun
pub no_sheet : (p : Place) → state_of p ≡ NoSheet → p.sheet ≡ 0
no_sheet p e = grind (arith, nat_tests)

-- and then a statement's line is the fault
pub strayed : (p q : Place) (ls ms ns : List (List ℕ)) (l : List ℕ) → Same p ls q ms → ms ≡ l ∷ ns → is_head l ≡ false → q.sheet ≡ 0 → Err (record { place = onward q; fault = stray_fault l }) ≡ next_head p ls
strayed p q ls ms ns l s e h z =
    ap (λ n. Err (record { place = record { sheet = n; line = q.line + 1 }; fault = stray_fault l })) z ∙ sym (at_stray q l ns h z) ∙ ap (next_head q) (sym e) ∙ s.answer
