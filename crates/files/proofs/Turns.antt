-- A reader that loads each sheet in turn meets the faults of its file in their order.
use Rattle.std.proofs.Common.{◌≡◌, ℕ, suc, ◌+◌, true, false, ◌||◌, List, [], ◌∷◌, ◌++◌, take, drop, Some, None, Ok, Err, Option, Result, sym, refl, ap, ◌∙◌, subst, ⊎_elim, append_assoc, append-nil, arith, ◌==◌}
use Rattle.std.proofs.lemmas.Bool.{cases_Bool}
use Rattle.std.proofs.lemmas.Bool.Decides.{nat_tests}
use Rattle.std.specs.Option.{option_or}
use Rattle.files.specs.declared.fault.LineFault.{LineFault}
use Rattle.files.specs.declared.fault.Place.{Place}
use Rattle.files.specs.declared.head.Head.{Head}
use Rattle.files.specs.Drafts.{line_fault, row_in}
use Rattle.files.specs.Faults.{SheetFault, answered}
use Rattle.files.specs.Heads.{is_head, head_fault, head_in, head_of}
use Rattle.files.specs.Loads.{body, body_fault, rows_in}
use Rattle.files.specs.Sheets.{before, onward, head_place, located, stray_fault}
use Rattle.files.specs.Views.{View, too_long, start_of, fits_draft, head_answer, head_move, head_after, load_fault, load_move, load_after}
use Rattle.files.specs.Words.{Spelling}
use Rattle.files.specs.Files.{Sheet, begun, extended, lines_fault, sheets_in, Between, rest_fault, rest_sheets, after_load, after_head, Takes, Own}
use Rattle.files.proofs.Fields.{head_said}
use Rattle.files.proofs.Seeking.{before_head, before_line, at_end, at_head, at_stray}

-- a reader between two sheets
abbrev pub between : Place → List (List ℕ) → View
between p ls = record { too_long = false; place = p; ahead = ls; waiting = None }

pub same : (v : View) → Between v → v ≡ between v.place v.ahead
same v b =
    ap (λ x. record { too_long = x; place = v.place; ahead = v.ahead; waiting = v.waiting }) b.fits
    ∙ ap (λ x. record { too_long = false; place = v.place; ahead = v.ahead; waiting = x }) b.idle

before_drop : (ls : List (List ℕ)) → before (drop (before ls) ls) ≡ 0
before_drop [] = refl
before_drop (l ∷ ls) = ⊎_elim (λ h. rw h (rw h refl)) (λ h. ap (λ k. before (drop k (l ∷ ls))) (before_line l ls h) ∙ before_drop ls) (cases_Bool (is_head l))

-- where a load ends
abbrev resume : Place → List (List ℕ) → Place
resume p ls = record { sheet = p.sheet; line = p.line + before ls }

abbrev pub Answer : Type 0
Answer = Result (Option Head) SheetFault

-- different answers are not the same
pub fault_is_none : {A : Type 0} (f : SheetFault) (o : Option Head) (x y : A) → ◌≡◌ {A = Answer} (Err f) (Ok o) → x ≡ y
fault_is_none f o x y z = cc

pub head_is_none : {A : Type 0} (h : Head) (x y : A) → ◌≡◌ {A = Answer} (Ok (Some h)) (Ok None) → x ≡ y
head_is_none h x y z = cc

same_head : (g h : Head) → ◌≡◌ {A = Answer} (Ok (Some g)) (Ok (Some h)) → g ≡ h
same_head g h z = cc

-- the first fault, by the next line
module _ (spell : Head → Spelling) (p : Place) (l : List ℕ) (ls : List (List ℕ)) where
  at_fit : (t : Option Sheet) (h : Head) → is_head l ≡ true → head_in l ≡ Ok h → lines_fault spell p t (l ∷ ls) ≡ lines_fault spell (head_place p 0) (Some (begun h)) ls
  at_fit t h y e = rw (y, e) refl

  at_unfit : (t : Option Sheet) (f : LineFault) → is_head l ≡ true → head_in l ≡ Err f → lines_fault spell p t (l ∷ ls) ≡ Some (record { place = head_place p 0; fault = f })
  at_unfit t f y e = rw (y, e) refl

  at_early : is_head l ≡ false → lines_fault spell p None (l ∷ ls) ≡ Some (record { place = onward p; fault = stray_fault l })
  at_early n = rw n refl

  at_refused : (t : Sheet) (f : LineFault) → is_head l ≡ false → line_fault (spell t.head) t.head.size t.rows l ≡ Some f → lines_fault spell p (Some t) (l ∷ ls) ≡ Some (record { place = onward p; fault = f })
  at_refused t f n e = rw (n, e) refl

  at_entered : (t : Sheet) → is_head l ≡ false → line_fault (spell t.head) t.head.size t.rows l ≡ None → lines_fault spell p (Some t) (l ∷ ls) ≡ lines_fault spell (onward p) (Some (extended (spell t.head) t l)) ls
  at_entered t n e = rw (n, e) refl

-- The first fault of lines that go on with a sheet is that of its statements, or of what comes after them.
module _ (spell : Head → Spelling) where
  abbrev Splits : Place → Sheet → List (List ℕ) → Type 0
  Splits p t ls = lines_fault spell p (Some t) ls ≡ option_or (body_fault (spell t.head) t.head.size p t.rows (body ls)) (lines_fault spell (resume p ls) None (drop (before ls) ls))

  -- where the next head is known to stand k lines on
  abbrev Behind : Place → Sheet → List (List ℕ) → ℕ → Option SheetFault
  Behind p t ls k = option_or (body_fault (spell t.head) t.head.size p t.rows (take k ls)) (lines_fault spell (record { sheet = p.sheet; line = p.line + k }) None (drop k ls))

  split_head : (p : Place) (t : Sheet) (l : List ℕ) (ls : List (List ℕ)) → is_head l ≡ true → Splits p t (l ∷ ls)
  split_head p t l ls y =
      let z : p.line ≡ p.line + 0 = omega arith in
      let any : lines_fault spell p (Some t) (l ∷ ls) ≡ lines_fault spell p None (l ∷ ls) = rw y refl in
      any
      ∙ ap (λ k. lines_fault spell (record { sheet = p.sheet; line = k }) None (l ∷ ls)) z
      ∙ ap (Behind p t (l ∷ ls)) (sym (before_head l ls y))

  -- by what is wrong with the next line
  abbrev told : Place → Sheet → List ℕ → List (List ℕ) → Option LineFault → Option SheetFault
  told p t l ls o =
      option_or (elim o [ Some f ↦ Some (record { place = onward p; fault = f }) | None ↦ body_fault (spell t.head) t.head.size (onward p) (t.rows ++ (row_in (spell t.head) l ∷ [])) (body ls) ])
      (lines_fault spell (record { sheet = p.sheet; line = p.line + suc (before ls) }) None (drop (before ls) ls))

  split_line : (p : Place) (t : Sheet) (l : List ℕ) (ls : List (List ℕ)) → is_head l ≡ false → (o : Option LineFault) → line_fault (spell t.head) t.head.size t.rows l ≡ o
      → Splits (onward p) (extended (spell t.head) t l) ls → Splits p t (l ∷ ls)
  split_line p t l ls n (Some f) e i =
      at_refused spell p l ls t f n e ∙ ap (told p t l ls) (sym e) ∙ ap (Behind p t (l ∷ ls)) (sym (before_line l ls n))
  split_line p t l ls n None e i =
      let z : p.line + 1 + before ls ≡ p.line + suc (before ls) = omega arith in
      at_entered spell p l ls t n e ∙ i
      ∙ ap (λ k. option_or (body_fault (spell t.head) t.head.size (onward p) (t.rows ++ (row_in (spell t.head) l ∷ [])) (body ls)) (lines_fault spell (record { sheet = p.sheet; line = k }) None (drop (before ls) ls))) z
      ∙ ap (told p t l ls) (sym e) ∙ ap (Behind p t (l ∷ ls)) (sym (before_line l ls n))

  splits : (p : Place) (t : Sheet) (ls : List (List ℕ)) → Splits p t ls
  splits p t [] = refl
  splits p t (l ∷ ls) =
      ⊎_elim
      (λ y. split_head p t l ls y)
      (λ n. split_line p t l ls n (line_fault (spell t.head) t.head.size t.rows l) refl (splits (onward p) (extended (spell t.head) t l) ls))
      (cases_Bool (is_head l))

  -- by what a load of them answers
  by_load : (q : Place) (ls : List (List ℕ)) (h : Head) (o : Option SheetFault)
      → option_or o (lines_fault spell (resume q ls) None (drop (before ls) ls)) ≡ after_load spell (load_move (record { too_long = false; place = q; ahead = ls; waiting = Some h }) o) o
  by_load q ls h (Some f) = refl
  by_load q ls h None = refl

-- past a head
abbrev past : Place → List (List ℕ) → Head → View
past p ls h = record { too_long = false; place = head_place p 0; ahead = ls; waiting = Some h }

moved_past : (p : Place) (l : List ℕ) (ls : List (List ℕ)) (h : Head) → is_head l ≡ true → head_move (between p (l ∷ ls)) (Ok (Some h)) ≡ past p ls h
moved_past p l ls h y = rw y refl

module _ (p : Place) (l : List ℕ) (ls : List (List ℕ)) (h : Head) (y : is_head l ≡ true) (e : head_in l ≡ Ok h) where
  fit_answer : head_answer (between p (l ∷ ls)) ≡ Ok (Some h)
  fit_answer = at_head p l ls y ∙ ap (located (head_place p 0)) e

  fit_after : head_after (between p (l ∷ ls)) ≡ past p ls h
  fit_after = ap (head_move (between p (l ∷ ls))) fit_answer ∙ moved_past p l ls h y

own_load : (s : Spelling) (p : Place) (ls : List (List ℕ)) (h : Head) → fits_draft s h ≡ true → load_fault s (past p ls h) ≡ body_fault s h.size (head_place p 0) [] (body ls)
own_load s p ls h own = rw own refl

-- no head has come
pub none_begun : (p : Place) (l : List ℕ) (ls : List (List ℕ)) → is_head l ≡ false → (before (l ∷ ls) == 0 || p.sheet == 0) ≡ true → p.sheet ≡ 0
none_begun p l ls n b = let c = rw n at b in grind (arith, nat_tests)

module _ (spell : Head → Spelling) (own : Own spell) where
  -- a head that was read has the letters of a kind and a tally
  own_read : (l : List ℕ) (h : Head) → head_in l ≡ Ok h → fits_draft (spell h) h ≡ true
  own_read l h e = let s = head_said l h e in own h s.kind s.tally

  own_line : (p : Place) (l : List ℕ) (ls : List (List ℕ)) (h : Head) → is_head l ≡ true → head_answer (between p (l ∷ ls)) ≡ Ok (Some h) → (r : Result Head LineFault) → head_in l ≡ r
      → fits_draft (spell h) h ≡ true
  own_line p l ls h y a (Err f) e =
      fault_is_none _ (Some h) _ _ (sym (at_head p l ls y ∙ ap (located (head_place p 0)) e) ∙ a)
  own_line p l ls h y a (Ok g) e =
      own_read l h (e ∙ ap (λ x. Ok x) (same_head g h (sym (at_head p l ls y ∙ ap (located (head_place p 0)) e) ∙ a)))

  own_lines : (p : Place) (ls : List (List ℕ)) (h : Head) → (before ls == 0 || p.sheet == 0) ≡ true → head_answer (between p ls) ≡ Ok (Some h) → fits_draft (spell h) h ≡ true
  own_lines p [] h b a = head_is_none h _ _ (sym a ∙ at_end p)
  own_lines p (l ∷ ls) h b a =
      ⊎_elim
      (λ y. own_line p l ls h y a (head_in l) refl)
      (λ n. fault_is_none _ (Some h) _ _ (sym (at_stray p l ls n (none_begun p l ls n b)) ∙ a))
      (cases_Bool (is_head l))

  pub own_answer : (v : View) (h : Head) → Between v → head_answer v ≡ Ok (Some h) → fits_draft (spell h) h ≡ true
  own_answer v h b a = own_lines v.place v.ahead h b.next (subst (λ w. head_answer w ≡ Ok (Some h)) (same v b) a)

  by_head : (p : Place) (l : List ℕ) (ls : List (List ℕ)) → is_head l ≡ true → (r : Result Head LineFault) → head_in l ≡ r
      → lines_fault spell p None (l ∷ ls) ≡ after_head spell (head_after (between p (l ∷ ls))) (head_answer (between p (l ∷ ls)))
  by_head p l ls y (Err f) e =
      at_unfit spell p l ls None f y e
      ∙ sym (ap (after_head spell (head_after (between p (l ∷ ls)))) (at_head p l ls y ∙ ap (located (head_place p 0)) e))
  by_head p l ls y (Ok h) e =
      at_fit spell p l ls None h y e
      ∙ splits spell (head_place p 0) (begun h) ls
      ∙ by_load spell (head_place p 0) ls h (body_fault (spell h) h.size (head_place p 0) [] (body ls))
      ∙ ap (λ o. after_load spell (load_move (past p ls h) o) o) (sym (own_load (spell h) p ls h (own_read l h e)))
      ∙ ap (λ v. after_head spell v (Ok (Some h))) (sym (fit_after p l ls h y e))
      ∙ ap (after_head spell (head_after (between p (l ∷ ls)))) (sym (fit_answer p l ls h y e))

  by_line : (p : Place) (l : List ℕ) (ls : List (List ℕ)) → is_head l ≡ false → p.sheet ≡ 0
      → lines_fault spell p None (l ∷ ls) ≡ after_head spell (head_after (between p (l ∷ ls))) (head_answer (between p (l ∷ ls)))
  by_line p l ls n z =
      at_early spell p l ls n ∙ ap (λ k. Some (record { place = record { sheet = k; line = p.line + 1 }; fault = stray_fault l })) z
      ∙ sym (ap (after_head spell (head_after (between p (l ∷ ls)))) (at_stray p l ls n z))

  by_lines : (p : Place) (ls : List (List ℕ)) → (before ls == 0 || p.sheet == 0) ≡ true
      → lines_fault spell p None ls ≡ after_head spell (head_after (between p ls)) (head_answer (between p ls))
  by_lines p [] b = sym (ap (after_head spell (head_after (between p []))) (at_end p))
  by_lines p (l ∷ ls) b =
      ⊎_elim
      (λ y. by_head p l ls y (head_in l) refl)
      (λ n. by_line p l ls n (none_begun p l ls n b))
      (cases_Bool (is_head l))

  pub in_turn : (v : View) → Between v → rest_fault spell v ≡ after_head spell (head_after v) (head_answer v)
  in_turn v b =
      subst (λ w. rest_fault spell w ≡ after_head spell (head_after w) (head_answer w)) (sym (same v b)) (by_lines v.place v.ahead b.next)

-- between two sheets again
pub between_again : (spell : Head → Spelling) (v : View) (h : Head) → Between v → Takes spell v h → Between (load_after (spell h) (head_after v))
between_again spell v h b t =
    let w = head_after v in
    let m : w ≡ head_move v (Ok (Some h)) = ap (head_move v) t.answered in
    let a : load_after (spell h) w ≡ load_move w None = ap (load_move w) t.loaded in
    subst Between (sym a) (record {
      fits = ap (λ x. x.too_long) m ∙ b.fits;
      idle = refl;
      next = ap (λ k. k == 0 || w.place.sheet == 0) (before_drop w.ahead);
    })

-- the sheets, by the next line
head_same : (l : List ℕ) (h : Head) → head_in l ≡ Ok h → head_of l ≡ h
head_same l h e = by (head_fault l) e
  where
    by : (o : Option LineFault) → answered o (head_of l) ≡ Ok h → head_of l ≡ h
    by (Some f) e = cc
    by None e = cc

module _ (spell : Head → Spelling) where
  -- a sheet with the statements that it goes on with
  abbrev whole : Sheet → List (List ℕ) → Sheet
  whole t ls = record { head = t.head; rows = t.rows ++ rows_in (spell t.head) (body ls) }

  listed_first : (t : Sheet) (ls : List (List ℕ)) → sheets_in spell (Some t) ls ≡ whole t ls ∷ sheets_in spell None (drop (before ls) ls)
  listed_first t [] = ap (λ r. record { head = t.head; rows = r } ∷ []) (sym (append-nil t.rows))
  listed_first t (l ∷ ls) =
      ⊎_elim
      (λ y. rw y (rw y (ap (λ r. record { head = t.head; rows = r } ∷ sheets_in spell (Some (begun (head_of l))) ls) (sym (append-nil t.rows)))))
      (λ n.
      let any : sheets_in spell (Some t) (l ∷ ls) ≡ sheets_in spell (Some (extended (spell t.head) t l)) ls = rw n refl in
      any
      ∙ listed_first (extended (spell t.head) t l) ls
      ∙ ap (λ r. record { head = t.head; rows = r } ∷ sheets_in spell None (drop (before ls) ls)) (append_assoc t.rows (row_in (spell t.head) l ∷ []) (rows_in (spell t.head) (body ls)))
      ∙ ap (λ k. record { head = t.head; rows = t.rows ++ rows_in (spell t.head) (take k (l ∷ ls)) } ∷ sheets_in spell None (drop k (l ∷ ls))) (sym (before_line l ls n)))
      (cases_Bool (is_head l))

  sheet_head : (p : Place) (l : List ℕ) (ls : List (List ℕ)) (h : Head) → is_head l ≡ true → Takes spell (between p (l ∷ ls)) h → (r : Result Head LineFault) → head_in l ≡ r
      → sheets_in spell None (l ∷ ls) ≡ record { head = h; rows = rows_in (spell h) (body (head_after (between p (l ∷ ls))).ahead) } ∷ rest_sheets spell (load_after (spell h) (head_after (between p (l ∷ ls))))
  sheet_head p l ls h y t (Err f) e =
      fault_is_none _ (Some h) _ _ (sym (at_head p l ls y ∙ ap (located (head_place p 0)) e) ∙ t.answered)
  sheet_head p l ls h y t (Ok g) e =
      let s : g ≡ h = same_head g h (sym (at_head p l ls y ∙ ap (located (head_place p 0)) e) ∙ t.answered) in
      let d : head_in l ≡ Ok h = e ∙ ap (λ x. Ok x) s in
      let w = head_after (between p (l ∷ ls)) in
      let first : sheets_in spell None (l ∷ ls) ≡ sheets_in spell (Some (begun (head_of l))) ls = rw y refl in
      first
      ∙ ap (λ x. sheets_in spell (Some (begun x)) ls) (head_same l h d)
      ∙ listed_first (begun h) ls
      ∙ ap (λ x. record { head = h; rows = rows_in (spell h) (body x.ahead) } ∷ rest_sheets spell (load_move x None)) (sym (fit_after p l ls h y d))
      ∙ ap (λ o. record { head = h; rows = rows_in (spell h) (body w.ahead) } ∷ rest_sheets spell (load_move w o)) (sym t.loaded)

  sheet_lines : (p : Place) (ls : List (List ℕ)) (h : Head) → (before ls == 0 || p.sheet == 0) ≡ true → Takes spell (between p ls) h
      → sheets_in spell None ls ≡ record { head = h; rows = rows_in (spell h) (body (head_after (between p ls)).ahead) } ∷ rest_sheets spell (load_after (spell h) (head_after (between p ls)))
  sheet_lines p [] h b t = head_is_none h _ _ (sym t.answered ∙ at_end p)
  sheet_lines p (l ∷ ls) h b t =
      ⊎_elim
      (λ y. sheet_head p l ls h y t (head_in l) refl)
      (λ n. fault_is_none _ (Some h) _ _ (sym (at_stray p l ls n (none_begun p l ls n b)) ∙ t.answered))
      (cases_Bool (is_head l))

  pub sheet_next : (v : View) (h : Head) → Between v → Takes spell v h
      → rest_sheets spell v ≡ record { head = h; rows = rows_in (spell h) (body (head_after v).ahead) } ∷ rest_sheets spell (load_after (spell h) (head_after v))
  sheet_next v h b t =
      subst (λ w. rest_sheets spell w ≡ record { head = h; rows = rows_in (spell h) (body (head_after w).ahead) } ∷ rest_sheets spell (load_after (spell h) (head_after w))) (sym (same v b))
      (sheet_lines v.place v.ahead h b.next (subst (λ w. Takes spell w h) (same v b) t))

  end_head : (p : Place) (l : List ℕ) (ls : List (List ℕ)) → is_head l ≡ true → head_answer (between p (l ∷ ls)) ≡ Ok None → (r : Result Head LineFault) → head_in l ≡ r → sheets_in spell None (l ∷ ls) ≡ []
  end_head p l ls y a (Err f) e =
      fault_is_none _ None _ _ (sym (at_head p l ls y ∙ ap (located (head_place p 0)) e) ∙ a)
  end_head p l ls y a (Ok g) e =
      head_is_none g _ _ (sym (at_head p l ls y ∙ ap (located (head_place p 0)) e) ∙ a)

  end_lines : (p : Place) (ls : List (List ℕ)) → (before ls == 0 || p.sheet == 0) ≡ true → head_answer (between p ls) ≡ Ok None → sheets_in spell None ls ≡ []
  end_lines p [] b a = refl
  end_lines p (l ∷ ls) b a =
      ⊎_elim
      (λ y. end_head p l ls y a (head_in l) refl)
      (λ n. fault_is_none _ None _ _ (sym (at_stray p l ls n (none_begun p l ls n b)) ∙ a))
      (cases_Bool (is_head l))

  pub sheet_end : (v : View) → Between v → head_answer v ≡ Ok None → rest_sheets spell v ≡ []
  sheet_end v b a =
      subst (λ w. rest_sheets spell w ≡ []) (sym (same v b))
      (end_lines v.place v.ahead b.next (subst (λ w. head_answer w ≡ Ok None) (same v b) a))

pub from_start : (file : List ℕ) → too_long file ≡ false → Between (start_of file)
from_start file h = record { fits = h; idle = refl; next = grind (arith, nat_tests) }
