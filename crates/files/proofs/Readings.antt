-- A whole reading meets the first fault of its file, and loads the sheets before it.
use Rattle.std.proofs.Common.{◌≡◌, ℕ, zero, suc, ◌+◌, ◌-◌, ◌<◌, true, false, List, [], ◌∷◌, ◌++◌, length, take, Some, None, Ok, Err, Option, Result, sym, refl, ap, ◌∙◌, subst, ⊎_elim, arith, ◌==◌, ◌||◌, length-drop, add-one}
use Rattle.std.proofs.lemmas.Bool.{cases_Bool}
use Rattle.std.proofs.lemmas.Option.{none-some, same_Some}
use Rattle.rules.specs.declared.row.Row.{Row}
use Rattle.files.specs.declared.fault.LineFault.{LineFault}
use Rattle.files.specs.declared.fault.LineFault.TheVariants.{TooLong}
use Rattle.files.specs.declared.fault.Place.{Place}
use Rattle.files.specs.declared.head.Head.{Head}
use Rattle.files.specs.Drafts.{line_fault, row_in}
use Rattle.files.specs.Faults.{SheetFault}
use Rattle.files.specs.Heads.{is_head, head_in}
use Rattle.files.specs.Loads.{body, body_fault, rows_in}
use Rattle.files.specs.Sheets.{before, onward, head_place, located, nowhere}
use Rattle.files.specs.Views.{View, Contents, too_long, start_of, fits_draft, head_answer, head_move, head_after, load_fault, load_move, load_after, load_contents, loaded_rows}
use Rattle.files.specs.Words.{Spelling}
use Rattle.files.specs.Files.{Between, rest_fault, rest_sheets, after_load, after_head, Takes, Reading, ended, then_load, then_head, drafted, read_all, sheets_before, Own, file_fault, sheets_of, ReadsWith, ReadsFile}
use Rattle.files.proofs.Parting.{lines_le}
use Rattle.files.proofs.Seeking.{at_end, at_head, at_stray}
use Rattle.files.proofs.Standing.{some_ahead}
use Rattle.files.proofs.Turns.{between, same, Answer, fault_is_none, none_begun, own_answer, in_turn, between_again, sheet_next, sheet_end, from_start}

-- what was read from v on
record Told (spell : Head → Spelling) (v : View) (r : Reading) : Type 0 where
  pub fault : r.fault ≡ rest_fault spell v
  pub some : r.sheets ≡ take (length r.sheets) (rest_sheets spell v)
  pub all : r.fault ≡ None → r.sheets ≡ rest_sheets spell v
  pub at : (f : SheetFault) → r.fault ≡ Some f → f.place.sheet - 1 ≡ v.place.sheet + length r.sheets

same_fault : (f g : SheetFault) → ◌≡◌ {A = Answer} (Err f) (Err g) → f ≡ g
same_fault f g z = cc

-- the sheet of a head's fault
unfit_sheet : (p : Place) (r : Result Head LineFault) (f : SheetFault) → located p r ≡ Err f → f.place.sheet ≡ p.sheet
unfit_sheet p (Ok h) f e = fault_is_none f (Some h) _ _ (sym e)
unfit_sheet p (Err g) f e = sym (ap (λ x. x.place.sheet) (same_fault _ f e))

head_sheet : (p : Place) (ls : List (List ℕ)) (f : SheetFault) → (before ls == 0 || p.sheet == 0) ≡ true → head_answer (between p ls) ≡ Err f → f.place.sheet - 1 ≡ p.sheet
head_sheet p [] f b e = fault_is_none f None _ _ (sym e ∙ at_end p)
head_sheet p (l ∷ ls) f b e =
    ⊎_elim
    (λ y. omega (arith, unfit_sheet (head_place p 0) (head_in l) f (sym (at_head p l ls y) ∙ e)))
    (λ n. let z = none_begun p l ls n b in omega (arith, z, ap (λ x. x.place.sheet) (same_fault _ f (sym (at_stray p l ls n z) ∙ e))))
    (cases_Bool (is_head l))

head_fault_sheet : (v : View) (f : SheetFault) → Between v → head_answer v ≡ Err f → f.place.sheet - 1 ≡ v.place.sheet
head_fault_sheet v f b e = head_sheet v.place v.ahead f b.next (subst (λ w. head_answer w ≡ Err f) (same v b) e)

-- and of a statement's
by_line : (s : Spelling) (items : ℕ) (p : Place) (rows : List Row) (l : List ℕ) (ls : List (List ℕ)) (f : SheetFault) (o : Option LineFault)
    → elim o [ Some g ↦ Some (record { place = onward p; fault = g }) | None ↦ body_fault s items (onward p) (rows ++ (row_in s l ∷ [])) ls ] ≡ Some f
    → (body_fault s items (onward p) (rows ++ (row_in s l ∷ [])) ls ≡ Some f → f.place.sheet ≡ p.sheet)
    → f.place.sheet ≡ p.sheet
by_line s items p rows l ls f (Some g) e i = sym (ap (λ x. x.place.sheet) (same_Some _ f e))
by_line s items p rows l ls f None e i = i e

body_sheet : (s : Spelling) (items : ℕ) (p : Place) (rows : List Row) (ls : List (List ℕ)) (f : SheetFault) → body_fault s items p rows ls ≡ Some f → f.place.sheet ≡ p.sheet
body_sheet s items p rows [] f e = absurd (none-some f e)
body_sheet s items p rows (l ∷ ls) f e = by_line s items p rows l ls f (line_fault s items rows l) e (λ d. body_sheet s items (onward p) (rows ++ (row_in s l ∷ [])) ls f d)

-- a load of the head that waits, into a draft of its kind and tally
module _ (s : Spelling) (w : View) (h : Head) (fits : w.too_long ≡ false) (waits : w.waiting ≡ Some h) (own : fits_draft s h ≡ true) where
  own_fault : load_fault s w ≡ body_fault s h.size w.place [] (body w.ahead)
  own_fault = rw (fits, waits, own) refl

  own_rows : (old : Contents) → (load_contents s w old).rows ≡ loaded_rows (body_fault s h.size w.place [] (body w.ahead)) (rows_in s (body w.ahead))
  own_rows old = rw (fits, waits, own) refl

-- one turn
module _ (spell : Head → Spelling) (had : Head → Contents) (own : Own spell) (v : View) (b : Between v) where
  abbrev w : View
  w = head_after v

  told_err : (f : SheetFault) → head_answer v ≡ Err f → Told spell v (ended (Some f))
  told_err f e = record {
    fault = sym (in_turn spell own v b ∙ ap (after_head spell w) e);
    some = refl;
    all = λ z. absurd (none-some f (sym z));
    at = λ g z. omega (arith, ap (λ x. x.place.sheet) (same_Some f g z), head_fault_sheet v f b e);
  }

  told_end : head_answer v ≡ Ok None → Told spell v (ended None)
  told_end e = record {
    fault = sym (in_turn spell own v b ∙ ap (after_head spell w) e);
    some = refl;
    all = λ z. sym (sheet_end spell v b e);
    at = λ g z. absurd (none-some g z);
  }

  module _ (h : Head) (e : head_answer v ≡ Ok (Some h)) where
    abbrev u : View
    u = load_after (spell h) w

    moved : w ≡ head_move v (Ok (Some h))
    moved = ap (head_move v) e

    fits : w.too_long ≡ false
    fits = ap (λ x. x.too_long) moved ∙ b.fits

    waits : w.waiting ≡ Some h
    waits = ap (λ x. x.waiting) moved

    owns : fits_draft (spell h) h ≡ true
    owns = own_answer spell own v h b e

    sheet : w.place.sheet ≡ v.place.sheet + 1
    sheet = ap (λ x. x.place.sheet) moved

    told_refused : (f : SheetFault) → load_fault (spell h) w ≡ Some f → Told spell v (ended (Some f))
    told_refused f g = record {
      fault = sym (in_turn spell own v b ∙ ap (after_head spell w) e ∙ ap (after_load spell u) g);
      some = refl;
      all = λ z. absurd (none-some f (sym z));
      at = λ k z. omega (
        arith,
        sheet,
        ap (λ x. x.place.sheet) (same_Some f k z),
        body_sheet (spell h) h.size w.place [] (body w.ahead) f (sym (own_fault (spell h) w h fits waits owns) ∙ g),
      );
    }

    module _ (g : load_fault (spell h) w ≡ None) where
      takes : Takes spell v h
      takes = record { answered = e; loaded = g }

      past : u ≡ load_move w None
      past = ap (load_move w) g

      shorter : length u.ahead < length v.ahead
      shorter = omega (
        arith,
        ap (λ x. length x.ahead) past,
        length-drop (before w.ahead) w.ahead,
        ap (λ x. length x.ahead) moved,
        length-drop (before v.ahead + 1) v.ahead,
        some_ahead v h (sym e),
      )

      same_sheet : drafted h (load_contents (spell h) w (had h)) ≡ record { head = h; rows = rows_in (spell h) (body w.ahead) }
      same_sheet = ap (λ r. record { head = h; rows = r })
          (own_rows (spell h) w h fits waits owns (had h)
          ∙ ap (λ o. loaded_rows o (rows_in (spell h) (body w.ahead))) (sym (own_fault (spell h) w h fits waits owns) ∙ g))

      next_sheets : rest_sheets spell v ≡ drafted h (load_contents (spell h) w (had h)) ∷ rest_sheets spell u
      next_sheets = sheet_next spell v h b takes ∙ ap (λ t. t ∷ rest_sheets spell u) (sym same_sheet)

      told_loaded : (r : Reading) → Told spell u r → Told spell v (record { sheets = drafted h (load_contents (spell h) w (had h)) ∷ r.sheets; fault = r.fault })
      told_loaded r t = record {
        fault = t.fault ∙ sym (in_turn spell own v b ∙ ap (after_head spell w) e ∙ ap (after_load spell u) g);
        some = ap (λ ts. drafted h (load_contents (spell h) w (had h)) ∷ ts) t.some ∙ ap (take (suc (length r.sheets))) (sym next_sheets);
        all = λ z. ap (λ ts. drafted h (load_contents (spell h) w (had h)) ∷ ts) (t.all z) ∙ sym next_sheets;
        at = λ f z. omega (arith, t.at f z, ap (λ x. x.place.sheet) past, sheet);
      }

-- all turns
module _ (spell : Head → Spelling) (had : Head → Contents) (own : Own spell) where
  abbrev Later : ℕ → View → Type 0
  Later n v = (u : View) → length u.ahead < length v.ahead → Between u → Told spell u (read_all spell had n u)

  by_load : (n : ℕ) (v : View) (b : Between v) → Later n v → (h : Head) → head_answer v ≡ Ok (Some h) → (o : Option SheetFault) → load_fault (spell h) (head_after v) ≡ o
      → Told spell v (then_load (drafted h (load_contents (spell h) (head_after v) (had h))) (read_all spell had n (load_after (spell h) (head_after v))) o)
  by_load n v b i h e (Some f) g = told_refused spell had own v b h e f g
  by_load n v b i h e None g =
      let u = load_after (spell h) (head_after v) in
      told_loaded spell had own v b h e g (read_all spell had n u)
      (i u (shorter spell had own v b h e g) (between_again spell v h b (takes spell had own v b h e g)))

  by_answer : (n : ℕ) (v : View) (b : Between v) → Later n v → (a : Answer) → head_answer v ≡ a
      → Told spell v (then_head (λ h. then_load (drafted h (load_contents (spell h) (head_after v) (had h))) (read_all spell had n (load_after (spell h) (head_after v))) (load_fault (spell h) (head_after v))) a)
  by_answer n v b i (Err f) e = told_err spell had own v b f e
  by_answer n v b i (Ok None) e = told_end spell had own v b e
  by_answer n v b i (Ok (Some h)) e = by_load n v b i h e (load_fault (spell h) (head_after v)) refl

  told : (n : ℕ) (v : View) → length v.ahead < n → Between v → Told spell v (read_all spell had n v)
  told zero v m b = absurd (omega arith)
  told (suc n) v m b = by_answer n v b (λ u s c. told n u (omega (arith, s)) c) (head_answer v) refl

-- a file that is read
module _ (spell : Head → Spelling) (had : Head → Contents) (own : Own spell) (file : List ℕ) where
  of_fit : too_long file ≡ false → Told spell (start_of file) (read_all spell had (length file + 1) (start_of file))
  of_fit h = told spell had own (length file + 1) (start_of file) (few h) (from_start file h)
    where
      few : too_long file ≡ false → length (start_of file).ahead < length file + 1
      few z = rw z (omega (arith, lines_le file))

  fit_fault : too_long file ≡ false → file_fault spell file ≡ rest_fault spell (start_of file)
  fit_fault h = rw h refl

  fit_sheets : too_long file ≡ false → sheets_of spell file ≡ rest_sheets spell (start_of file)
  fit_sheets h = rw h refl

  long_fault : too_long file ≡ true → file_fault spell file ≡ Some (nowhere TooLong)
  long_fault h = rw h refl

  long_read : too_long file ≡ true → read_all spell had (length file + 1) (start_of file) ≡ ended (Some (nowhere TooLong))
  long_read h = ap (λ n. read_all spell had n (start_of file)) (add-one (length file)) ∙ rw h refl

  of_sheets : (f : Option SheetFault) (r : Reading) → r.fault ≡ f → Told spell (start_of file) r → r.sheets ≡ sheets_before f (rest_sheets spell (start_of file))
  of_sheets (Some f) r e t = t.some ∙ ap (λ n. take n (rest_sheets spell (start_of file))) (omega (arith, t.at f e))
  of_sheets None r e t = t.all e

  abbrev Reads : Reading → Type 0
  Reads r = (r.fault ≡ file_fault spell file) × (r.sheets ≡ sheets_before (file_fault spell file) (sheets_of spell file))

  by_length : Reads (read_all spell had (length file + 1) (start_of file))
  by_length =
      ⊎_elim
      (λ y. rw (long_read y, long_fault y) (refl, refl))
      (λ n.
      let t = of_fit n in
      let e = t.fault ∙ sym (fit_fault n) in
      (e, of_sheets (file_fault spell file) _ e t ∙ ap (sheets_before (file_fault spell file)) (sym (fit_sheets n))))
      (cases_Bool (too_long file))

  reads_with : ReadsWith spell had file (start_of file)
  reads_with = record {
    refused = by_length.0;
    loaded = by_length.1;
    whole = λ w. ap (λ f. record { sheets = (read_all spell had (length file + 1) (start_of file)).sheets; fault = f }) (by_length.0 ∙ w)
        ∙ ap (λ ts. record { sheets = ts; fault = None }) (by_length.1 ∙ ap (λ f. sheets_before f (sheets_of spell file)) w);
  }

pub reads_file : (file : List ℕ) → ReadsFile file (start_of file)
reads_file file spell had own = reads_with spell had own file
