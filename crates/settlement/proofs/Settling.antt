-- A reader goes through its file, and the report of each sheet is printed.
use Rattle.std.proofs.Common.{◌≡◌, ℕ, zero, suc, ◌+◌, ◌<◌, ◌≤◌, Bool, true, false, List, [], ◌∷◌, ◌++◌, length, Some, None, Ok, Err, Option, Result, sym, refl, ap, ◌∙◌, subst, append_assoc, append-nil, length-append, length-drop, add-one, arith, rules}
use Rattle.std.specs.Prelude.{OnOk}
use Rattle.std.specs.Io.KnownBytes.{Appends}
use Rattle.std.specs.List.{All}
use Rattle.std.proofs.lemmas.List.Elements.{All-nil, All-push}
use Rattle.files.specs.declared.head.Head.{Head}
use Rattle.files.specs.declared.head.HeadKind.{HeadKind}
use Rattle.files.specs.declared.head.HeadKind.TheVariants.{Moments, Spells, Dwellings}
use Rattle.files.specs.declared.head.HeadTally.{HeadTally}
use Rattle.files.specs.declared.head.HeadTally.TheVariants.{ByWeight, SwornFirst}
use Rattle.files.specs.Letters.{kind_of, tally_of}
use Rattle.files.specs.Faults.{SheetFault}
use Rattle.files.specs.declared.fault.LineFault.TheVariants.{TooLong}
use Rattle.files.specs.Sheets.{before, nowhere}
use Rattle.files.specs.Views.{View, Contents, contents, too_long, start_of, head_answer, head_move, head_after, load_fault, load_move, load_after, load_contents}
use Rattle.files.specs.Words.{Spelling}
use Rattle.files.specs.Files.{Sheet, Between, Reading, ended, then_load, then_head, drafted, read_all, Own, ReadsWith}
use Rattle.files.proofs.Parting.{lines_le}
use Rattle.files.proofs.Readings.{reads_file}
use Rattle.files.proofs.Standing.{some_ahead}
use Rattle.files.proofs.Turns.{Answer, fault_is_none, own_answer, from_start, between_again}
use Rattle.reports.specs.Lines.{lines_from}
use Rattle.reports.proofs.Lined.{lines_push}
use Rattle.reports.specs.Spellings.{spelling_of}
use Rattle.settlement.specs.declared.stop.Stop.{Stop}
use Rattle.settlement.specs.declared.stop.Stop.TheVariants.{Unfit, Failed}
use Rattle.settlement.specs.Named.{by_kind, by_tally, by_head}
use Rattle.settlement.specs.Output.{report_as, ReliableAs, report_below, ReliableBelow, sheet_report, Reliable, fault_of, settled_sheets, reports_in, AllReliable}
use Rattle.settlement.specs.Ends.{Moves, fresh, SettlesAs, Ends, EndsReliably, unless_refused}
use Rattle.std.proofs.KnownBytes.{Appends-nil, Appends-trans}

own : Own spelling_of
own h k t = search rules

-- a whole reading, as the programs read
abbrev pub reading : ℕ → View → Reading
reading n v = read_all spelling_of (λ h. fresh) n v

-- what a reading comes to where some sheets were loaded before it
abbrev onto : List Sheet → Reading → Reading
onto ts r = record { sheets = ts ++ r.sheets; fault = r.fault }

-- A reader stands at v once `done` sheets of its file are settled, with room for `more` heads after the next.
pub record Stands (file : List ℕ) (old new : Option (List ℕ)) (number : ℕ) (v : View) : Type 0 where
  pub done : List Sheet
  pub more : ℕ
  pub counted : length done ≡ number
  pub room : number + more ≡ length file
  pub split : reading (length file + 1) (start_of file) ≡ onto done (reading (suc more) v)
  pub printed : Appends old new (lines_from sheet_report 1 done)
  pub reliable : All Reliable done
  pub ahead : v.too_long ≡ false → (length v.ahead < suc more) × Between v

-- before the first head
pub start_stands : (file : List ℕ) (old : Option (List ℕ)) → Stands file old old 0 (start_of file)
start_stands file old = record {
  done = [];
  more = length file;
  counted = refl;
  room = omega arith;
  split = ap (λ n. reading n (start_of file)) (add-one (length file));
  printed = Appends-nil old;
  reliable = All-nil Reliable;
  ahead = λ f. (omega (arith, starts_short f), from_start file f);
}
  where
    starts_short : too_long file ≡ false → length (start_of file).ahead ≤ length file
    starts_short f = rw f (lines_le file)

-- what settling a sheet comes to, of the kind and the tally that its head names
module _ (s : Spelling) (h : Head) (n : ℕ) (v : View) (r : Result (Unit {0}) Stop) (w : View) (old new : Option (List ℕ)) where
  abbrev loads : Contents
  loads = load_contents s v fresh

  abbrev Settles : HeadKind → HeadTally → Type 0
  Settles a b = by_kind a (λ V k. by_tally b (λ C t. SettlesAs s k t n v r w old new))

  abbrev Comes : HeadKind → HeadTally → Type 0
  Comes a b =
      Moves r w (load_after s v)
      × Ends r (load_fault s v) old new (unless_refused (load_fault s v) (by_kind a (λ V k. by_tally b (λ C t. report_as k t n loads))))
      × OnOk r (by_kind a (λ V k. by_tally b (λ C t. ReliableAs k t loads)))

  of_each : (a : HeadKind) (b : HeadTally) → Settles a b → Comes a b
  of_each Moments ByWeight i = (i.after, i.printed, i.reliable)
  of_each Moments SwornFirst i = (i.after, i.printed, i.reliable)
  of_each Spells ByWeight i = (i.after, i.printed, i.reliable)
  of_each Spells SwornFirst i = (i.after, i.printed, i.reliable)
  of_each Dwellings ByWeight i = (i.after, i.printed, i.reliable)
  of_each Dwellings SwornFirst i = (i.after, i.printed, i.reliable)

  pub of_head : by_head h (λ V C k t. SettlesAs s k t n v r w old new)
      → Moves r w (load_after s v) × Ends r (load_fault s v) old new (unless_refused (load_fault s v) (report_below h n loads)) × OnOk r (ReliableBelow h loads)
  of_head i = of_each (kind_of h.letter) (tally_of h.tally) i

-- what the file comes to, where a reading of it is known
module _ (file : List ℕ) (done : List Sheet) (o : Option SheetFault) (is : reading (length file + 1) (start_of file) ≡ onto done (ended o)) where
  whole : ReadsWith spelling_of (λ h. fresh) file (start_of file)
  whole = reads_file file spelling_of (λ h. fresh) own

  pub met_fault : fault_of file ≡ o
  met_fault = sym whole.refused ∙ ap (λ r. r.fault) is

  met_sheets : settled_sheets file ≡ done
  unfolding settled_sheets
  met_sheets = sym whole.loaded ∙ ap (λ r. r.sheets) is ∙ append-nil done

  pub met_reports : reports_in file ≡ lines_from sheet_report 1 done
  met_reports = ap (lines_from sheet_report 1) met_sheets

  pub met_reliable : All Reliable done → All Reliable (settled_sheets file)
  met_reliable h = subst (All Reliable) (sym met_sheets) h

-- one turn
module _ (file : List ℕ) (old new : Option (List ℕ)) (number : ℕ) (v : View) (s : Stands file old new number v) where
  -- the call for a head is refused, or there is none
  by_answer : (a : Answer) → head_answer v ≡ a → (o : Option SheetFault) → ended o ≡ then_head (λ h. then_load (drafted h (load_contents (spelling_of h) (head_after v) fresh)) (reading s.more (load_after (spelling_of h) (head_after v))) (load_fault (spelling_of h) (head_after v))) a
      → reading (length file + 1) (start_of file) ≡ onto s.done (ended o)
  by_answer a e o z = s.split ∙ ap (onto s.done) (ap (then_head _) e ∙ sym z)

  pub at_refusal : (f : SheetFault) → head_answer v ≡ Err f → reading (length file + 1) (start_of file) ≡ onto s.done (ended (Some f))
  at_refusal f e = by_answer (Err f) e (Some f) refl

  pub at_end : head_answer v ≡ Ok None → reading (length file + 1) (start_of file) ≡ onto s.done (ended None)
  at_end e = by_answer (Ok None) e None refl

  -- where nothing more is printed, the file is at its end
  module _ (o : Option SheetFault) (is : reading (length file + 1) (start_of file) ≡ onto s.done (ended o)) where
    pub printed_all : (new' : Option (List ℕ)) → Appends new new' [] → (fault_of file ≡ o) × Appends old new' (reports_in file)
    printed_all new' a = (
      met_fault file s.done o is,
      subst (Appends old new') (append-nil (lines_from sheet_report 1 s.done) ∙ sym (met_reports file s.done o is)) (Appends-trans old new new' _ [] s.printed a),
    )

    pub reliable_all : AllReliable file
    reliable_all = met_reliable file s.done o is s.reliable

  module _ (h : Head) (e : head_answer v ≡ Ok (Some h)) where
    abbrev w : View
    w = head_after v

    abbrev loaded : Contents
    loaded = load_contents (spelling_of h) w fresh

    turned : reading (length file + 1) (start_of file) ≡ onto s.done (then_load (drafted h loaded) (reading s.more (load_after (spelling_of h) w)) (load_fault (spelling_of h) w))
    turned = s.split ∙ ap (onto s.done) (ap (then_head _) e)

    -- the sheet is refused
    pub at_unfit : (f : SheetFault) → load_fault (spelling_of h) w ≡ Some f → reading (length file + 1) (start_of file) ≡ onto s.done (ended (Some f))
    at_unfit f z = turned ∙ ap (λ o. onto s.done (then_load (drafted h loaded) (reading s.more (load_after (spelling_of h) w)) o)) z

    -- a sheet ends the settling
    pub stopped : (stop : Stop) (new' : Option (List ℕ)) (text : List ℕ) → Ends (Err stop) (load_fault (spelling_of h) w) new new' (unless_refused (load_fault (spelling_of h) w) text)
        → Ends (Err stop) (fault_of file) old new' (reports_in file)
    stopped (Unfit f) new' text t = printed_all (Some f) (at_unfit f t.0) new' (subst (λ o. Appends new new' (unless_refused o text)) t.0 t.1)
    stopped (Failed x) new' text t = t

    pub stopped_reliably : (stop : Stop) (new' : Option (List ℕ)) (text : List ℕ) → Ends (Err stop) (load_fault (spelling_of h) w) new new' (unless_refused (load_fault (spelling_of h) w) text) → EndsReliably (Err stop) file
    stopped_reliably (Unfit f) new' text t = reliable_all (Some f) (at_unfit f t.0)
    stopped_reliably (Failed x) new' text t = tt

    fits : v.too_long ≡ false
    fits = by v.too_long refl
      where
        refused : v.too_long ≡ true → head_answer v ≡ Err (nowhere TooLong)
        refused z = rw z refl

        by : (b : Bool) → v.too_long ≡ b → v.too_long ≡ false
        by false z = z
        by true z = fault_is_none _ (Some h) _ _ (sym (refused z) ∙ e)

    b : Between v
    b = (s.ahead fits).1

    moved : w ≡ head_move v (Ok (Some h))
    moved = ap (head_move v) e

    some_lines : before v.ahead < length v.ahead
    some_lines = some_ahead v h (sym e)

    pub room_left : number + 1 ≤ length file
    room_left = omega (arith, (s.ahead fits).0, some_lines, s.room)

    left : (k : ℕ) × (s.more ≡ suc k)
    left = by s.more refl
      where
        by : (n : ℕ) → s.more ≡ n → (k : ℕ) × (s.more ≡ suc k)
        by zero z = absurd (omega (arith, z, (s.ahead fits).0, some_lines))
        by (suc k) z = (k, z)

    -- the draft has the head's size
    held : contents h.size loaded.rows ≡ loaded
    held = ap (λ n. contents n loaded.rows) (sym (sized w (ap (λ x. x.too_long) moved ∙ b.fits) (ap (λ x. x.waiting) moved)))
      where
        sized : (x : View) → x.too_long ≡ false → x.waiting ≡ Some h → (load_contents (spelling_of h) x fresh).items ≡ h.size
        sized x f z = rw (f, z, own_answer spelling_of own v h b e) refl

    -- the sheet is loaded
    module _ (g : load_fault (spelling_of h) w ≡ None) where
      abbrev u : View
      u = load_after (spelling_of h) w

      past : u ≡ load_move w None
      past = ap (load_move w) g

      shorter : length u.ahead < length v.ahead
      shorter = omega (
        arith,
        ap (λ x. length x.ahead) past,
        length-drop (before w.ahead) w.ahead,
        ap (λ x. length x.ahead) moved,
        length-drop (before v.ahead + 1) v.ahead,
        some_lines,
      )

      joined : (n : ℕ) → s.more ≡ n → reading (length file + 1) (start_of file) ≡ onto (s.done ++ (drafted h loaded ∷ [])) (reading n u)
      joined n z =
          let r = reading n u in
          turned
          ∙ ap (λ o. onto s.done (then_load (drafted h loaded) (reading s.more u) o)) g
          ∙ ap (λ k. onto s.done (then_load (drafted h loaded) (reading k u) None)) z
          ∙ ap (λ ts. record { sheets = ts; fault = r.fault }) (sym (append_assoc s.done (drafted h loaded ∷ []) r.sheets))

      reported : report_below h (number + 1) loaded ≡ sheet_report (1 + length s.done) (drafted h loaded)
      unfolding sheet_report
      reported =
          ap (λ n. report_below h n loaded) (omega (arith, s.counted))
          ∙ ap (report_below h (1 + length s.done)) (sym held)

      relied : ReliableBelow h loaded → Reliable (drafted h loaded)
      unfolding Reliable
      relied r = subst (ReliableBelow h) (sym held) r

      pub next_stands : (new' : Option (List ℕ)) → Appends new new' (report_below h (number + 1) loaded) → ReliableBelow h loaded → Stands file old new' (number + 1) u
      next_stands new' a r = record {
        done = s.done ++ (drafted h loaded ∷ []);
        more = left.0;
        counted = omega (arith, length-append s.done (drafted h loaded ∷ []), s.counted);
        room = omega (arith, s.room, left.1);
        split = joined (suc left.0) left.1;
        printed = subst (Appends old new') (sym (lines_push sheet_report 1 s.done (drafted h loaded)))
            (Appends-trans old new new' _ _ s.printed (subst (Appends new new') reported a));
        reliable = All-push Reliable s.done (drafted h loaded) s.reliable (relied r);
        ahead = λ f. (omega (arith, shorter, (s.ahead fits).0, left.1), between_again spelling_of v h b (record { answered = e; loaded = g }));
      }

    pub at_loaded : (x : View) (new' : Option (List ℕ)) → x ≡ load_after (spelling_of h) w
        → (load_fault (spelling_of h) w ≡ None) × Appends new new' (unless_refused (load_fault (spelling_of h) w) (report_below h (number + 1) loaded)) → ReliableBelow h loaded → Stands file old new' (number + 1) x
    at_loaded x new' f t r =
        subst (Stands file old new' (number + 1)) (sym f)
        (next_stands t.0 new' (subst (λ o. Appends new new' (unless_refused o (report_below h (number + 1) loaded))) t.0 t.1) r)

    -- and the reader is further on
    pub at_further : (x : View) → x ≡ load_after (spelling_of h) w → load_fault (spelling_of h) w ≡ None → length x.ahead < length v.ahead
    at_further x f g = rw f (shorter g)
