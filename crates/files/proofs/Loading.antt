-- A statement's line, taken by a draft, and the statements one after another.
use Rattle.std.proofs.Common.{◌≡◌, ℕ, suc, ◌+◌, ◌-◌, ◌≤◌, false, List, [], ◌∷◌, ◌++◌, length, take, drop, Some, None, Ok, Err, Option, Result, sym, refl, ap, ◌∙◌, append_assoc, arith, length-append}
use Rattle.std.proofs.Math.Seq.{take-append_seam, take-append-add}
use Rattle.rules.specs.declared.row.Row.{Row}
use Rattle.statements.specs.declared.entry.Entry.{Entry}
use Rattle.statements.specs.declared.fault.Fault.{Fault}
use Rattle.files.specs.declared.fault.LineFault.{LineFault}
use Rattle.files.specs.declared.fault.LineFault.TheVariants.{Draft}
use Rattle.files.specs.declared.fault.At.{At}
use Rattle.files.specs.declared.fault.Place.{Place}
use Rattle.files.specs.Faults.{first, answered, placed_at}
use Rattle.files.specs.Drafts.{refused_at, refused_line, line_fault, row_in}
use Rattle.files.specs.Heads.{is_head}
use Rattle.files.specs.Sheets.{before, onward}
use Rattle.files.specs.Loads.{body, body_fault, rows_in, Loaded}
use Rattle.files.specs.Words.{Spelling}
use Rattle.files.proofs.Seeking.{before_line, one_read}

refused : (g : Fault → ℕ) (o : Option Fault) (d : At ℕ Fault) → Err d ≡ refused_at g o → Err (Draft d.place d.fault) ≡ answered (first (refused_line g o ∷ [])) (tt {0})
refused g (Some f) d h = let s : d ≡ record { place = g f; fault = f } = cc in ap (λ x. Err (Draft x.place x.fault)) s
refused g None d h = cc

-- the line is fit, and the draft refuses its entry
pub entry_refused : (a : Option LineFault) (g : Entry → Fault → ℕ) (k : Entry → Option Fault) (x e : Entry) (d : At ℕ Fault) → Ok x ≡ answered a e → Err d ≡ refused_at (g x) (k x) → Err (Draft d.place d.fault) ≡ answered (first (a ∷ refused_line (g e) (k e) ∷ [])) (tt {0})
entry_refused (Some f) g k x e d h r = cc
entry_refused None g k x e d h r = let s : x ≡ e = cc in refused (g x) (k x) d r ∙ ap (λ y. answered (first (refused_line (g y) (k y) ∷ [])) (tt {0})) s

-- what was read of an answer with its place
pub read_fit : {F : Type 0} (p : Place) (r : Result (Unit {0}) F) (x : Unit {0}) → Ok x ≡ placed_at p r → r ≡ Ok tt
read_fit p (Ok y) x e = refl
read_fit p (Err f) x e = cc

pub read_unfit : {F : Type 0} (p : Place) (r : Result (Unit {0}) F) (d : At Place F) → Err d ≡ placed_at p r → (r ≡ Err d.fault) × (d.place ≡ p)
read_unfit p (Ok y) d e = cc
read_unfit p (Err f) d e = let s : d ≡ record { place = p; fault = f } = cc in (ap (λ x. Err x.fault) (sym s), ap (λ x. x.place) s)

-- from place q, with ms still to come and the rows now entered, a load goes as from p with ls
pub record Loads (s : Spelling) (items : ℕ) (p : Place) (ls : List (List ℕ)) (rows : List Row) (q : Place) (ms : List (List ℕ)) (now : List Row) : Type 0 where
  pub fault : body_fault s items q now (body ms) ≡ body_fault s items p rows (body ls)
  pub all : now ++ rows_in s (body ms) ≡ rows ++ rows_in s (body ls)
  pub rest : drop (before ms) ms ≡ drop (before ls) ls
  pub line : q.line + before ms ≡ p.line + before ls
  pub sheet : q.sheet ≡ p.sheet
  pub from : p.line ≤ q.line
  pub read : ms ≡ drop (q.line - p.line) ls
  pub many : length now ≡ length rows + (q.line - p.line)

fit : {F : Type 0} (o : Option F) → Ok (tt {0}) ≡ answered o (tt {0}) → o ≡ None
fit (Some g) h = cc
fit None h = refl

unfit : {F : Type 0} (o : Option F) (f : F) → Err f ≡ answered o (tt {0}) → o ≡ Some f
unfit (Some g) f h = cc
unfit None f h = cc

before_more : (l : List ℕ) (ns ms : List (List ℕ)) → is_head l ≡ false → ms ≡ l ∷ ns → before ms ≡ suc (before ns)
before_more l ns ms h e = ap before e ∙ before_line l ns h

body_more : (l : List ℕ) (ns ms : List (List ℕ)) → is_head l ≡ false → ms ≡ l ∷ ns → body ms ≡ l ∷ body ns
body_more l ns ms h e = ap (λ k. take k ms) (before_more l ns ms h e) ∙ ap (take (suc (before ns))) e

module _ (s : Spelling) (items : ℕ) (p : Place) (ls : List (List ℕ)) (rows : List Row) (q : Place) (ms ns : List (List ℕ)) (now : List Row) (l : List ℕ)
    (g : Loads s items p ls rows q ms now) (h : is_head l ≡ false) (e : ms ≡ l ∷ ns) where
  pub one_entered : (new : List Row) (q' : Place) → Ok (tt {0}) ≡ answered (line_fault s items now l) (tt {0}) → new ≡ now ++ (row_in s l ∷ []) → q' ≡ onward q → Loads s items p ls rows q' ns new
  one_entered new q' good add on = record {
    fault = ap (λ x. body_fault s items x new (body ns)) on ∙ ap (λ x. body_fault s items (onward q) x (body ns)) add
        ∙ sym (ap (λ o. elim o [ Some f ↦ Some (record { place = onward q; fault = f }) | None ↦ body_fault s items (onward q) (now ++ (row_in s l ∷ [])) (body ns) ]) (fit (line_fault s items now l) good))
        ∙ sym (ap (body_fault s items q now) (body_more l ns ms h e)) ∙ g.fault;
    all = ap (λ r. r ++ rows_in s (body ns)) add ∙ append_assoc now (row_in s l ∷ []) (rows_in s (body ns))
        ∙ ap (λ b. now ++ rows_in s b) (sym (body_more l ns ms h e)) ∙ g.all;
    rest = sym (ap (λ k. drop k ms) (before_more l ns ms h e) ∙ ap (drop (suc (before ns))) e) ∙ g.rest;
    line = omega (arith, ap (λ x. x.line) on, before_more l ns ms h e, g.line);
    sheet = ap (λ x. x.sheet) on ∙ g.sheet;
    from = omega (arith, ap (λ x. x.line) on, g.from);
    read = one_read p q ls ms ns l g.from g.read e ∙ ap (λ x. drop (x.line - p.line) ls) (sym on);
    many = omega (arith, ap length add, length-append now (row_in s l ∷ []), ap (λ x. x.line) on, g.from, g.many);
  }

  pub one_refused : (f : LineFault) → Err f ≡ answered (line_fault s items now l) (tt {0}) → body_fault s items p rows (body ls) ≡ Some (record { place = onward q; fault = f })
  one_refused f bad =
      sym g.fault ∙ ap (body_fault s items q now) (body_more l ns ms h e)
      ∙ ap (λ o. elim o [ Some f ↦ Some (record { place = onward q; fault = f }) | None ↦ body_fault s items (onward q) (now ++ (row_in s l ∷ [])) (body ns) ]) (unfit (line_fault s items now l) f bad)

-- the rows now entered are those of the lines read
rows_read : (s : Spelling) (items : ℕ) (p : Place) (ls : List (List ℕ)) (rows : List Row) (q : Place) (ms : List (List ℕ)) (now : List Row) → Loads s items p ls rows q ms now
    → now ≡ rows ++ take (q.line - p.line) (rows_in s (body ls))
rows_read s items p ls rows q ms now g =
    sym (take-append_seam now (rows_in s (body ms))) ∙ ap (take (length now)) g.all ∙ ap (λ n. take n (rows ++ rows_in s (body ls))) g.many
    ∙ take-append-add rows (rows_in s (body ls)) (q.line - p.line)

-- where a load that is refused at a line has come to
pub stopped : (s : Spelling) (items : ℕ) (p : Place) (ls : List (List ℕ)) (rows : List Row) (q : Place) (ms ns : List (List ℕ)) (now : List Row) (l : List ℕ) → Loads s items p ls rows q ms now → ms ≡ l ∷ ns
    → (new : List Row) (q' : Place) (f : LineFault) → new ≡ now → q' ≡ onward q → Loaded (Err (record { place = q'; fault = f })) (rows_in s (body ls)) p ls rows q' ns new
stopped s items p ls rows q ms ns now l g e new q' f same on =
    let k : q.line - p.line ≡ q'.line - p.line - 1 = omega (arith, ap (λ x. x.line) on) in (
      refl,
      one_read p q ls ms ns l g.from g.read e ∙ ap (λ x. drop (x.line - p.line) ls) (sym on),
      same ∙ rows_read s items p ls rows q ms now g ∙ ap (λ n. rows ++ take n (rows_in s (body ls))) k,
    )
