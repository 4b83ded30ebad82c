-- The lines of entries and tables.
use Rattle.std.proofs.Common.{◌≡◌, ℕ, ◌<◌, ◌+◌, Bool, true, false, cond, List, [], ◌∷◌, ◌++◌, Option, Some, MatchOption, Result, Ok, Err, IfOk, OnOk, get_or, ap, sym, refl, subst, ◌∙◌, inl, inr, append_assoc, append-nil, arith}
use Rattle.std.proofs.Math.Seq.{get_or-append_seam}
use Rattle.std.proofs.lemmas.Bool.{cases_order}
use Rattle.std.proofs.lemmas.Grind.{flat_map-append}
use Rattle.std.proofs.lemmas.List.{get_or_append_left, length_push, map-append}
use Rattle.std.specs.Io.KnownBytes.{Appends}
use Rattle.std.specs.List.{flat_map}
use Rattle.literature.specs.Held.{AtEach, CountedIn, Entry, agreeing, agrees, differing, differs_line, entry_lines, joined, table_line, table_lines}
use Rattle.literature.specs.Letters.{Entered, Unread}
use Rattle.literature.specs.Published.{ComposesByParts, UncomposedByParts}
use Rattle.literature.specs.Scores.{score_after, score_of}
use Rattle.literature.specs.declared.literature.Chart.{Chart}
use Rattle.literature.specs.declared.published.Direction.{Direction}
use Rattle.literature.specs.declared.published.Letter.{Letter}
use Rattle.literature.specs.declared.score.Score.{Score}
use Rattle.literature.proofs.Printing.{appends_as, appends_more, appends_none}
use Rattle.literature.proofs.Scored.{score_more}

-- an entry that differs has its line
pub differs_shown : (words : List (List ℕ)) (letter : ℕ) (e : Entry) → agrees e ≡ false → differs_line words letter e ≡ entry_lines words letter e
differs_shown words letter e h = ap (λ (b : Bool). cond b [] (differs_line words letter e)) (sym h)

-- one that agrees has none
pub agrees_shown : (words : List (List ℕ)) (letter : ℕ) (e : Entry) → agrees e ≡ true → [] ≡ entry_lines words letter e
agrees_shown words letter e h = ap (λ (b : Bool). cond b [] (differs_line words letter e)) (sym h)

-- one more item
pub at_each_more : {A : Type 0} (P : ℕ → A → Type 0) (n : ℕ) (xs : List A) (x : A) → AtEach P n xs → P n x → AtEach P (n + 1) (xs ++ (x ∷ []))
at_each_more {A} P n xs x (long, at) here = (length_push xs x ∙ ap (λ (m : ℕ). m + 1) long, each)
  where
    each : (k : ℕ) → k < n + 1 → (d : A) → P k (get_or (xs ++ (x ∷ [])) k d)
    each k l d = elim (cases_order k n) [
      | inl same ↦ (let is : get_or (xs ++ (x ∷ [])) k d ≡ x = ap (λ (i : ℕ). get_or (xs ++ (x ∷ [])) i d) (same ∙ sym long) ∙ get_or-append_seam xs x [] d in
          subst (P k) (sym is) (subst (λ (i : ℕ). P i x) (sym same) here))
      | inr (inl less) ↦ (let is : get_or (xs ++ (x ∷ [])) k d ≡ get_or xs k d = get_or_append_left xs (x ∷ []) d k (omega (arith, less, long)) in
          subst (P k) (sym is) (at k less d))
      | inr (inr more) ↦ absurd (omega (arith, l, more))
    ]

-- what a list's last item gives comes last
pub given_last : {A B : Type 0} (f : A → List B) (xs : List A) (x : A) → flat_map f (xs ++ (x ∷ [])) ≡ flat_map f xs ++ f x
given_last f xs x = flat_map-append f xs (x ∷ []) ∙ ap (λ t. flat_map f xs ++ t) (append-nil (f x))

module _ (words : List (List ℕ)) (letter : ℕ) (start : Score) where
  -- the entries so far: each in its place, counted in, and printed where it differs
  abbrev pub HeldBelow : (ℕ → Entry → Type 0) → ℕ → Score → Option (List ℕ) → Option (List ℕ) → Type 0
  HeldBelow P n score a b = (es : List Entry) × AtEach P n es × CountedIn start (agreeing es) score × Appends a b (flat_map (entry_lines words letter) es)

  -- the rows so far
  abbrev pub RowsBelow : (ℕ → List Entry → Type 0) → ℕ → Score → Option (List ℕ) → Option (List ℕ) → Type 0
  RowsBelow P n score a b =
      (ess : List (List Entry)) × AtEach P n ess × CountedIn start (agreeing (joined ess)) score × Appends a b (flat_map (entry_lines words letter) (joined ess))

  pub none_held : (P : ℕ → Entry → Type 0) (a : Option (List ℕ)) → HeldBelow P 0 start a a
  none_held P a = ([], (refl, λ k l d. absurd (omega (arith, l))), λ before was. was ∙ ap score_of (sym (append-nil before)), appends_none a)

  pub no_rows : (P : ℕ → List Entry → Type 0) (a : Option (List ℕ)) → RowsBelow P 0 start a a
  no_rows P a = ([], (refl, λ k l d. absurd (omega (arith, l))), λ before was. was ∙ ap score_of (sym (append-nil before)), appends_none a)

  pub held_more : (P : ℕ → Entry → Type 0) (n : ℕ) (old new : Score) (a b c : Option (List ℕ)) (e : Entry) → HeldBelow P n old a b → P n e →
      new ≡ score_after old (agrees e) → Appends b c (entry_lines words letter e) → HeldBelow P (n + 1) new a c
  held_more P n old new a b c e (es, at, counted, printed) here is more = (
    es ++ (e ∷ []),
    at_each_more P n es e at here,
    λ before was.
        score_more (before ++ agreeing es) (agrees e) old new (counted before was) is
        ∙ ap score_of (append_assoc before (agreeing es) (agrees e ∷ []) ∙ ap (λ t. before ++ t) (sym (map-append agrees es (e ∷ [])))),
    appends_as a c (sym (given_last (entry_lines words letter) es e)) (appends_more a b c _ _ printed more),
  )

  pub rows_more : (P : ℕ → List Entry → Type 0) (n : ℕ) (old new : Score) (a b c : Option (List ℕ)) (es : List Entry) → RowsBelow P n old a b → P n es →
      CountedIn old (agreeing es) new → Appends b c (flat_map (entry_lines words letter) es) → RowsBelow P (n + 1) new a c
  rows_more P n old new a b c es (ess, at, counted, printed) here is more =
      let last : joined (ess ++ (es ∷ [])) ≡ joined ess ++ es = given_last (λ (es : List Entry). es) ess es in (
        ess ++ (es ∷ []),
        at_each_more P n ess es at here,
        λ before was.
            is (before ++ agreeing (joined ess)) (counted before was)
            ∙ ap score_of (append_assoc before (agreeing (joined ess)) (agreeing es) ∙ ap (λ t. before ++ t) (sym (ap agreeing last ∙ map-append agrees (joined ess) es))),
        appends_as a c (sym (ap (flat_map (entry_lines words letter)) last ∙ flat_map-append (entry_lines words letter) (joined ess) es)) (appends_more a b c _ _ printed more),
      )

-- the set that an entry that was read stands for
pub entry_read : (words : List (List ℕ)) (letters : List Letter) (text : List ℕ) (read : Option ℕ) (set : ℕ) →
    MatchOption read (Unread words letters text) (λ set. Entered words letters text set) → read ≡ Some set → Entered words letters text set
entry_read words letters text read set h is = subst (λ (o : Option ℕ). MatchOption o (Unread words letters text) (λ set. Entered words letters text set)) is h

-- the lines of a table, from those of its entries and its own
pub table_printed : {E : Type 0} (words : List (List ℕ)) (letter : ℕ) (name : List ℕ) (es : List Entry) (start score : Score) (a b c : Option (List ℕ)) (answer : Result ℕ E) →
    start ≡ score_of [] → CountedIn start (agreeing es) score → Appends a b (flat_map (entry_lines words letter) es) → IfOk answer (λ lacking. lacking ≡ score.lacking) →
    OnOk answer ((tests : List Bool) → score ≡ score_of tests → Appends b c (table_line letter name tests)) →
    IfOk answer (λ differ. (differ ≡ differing es) × Appends a c (table_lines words letter name es))
table_printed words letter name es start score a b c (Ok n) none counted printed lacking line =
    let is = counted [] none in
    (lacking ∙ ap (λ (s : Score). s.lacking) is, appends_more a b c _ _ printed (line (agreeing es) is))
table_printed words letter name es start score a b c (Err e) none counted printed lacking line = tt

-- the score before any test
pub score_none : (s : Score) → s.stand ≡ 0 → s.lacking ≡ 0 → s ≡ score_of []
score_none s stand lacking = λ i. record { stand = stand i; lacking = lacking i }

-- one entry, and one before others
pub counted_one : (e : Entry) (old new : Score) → new ≡ score_after old (agrees e) → CountedIn old (agreeing (e ∷ [])) new
counted_one e old new is before was = score_more before (agrees e) old new was is

pub counted_first : (e : Entry) (es : List Entry) (old mid new : Score) → mid ≡ score_after old (agrees e) → CountedIn mid (agreeing es) new → CountedIn old (agreeing (e ∷ es)) new
counted_first e es old mid new is rest before was =
    rest (before ++ (agrees e ∷ [])) (score_more before (agrees e) old mid was is) ∙ ap score_of (append_assoc before (agrees e ∷ []) (agreeing es))

-- the lines of two entries
pub two_printed : (words : List (List ℕ)) (letter : ℕ) (e f : Entry) (a b c : Option (List ℕ)) → Appends a b (entry_lines words letter e) → Appends b c (entry_lines words letter f) →
    Appends a c (flat_map (entry_lines words letter) (e ∷ f ∷ []))
two_printed words letter e f a b c first second = appends_more a b c _ _ first (appends_as b c (sym (append-nil (entry_lines words letter f))) second)

-- the composition of two directions that was found
pub parts_read : (chart : Chart) (first second : Direction) (read : Option ℕ) (set : ℕ) →
    MatchOption read (UncomposedByParts chart first second) (λ set. ComposesByParts chart first second set) → read ≡ Some set → ComposesByParts chart first second set
parts_read chart first second read set h is =
    subst (λ (o : Option ℕ). MatchOption o (UncomposedByParts chart first second) (λ set. ComposesByParts chart first second set)) is h
