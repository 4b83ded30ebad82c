-- Entries of published tables, counted in.
use Rattle.std.proofs.Common.{◌≡◌, ℕ, ◌<◌, eqb, Option, None, Some, Ok, Result, MatchOption, IsErr, Bor, Bool, List, [], Decides, ap, get_or, sym, refl, subst}
use Rattle.std.proofs.lemmas.Bool.{false≢true}
use Rattle.points.specs.Sets.{has}
use Rattle.kinds.specs.Meaning.{Meaning, Fits}
use Rattle.kinds.specs.Composition.{Composition}
use Rattle.literature.specs.declared.published.Letter.{Letter}
use Rattle.literature.specs.declared.published.Entries.{Entries}
use Rattle.literature.specs.declared.published.Turned.{Turned}
use Rattle.literature.specs.declared.comparison.Table.{Table}
use Rattle.literature.specs.declared.comparison.Comparison.{Comparison}
use Rattle.literature.specs.declared.score.Score.{Score}
use Rattle.literature.specs.Letters.{Entered, Unread, meant_code}
use Rattle.literature.specs.Published.{ConverseAgrees, EntriesAgree, EntryAgrees, NeutralAgrees, RowAgrees}
use Rattle.literature.specs.Relations.{Single}
use Rattle.literature.specs.Scores.{score_after}
use Rattle.literature.proofs.Agreeing.{equals_decided}
use Rattle.literature.proofs.Lacking.{Counts, counts_as, counts_one}
use Rattle.literature.proofs.Readings.{entered_decided}

module _ {V : Type 0} (m : Meaning V) (words : List (List ℕ)) (letters : List Letter) (r : ℕ) where
  -- an entry that was read and held is counted in
  pub entry_counted : (column entry : List ℕ) (s : ℕ) → meant_code words letters column ≡ Some s → (old new : Score) (read : Option ℕ) →
      MatchOption read (Unread words letters entry) (λ set. Entered words letters entry set) → (read ≡ None → ⊥) →
      ((set : ℕ) → read ≡ Some set → (agrees : Bool) × Decides agrees (Composition m r s set) × (new ≡ score_after old agrees)) →
      Counts old.lacking new.lacking (EntryAgrees m words letters r column entry)
  entry_counted column entry s is old new None entered some counted = absurd (some refl)
  entry_counted column entry s is old new (Some set) entered some counted =
      let (agrees, decides, after) = counted set refl in
      counts_as old.lacking new.lacking (λ composed. (s, is, set, entered, composed)) back (counts_one old new agrees (Composition m r s set) decides after)
    where
      back : EntryAgrees m words letters r column entry → Composition m r s set
      back (s', is', set', entered', composed) =
          let same : s' ≡ s = cc in
          entered_decided {P = Fits m r s} words letters entry set' set entered' entered (subst (λ (n : ℕ). Composition m r n set') same composed)

  -- an entry by its place in the row
  pub at_place : (rows : List Entries) (entries : List (Bor (List ℕ))) (k : ℕ) (column : Entries) (entry : Bor (List ℕ)) →
      ((d : Entries) → column ≡ get_or rows k d) → ((d : Bor (List ℕ)) → entry ≡ get_or entries k d) → (a b : ℕ) →
      Counts a b (EntryAgrees m words letters r column.letter.now entry.now) →
      Counts a b ((c : Entries) (e : Bor (List ℕ)) → EntryAgrees m words letters r (get_or rows k c).letter.now (get_or entries k e).now)
  at_place rows entries k column entry first second a b = counts_as a b to from
    where
      to : EntryAgrees m words letters r column.letter.now entry.now → (c : Entries) (e : Bor (List ℕ)) →
          EntryAgrees m words letters r (get_or rows k c).letter.now (get_or entries k e).now
      to agrees c e =
          subst (λ (x : Entries). EntryAgrees m words letters r x.letter.now (get_or entries k e).now) (first c)
          (subst (λ (x : Bor (List ℕ)). EntryAgrees m words letters r column.letter.now x.now) (second e) agrees)

      from : ((c : Entries) (e : Bor (List ℕ)) → EntryAgrees m words letters r (get_or rows k c).letter.now (get_or entries k e).now) →
          EntryAgrees m words letters r column.letter.now entry.now
      from all =
          subst (λ (x : Entries). EntryAgrees m words letters r x.letter.now entry.now) (sym (first column))
          (subst (λ (x : Bor (List ℕ)). EntryAgrees m words letters r (get_or rows k column).letter.now x.now) (sym (second entry)) (all column entry))

-- where there is no row
abbrev pub no_row : Entries
no_row = record { letter = record { ref_ptr = (0, 0); now = [] }; entries = record { ref_ptr = (0, 0); now = [] } }

-- what follows from any set that was read
pub read_then : {A : Type 0} (read : Option ℕ) → (read ≡ None → ⊥) → ((set : ℕ) → read ≡ Some set → A) → A
read_then None some so = absurd (some refl)
read_then (Some set) some so = so set refl

module _ {C : ℕ → Type 0} (old new : Comparison) (read : Option ℕ)
    (counted : (set : ℕ) → read ≡ Some set → (agrees : Bool) × Decides agrees (C set) × (new ≡ record old { score = score_after old.score agrees })) where
  -- the score after an entry that was held
  pub held_score : (set : ℕ) → read ≡ Some set → (agrees : Bool) × Decides agrees (C set) × (new.score ≡ score_after old.score agrees)
  held_score set is = let (agrees, decides, after) = counted set is in (agrees, decides, ap (λ (x : Comparison). x.score) after)

  -- the relations met stay
  pub held_met : (read ≡ None → ⊥) → new.met ≡ old.met
  held_met some = read_then read some (λ set is. let (agrees, decides, after) = counted set is in ap (λ (x : Comparison). x.met) after)

-- the code of a letter that was read
pub code_read : {E : Type 0} (o : Option ℕ) (s : ℕ) (read : Result ℕ E) → MatchOption o (IsErr read) (λ code. read ≡ Ok code) → read ≡ Ok s → o ≡ Some s
code_read {E} None s read h is = absurd (false≢true (subst (λ (x : Result ℕ E). IsErr x) is h))
code_read (Some code) s read h is = cc

-- the entries of a row whose letter was read
pub row_counted : {V : Type 0} (m : Meaning V) (words : List (List ℕ)) (table : Table) (row : Entries) (r : ℕ) →
    meant_code words table.letters.0.now row.letter.now ≡ Some r → (a b : ℕ) →
    Counts a b (EntriesAgree m words table r row.entries.now) → Counts a b (RowAgrees m words table row)
row_counted m words table row r is a b = counts_as a b (λ agree. (r, is, agree)) back
  where
    back : RowAgrees m words table row → EntriesAgree m words table r row.entries.now
    back (r', is', agree) = let same : r' ≡ r = cc in subst (λ (n : ℕ). EntriesAgree m words table n row.entries.now) same agree

-- a converse that was read and held is counted in
pub converse_counted : {V : Type 0} (m : Meaning V) (words : List (List ℕ)) (letters : List Letter) (turned : Turned) (r c ours : ℕ) →
    meant_code words letters turned.0.now ≡ Some r → c ≡ m.converse r → Single c ours → (old new : Score) (read : Option ℕ) →
    MatchOption read (Unread words letters turned.1.now) (λ set. Entered words letters turned.1.now set) → (read ≡ None → ⊥) →
    ((set : ℕ) → read ≡ Some set → new ≡ score_after old (eqb ours set)) → Counts old.lacking new.lacking (ConverseAgrees m words letters turned)
converse_counted m words letters turned r c ours is turns single old new None entered some counted = absurd (some refl)
converse_counted m words letters turned r c ours is turns single old new (Some set) entered some counted =
    counts_as old.lacking new.lacking (λ one. (r, is, set, entered, one)) back
    (counts_one old new (eqb ours set) (Single (m.converse r) set) (equals_decided {P = λ e. (e ≡ m.converse r) × (m.converse r < 64)} ours set own) (counted set refl))
  where
    own : Single (m.converse r) ours
    own = subst (λ (n : ℕ). Single n ours) turns single

    back : ConverseAgrees m words letters turned → Single (m.converse r) set
    back (r', is', set', entered', one) =
        let same : r' ≡ r = cc in
        entered_decided {P = λ e. (e ≡ m.converse r) × (m.converse r < 64)} words letters turned.1.now set' set entered' entered (subst (λ (n : ℕ). Single (m.converse n) set') same one)

-- what an entry that was read and held says of its set is counted in
pub set_counted : {P : ℕ → Type 0} → (words : List (List ℕ)) (letters : List Letter) (entry : List ℕ) (old new : Score) (read : Option ℕ) →
    MatchOption read (Unread words letters entry) (λ set. Entered words letters entry set) → (read ≡ None → ⊥) →
    ((set : ℕ) → read ≡ Some set → (agrees : Bool) × Decides agrees ((e : ℕ) → Decides (has set e) (P e)) × (new ≡ score_after old agrees)) →
    Counts old.lacking new.lacking ((set : ℕ) × Entered words letters entry set × ((e : ℕ) → Decides (has set e) (P e)))
set_counted words letters entry old new None entered some counted = absurd (some refl)
set_counted {P} words letters entry old new (Some set) entered some counted =
    let (agrees, decides, after) = counted set refl in
    counts_as old.lacking new.lacking (λ decided. (set, entered, decided))
    (λ other. let (set', entered', decided) = other in entered_decided {P = P} words letters entry set' set entered' entered decided)
    (counts_one old new agrees ((e : ℕ) → Decides (has set e) (P e)) decides after)

-- the two compositions with i of a base relation that was read
pub neutral_counted : {V : Type 0} (m : Meaning V) (words : List (List ℕ)) (letters : List Letter) (i r : ℕ) (letter : List ℕ) → meant_code words letters letter ≡ Some r →
    (a b c : ℕ) → Counts a b ((set : ℕ) × Entered words letters letter set × Composition m i r set) →
    Counts b c ((set : ℕ) × Entered words letters letter set × Composition m r i set) → Counts a c (NeutralAgrees m words letters i letter)
neutral_counted m words letters i r letter is a b c before after = (forth, back)
  where
    forth : c ≡ 0 → (a ≡ 0) × NeutralAgrees m words letters i letter
    forth zero =
        let (none, (set', entered', right)) = after.0 zero in
        let (first, (set, entered, left)) = before.0 none in
        (first, (r, is, set, entered, left, entered_decided {P = Fits m r i} words letters letter set' set entered' entered right))

    back : (a ≡ 0) × NeutralAgrees m words letters i letter → c ≡ 0
    back (zero, (r', is', set, entered, left, right)) =
        let same : r' ≡ r = cc in
        after.1 (before.1 (zero, (set, entered, subst (λ (n : ℕ). Composition m i n set) same left)), (set, entered, subst (λ (n : ℕ). Composition m n i set) same right))
