-- The rows of a draft stay proper when one is appended or replaced, and each of them is proper.
use Rattle.std.proofs.Common.{◌≡◌, ℕ, ◌<◌, ◌≤◌, true, ltb, leb, List, [], ◌∷◌, ◌++◌, length, get_or, set, sym, refl, subst, arith}
use Rattle.std.specs.List.{AllByRecursion as Every}
use Rattle.std.proofs.lemmas.List.{length-set, length_push}
use Rattle.rules.proofs.Elements.{All-push, All-set, All-weaker}
use Rattle.std.proofs.lemmas.List.Elements.{All-from_recursion}
use Rattle.std.proofs.lemmas.Bool.{and_parts, and_from, le-leb, lt-ltb, leb-true, ltb-true}
use Rattle.rules.specs.declared.row.Row.{Row}
use Rattle.rules.specs.Rows.{Proper, with_weight}
use Rattle.std.specs.Int.{is_in_range}
use Rattle.rules.specs.Properly.{row_proper, all_proper, proper}

-- a row is proper
abbrev pub Sound : ℕ → Row → Type 0
Sound n r = row_proper n r ≡ true

-- what a proper row has, in numbers
pub record Measured (n : ℕ) (r : Row) : Type 0 where
  pub ordered : r.low < r.high
  pub within : r.high < n
  pub some_weight : 1 ≤ r.weight
  pub most_weight : r.weight ≤ 1000
  pub some_person : 1 ≤ r.person
  pub most_person : r.person ≤ 20

pub measured : (n : ℕ) (r : Row) → Sound n r → Measured n r
measured n r h =
    let a = and_parts (ltb r.low r.high) _ h in
    let b = and_parts (ltb r.high n) _ a.1 in
    let c = and_parts (is_in_range 1 1000 r.weight) (is_in_range 1 20 r.person) b.1 in
    let d = and_parts (leb 1 r.weight) (leb r.weight 1000) c.0 in
    let e = and_parts (leb 1 r.person) (leb r.person 20) c.1 in
    record {
      ordered = ltb-true _ _ a.0;
      within = ltb-true _ _ b.0;
      some_weight = leb-true _ _ d.0;
      most_weight = leb-true _ _ d.1;
      some_person = leb-true _ _ e.0;
      most_person = leb-true _ _ e.1;
    }

pub sound_from : (n : ℕ) (r : Row) → Measured n r → Sound n r
sound_from n r m =
    and_from _ _ (lt-ltb r.low r.high m.ordered) (and_from _ _ (lt-ltb r.high n m.within)
    (and_from _ _
    (and_from _ _ (le-leb 1 r.weight m.some_weight) (le-leb r.weight 1000 m.most_weight))
    (and_from _ _ (le-leb 1 r.person m.some_person) (le-leb r.person 20 m.most_person))))

-- and it stays proper when it is given another weight from 1 to 1,000
pub sound_weight : (n : ℕ) (r : Row) (w : ℕ) → 1 ≤ w → w ≤ 1000 → Sound n r → Sound n (with_weight r w)
sound_weight n r w some most h =
    let a = measured n r h in
    sound_from n (with_weight r w) (record {
      ordered = a.ordered;
      within = a.within;
      some_weight = some;
      most_weight = most;
      some_person = a.some_person;
      most_person = a.most_person;
    })

-- rows are proper exactly where there are at most 256 and each is

pub each_sound : (n : ℕ) (rows : List Row) → all_proper n rows ≡ true → Every (Sound n) rows
each_sound n [] h = tt
each_sound n (r ∷ rs) h = let p = and_parts (row_proper n r) (all_proper n rs) h in (p.0, each_sound n rs p.1)

pub from_each : (n : ℕ) (rows : List Row) → Every (Sound n) rows → all_proper n rows ≡ true
from_each n [] h = refl
from_each n (r ∷ rs) h = and_from (row_proper n r) (all_proper n rs) h.0 (from_each n rs h.1)

pub few_rows : (n : ℕ) (rows : List Row) → proper n rows ≡ true → length rows ≤ 256
few_rows n rows h = leb-true (length rows) 256 (and_parts (leb (length rows) 256) (all_proper n rows) h).0

pub sound_rows : (n : ℕ) (rows : List Row) → proper n rows ≡ true → Every (Sound n) rows
sound_rows n rows h = each_sound n rows (and_parts (leb (length rows) 256) (all_proper n rows) h).1

pub proper_from : (n : ℕ) (rows : List Row) → length rows ≤ 256 → Every (Sound n) rows → proper n rows ≡ true
proper_from n rows few each =
    and_from (leb (length rows) 256) (all_proper n rows) (le-leb (length rows) 256 few) (from_each n rows each)

-- one row more
pub proper_push : (n : ℕ) (rows : List Row) (r : Row) → proper n rows ≡ true → length rows < 256 → Sound n r → proper n (rows ++ r ∷ []) ≡ true
proper_push n rows r h few sound =
    proper_from n (rows ++ r ∷ []) (let more = length_push rows r in omega arith) (All-push (Sound n) rows r (sound_rows n rows h) sound)

-- one row replaced
pub proper_set : (n : ℕ) (rows : List Row) (i : ℕ) (r : Row) → proper n rows ≡ true → Sound n r → proper n (set rows i r) ≡ true
proper_set n rows i r h sound =
    proper_from n (set rows i r) (let same = length-set rows i r in let few = few_rows n rows h in omega arith)
    (All-set (Sound n) rows i r sound (sound_rows n rows h))

-- one row read
pub proper_at : (n : ℕ) (rows : List Row) (i : ℕ) (d : Row) → i < length rows → proper n rows ≡ true → Sound n (get_or rows i d)
proper_at n rows i d l h = All-from_recursion (Sound n) rows (sound_rows n rows h) i d l

-- the same of a row that was read
pub proper_read : (n : ℕ) (rows : List Row) (i : ℕ) (r : Row) → i < length rows → r ≡ get_or rows i r → proper n rows ≡ true → Sound n r
proper_read n rows i r l e h = subst (λ (x : Row). Sound n x) (sym e) (proper_at n rows i r l h)

-- proper rows, as the search wants them
pub proper_is : (n : ℕ) (rows : List Row) → proper n rows ≡ true → Proper n rows
proper_is n rows h = record {
  few = few_rows n rows h;
  items = All-weaker (Sound n) (λ (r : Row). (r.low < r.high) × (r.high < n)) (λ r s. let m = measured n r s in (m.ordered, m.within)) rows (sound_rows n rows h);
  persons = All-weaker (Sound n) (λ (r : Row). (1 ≤ r.person) × (r.person ≤ 20)) (λ r s. let m = measured n r s in (m.some_person, m.most_person)) rows (sound_rows n rows h);
}
