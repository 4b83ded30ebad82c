-- What every call keeps: rows are proper, a search is sound, and each of its steps has moved the cursor on.
use Rattle.std.proofs.Common.{◌≡◌, ℕ, zero, suc, ◌+◌, ◌-◌, ◌<◌, ◌≤◌, Bool, true, ltb, List, [], ◌∷◌, ◌++◌, length, take, set, None, Decides, refl, arith}
use Rattle.std.proofs.lemmas.Bool.{ltb-true}
use Rattle.kinds.specs.Meaning.{Meaning, Laws, Fits, Realisation}
use Rattle.tallies.specs.Joins.{Joining, Monoid, Ranking}
use Rattle.tallies.specs.declared.claim.Claim.{Claim}
use Rattle.rules.specs.declared.row.Row.{Row}
use Rattle.rules.specs.Rows.{no_row, with_struck, with_weight}
use Rattle.rules.specs.Properly.{proper}
use Rattle.rules.specs.Steps.{Rules, Position, total, opening, advance, taken}
use Rattle.rules.specs.Soundness.{Sound, SearchKeeps, rules}
use Rattle.rules.proofs.Properly.{proper_is, proper_push, proper_set, proper_at, sound_weight}
use Rattle.rules.proofs.Soundness.{search_sound}
use Rattle.statements.specs.declared.entry.Entry.{Entry}
use Rattle.statements.specs.declared.fault.Fault.TheVariants.{Full}
use Rattle.statements.specs.Faults.{first_fault}
use Rattle.statements.specs.Drafts.{size_checks, entry_checks, enter_checks, row_of, numbered, is_there, strike_checks, reweigh_checks}
use Rattle.statements.specs.Searches.{search_checks}
use Rattle.statements.proofs.Accepted.{all_pass, in_range_parts, acceptable, sound_entry}
use Rattle.runs.specs.declared.call.Call.{Call}
use Rattle.runs.specs.declared.call.Call.TheVariants.{Size, Enter, Strike, Reweigh, Look, Close, Search, Show, Charge, Reopen}
use Rattle.runs.specs.Models.{Model, drafting, closed, next, after}
use Rattle.runs.proofs.Verdicts.{by_cases, first_part}

-- 1 to 12 items and proper rows
pub record FineRows (n : ℕ) (rows : List Row) : Type 0 where
  pub some : 1 ≤ n
  pub few : n ≤ 12
  pub sound : proper n rows ≡ true

module _ {V C : Type 0} (m : Meaning V) (laws : Laws m) (fit : ℕ → ℕ → ℕ → Bool) (decides : (c d e : ℕ) → Decides (fit c d e) (Fits m c d e))
    (values : ℕ → List ℕ → ℕ → V) (realises : Realisation m values)
    (j : Joining Claim C) (monoid : Monoid j) (at_most : C → C → Bool) (ranking : Ranking j at_most) where
  -- the rules of this kind and this tally
  abbrev pub the_rules : Rules C
  the_rules = rules m fit j at_most

  pub record FineSheet (n : ℕ) (rows : List Row) (s : Position) (steps asked : ℕ) : Type 0 where
    pub fine : FineRows n rows
    pub sound : Sound m the_rules n rows s
    pub paced : steps + 1 ≤ s.cursor
    pub all : s.cursor < total the_rules n → steps ≡ asked

  abbrev pub Fine : Model → Type 0
  Fine (drafting n rows) = FineRows n rows
  Fine (closed n rows s steps asked) = FineSheet n rows s steps asked

  -- Each accepted call of a draft keeps its rows proper.
  sized : (k : ℕ) → first_fault (size_checks k) ≡ None → FineRows k []
  sized k e = let p = in_range_parts 1 12 k (all_pass (size_checks k) e).0 in record { some = p.0; few = p.1; sound = refl }

  entered : (n : ℕ) (rows : List Row) (e : Entry) → FineRows n rows → first_fault (enter_checks m.codes n rows e) ≡ None → FineRows n (rows ++ (row_of m.converse m.codes e ∷ []))
  entered n rows e h none =
      let good = acceptable m.codes n e (first_part (entry_checks m.codes n e) ((ltb (length rows) 256, Full) ∷ []) none) in
      let room = (all_pass (enter_checks m.codes n rows e) none).1.1.1.1.1.0 in
      record {
        some = h.some;
        few = h.few;
        sound = proper_push n rows (row_of m.converse m.codes e) h.sound (ltb-true (length rows) 256 room) (sound_entry m.converse m.codes n e good);
      }

  -- the place of a statement that is there
  place_there : (rows : List Row) (i : ℕ) → is_there rows i ≡ true → i - 1 < length rows
  place_there rows i h = let p = in_range_parts 1 (length rows) i h in omega (arith, p.0, p.1)

  struck : (n : ℕ) (rows : List Row) (i : ℕ) → FineRows n rows → first_fault (strike_checks rows i) ≡ None → FineRows n (set rows (i - 1) (with_struck (numbered rows i)))
  struck n rows i h none = record {
    some = h.some;
    few = h.few;
    sound = proper_set n rows (i - 1) (with_struck (numbered rows i)) h.sound (proper_at n rows (i - 1) no_row (place_there rows i (all_pass (strike_checks rows i) none).0) h.sound);
  }

  reweighed : (n : ℕ) (rows : List Row) (i w : ℕ) → FineRows n rows → first_fault (reweigh_checks rows i w) ≡ None → FineRows n (set rows (i - 1) (with_weight (numbered rows i) w))
  reweighed n rows i w h none =
      let p = all_pass (reweigh_checks rows i w) none in
      let weight = in_range_parts 1 1000 w p.1.1.0 in
      record {
        some = h.some;
        few = h.few;
        sound = proper_set n rows (i - 1) (with_weight (numbered rows i) w) h.sound
            (sound_weight n (numbered rows i) w weight.0 weight.1 (proper_at n rows (i - 1) no_row (place_there rows i p.0) h.sound));
      }

  -- Closing starts a search soundly, and a search of up to k steps keeps it so.
  opens : (n : ℕ) (rows : List Row) → FineRows n rows → Sound m the_rules n rows (opening n)
  opens n rows h = (search_sound m laws fit decides values realises j monoid at_most ranking n rows (proper_is n rows h.sound)).0

  pub searches : (n : ℕ) (rows : List Row) → FineRows n rows → (k : ℕ) (s : Position) → Sound m the_rules n rows s → SearchKeeps m the_rules n rows k s
  searches n rows h = (search_sound m laws fit decides values realises j monoid at_most ranking n rows (proper_is n rows h.sound)).1

  searched : (n : ℕ) (rows : List Row) (s : Position) (steps asked k : ℕ) → FineSheet n rows s steps asked
      → FineSheet n rows (advance the_rules n rows k s) (steps + taken the_rules n rows k s) (asked + k)
  searched n rows s steps asked k h =
      let more = searches n rows h.fine k s h.sound in
      let on = more.on in
      let paced = h.paced in
      record {
        fine = h.fine;
        sound = more.sound;
        paced = omega (arith, on, paced);
        all = λ l. let e₁ = h.all (omega (arith, on, l)) in let e₂ = more.all l in omega (arith, e₁, e₂);
      }

  -- Every call keeps it,
  pub fine_next : (x : Model) (c : Call) → Fine x → Fine (next m the_rules x c)
  fine_next (drafting n rows) (Size k) h = by_cases Fine (size_checks k) (drafting k []) (λ _. drafting n rows) (sized k) (λ f e. h)
  fine_next (drafting n rows) (Enter i) h =
      by_cases Fine (enter_checks m.codes n rows i) (drafting n (rows ++ (row_of m.converse m.codes i ∷ []))) (λ _. drafting n rows) (entered n rows i h) (λ f e. h)
  fine_next (drafting n rows) (Strike i) h =
      by_cases Fine (strike_checks rows i) (drafting n (set rows (i - 1) (with_struck (numbered rows i)))) (λ _. drafting n rows) (struck n rows i h) (λ f e. h)
  fine_next (drafting n rows) (Reweigh i w) h =
      by_cases Fine (reweigh_checks rows i w) (drafting n (set rows (i - 1) (with_weight (numbered rows i) w))) (λ _. drafting n rows) (reweighed n rows i w h) (λ f e. h)
  fine_next (drafting n rows) (Look i) h = h
  fine_next (drafting n rows) Close h = record { fine = h; sound = opens n rows h; paced = omega arith; all = λ _. refl }
  fine_next (drafting n rows) (Search k) h = h
  fine_next (drafting n rows) (Show places) h = h
  fine_next (drafting n rows) (Charge p) h = h
  fine_next (drafting n rows) Reopen h = h
  fine_next (closed n rows s steps asked) (Size k) h = h
  fine_next (closed n rows s steps asked) (Enter i) h = h
  fine_next (closed n rows s steps asked) (Strike i) h = h
  fine_next (closed n rows s steps asked) (Reweigh i w) h = h
  fine_next (closed n rows s steps asked) (Look i) h = h
  fine_next (closed n rows s steps asked) Close h = h
  fine_next (closed n rows s steps asked) (Search k) h =
      by_cases Fine (search_checks k) (closed n rows (advance the_rules n rows k s) (steps + taken the_rules n rows k s) (asked + k)) (λ _. closed n rows s steps asked)
      (λ _. searched n rows s steps asked k h) (λ f e. h)
  fine_next (closed n rows s steps asked) (Show places) h = h
  fine_next (closed n rows s steps asked) (Charge p) h = h
  fine_next (closed n rows s steps asked) Reopen h = h.fine

  -- and so does every list of calls.
  pub fine_after : (x : Model) (calls : List Call) (i : ℕ) → Fine x → Fine (after m the_rules x (take i calls))
  fine_after x calls zero h = h
  fine_after x [] (suc i) h = h
  fine_after x (c ∷ cs) (suc i) h = fine_after (next m the_rules x c) cs i (fine_next x c h)
