-- What the checks of an entry say once they have all passed, and that its row is then proper.
use Rattle.std.proofs.Common.{◌≡◌, ℕ, ◌-◌, ◌<◌, ◌≤◌, Bool, true, false, cond, eqb, ltb, leb, List, [], ◌∷◌, Some, None, sym, refl, ◌∙◌, inl, inr, arith}
use Rattle.std.specs.List.{AllByRecursion as Every}
use Rattle.std.proofs.lemmas.Bool.{and_parts, cases_Bool, cond-true, cond-false, leb-true, ltb-true, ltb-false, eqb-false, not-true}
use Rattle.statements.specs.declared.entry.Entry.{Entry}
use Rattle.statements.specs.Faults.{Check, first_fault}
use Rattle.std.specs.Int.{is_in_range}
use Rattle.statements.specs.Drafts.{entry_checks, row_of}
use Rattle.rules.proofs.Properly.{Sound, sound_from}

-- where no check is the first to fail, all pass
pub all_pass : (cs : List Check) → first_fault cs ≡ None → Every (λ (c : Check). c.0 ≡ true) cs
all_pass [] h = tt
all_pass (c ∷ cs) h = elim (cases_Bool c.0) [
  | inl t ↦ (t, all_pass cs (sym (cond-true c.0 (first_fault cs) (Some c.1) t) ∙ h))
  | inr f ↦ absurd (failed (sym (cond-false c.0 (first_fault cs) (Some c.1) f) ∙ h))
]
  where
    failed : Some c.1 ≡ None → ⊥
    failed e = let z : ◌≡◌ {A = ℕ} 0 1 = cc in omega arith

pub in_range_parts : (low high x : ℕ) → is_in_range low high x ≡ true → (low ≤ x) × (x ≤ high)
in_range_parts low high x h =
    let p = and_parts (leb low x) (leb x high) h in
    (leb-true low x p.0, leb-true x high p.1)

-- an entry that may be appended
pub record Acceptable (items : ℕ) (e : Entry) : Type 0 where
  pub first : (1 ≤ e.first) × (e.first ≤ items)
  pub second : (1 ≤ e.second) × (e.second ≤ items)
  pub apart : e.first ≡ e.second → ⊥
  pub weight : (1 ≤ e.weight) × (e.weight ≤ 1000)
  pub person : (1 ≤ e.person) × (e.person ≤ 20)

pub acceptable : (codes items : ℕ) (e : Entry) → first_fault (entry_checks codes items e) ≡ None → Acceptable items e
acceptable codes items e h =
    let p = all_pass (entry_checks codes items e) h in
    let both = and_parts (is_in_range 1 items e.first) (is_in_range 1 items e.second) p.0 in
    record {
      first = in_range_parts 1 items e.first both.0;
      second = in_range_parts 1 items e.second both.1;
      apart = eqb-false e.first e.second (not-true (eqb e.first e.second) p.1.0);
      weight = in_range_parts 1 1000 e.weight p.1.1.1.0;
      person = in_range_parts 1 20 e.person p.1.1.1.1.0;
    }

-- of two unlike items, counted from 1, the lower is put first
lower_first : (f s n : ℕ) → 1 ≤ f → f ≤ n → 1 ≤ s → s ≤ n → (f ≡ s → ⊥) → (b : Bool) → ltb f s ≡ b →
    (cond b (f - 1) (s - 1) < cond b (s - 1) (f - 1)) × (cond b (s - 1) (f - 1) < n)
lower_first f s n f1 fn s1 sn apart true t = let l = ltb-true f s t in (omega arith, omega arith)
lower_first f s n f1 fn s1 sn apart false t = let l = ltb-false f s t in (omega arith, omega arith)

-- the row of such an entry is proper
pub sound_entry : (conv : ℕ → ℕ) (codes items : ℕ) (e : Entry) → Acceptable items e → Sound items (row_of conv codes e)
sound_entry conv codes items e a =
    let pair = lower_first e.first e.second items a.first.0 a.first.1 a.second.0 a.second.1 a.apart (ltb e.first e.second) refl in
    sound_from items (row_of conv codes e) (record {
      ordered = pair.0;
      within = pair.1;
      some_weight = a.weight.0;
      most_weight = a.weight.1;
      some_person = a.person.0;
      most_person = a.person.1;
    })
