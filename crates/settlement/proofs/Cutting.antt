-- Of a file that is too long the front says as much as the whole.
use Rattle.std.proofs.Common.{◌≡◌, ℕ, ◌≤◌, true, false, List, [], ◌++◌, take, length, Some, None, Option, sym, refl, ap, ◌∙◌, subst, ⊎_elim, arith}
use Rattle.std.specs.Prelude.{IfSome}
use Rattle.std.proofs.lemmas.List.{take_all, length-take}
use Rattle.std.proofs.lemmas.Bool.{cases_Bool, ltb-true, ltb-false, lt-ltb}
use Rattle.std.specs.List.{All}
use Rattle.files.specs.declared.fault.LineFault.TheVariants.{TooLong}
use Rattle.files.specs.Sheets.{nowhere}
use Rattle.files.specs.Views.{too_long}
use Rattle.reports.specs.Lines.{lines_from}
use Rattle.settlement.specs.Output.{fault_of, settled_sheets, reports_in, output_of, fault_text, sheet_report, Reliable, AllReliable}

-- a file that is too long is refused before its first sheet
long_fault : (file : List ℕ) → too_long file ≡ true → fault_of file ≡ Some (nowhere TooLong)
long_fault file h = rw h refl

long_sheets : (file : List ℕ) → too_long file ≡ true → settled_sheets file ≡ []
unfolding settled_sheets
long_sheets file h = rw h refl

-- what holds of the bytes, where they are known
pub if_known : (o : Option (List ℕ)) (P : List ℕ → Type 0) → ((file : List ℕ) → o ≡ Some file → P file) → IfSome o P
if_known (Some file) P f = f file refl
if_known None P f = tt

module _ (file : List ℕ) where
  by_length : {A : Type 0} (f : List ℕ → A) (x : A) → ((g : List ℕ) → too_long g ≡ true → f g ≡ x) → f (take 65537 file) ≡ f file
  by_length f x h = ⊎_elim (λ y. h (take 65537 file) (cut_long y) ∙ sym (h file y)) (λ n. ap f (take_all 65537 file (short n))) (cases_Bool (too_long file))
    where
      cut_long : too_long file ≡ true → too_long (take 65537 file) ≡ true
      cut_long y = lt-ltb _ _ (omega (arith, length-take 65537 file, ltb-true _ _ y))

      short : too_long file ≡ false → length file ≤ 65537
      short n = omega (arith, ltb-false _ _ n)

  pub cut_fault : fault_of (take 65537 file) ≡ fault_of file
  cut_fault = by_length fault_of (Some (nowhere TooLong)) long_fault

  cut_sheets : settled_sheets (take 65537 file) ≡ settled_sheets file
  cut_sheets = by_length settled_sheets [] long_sheets

  pub cut_output : output_of (take 65537 file) ≡ output_of file
  cut_output =
      ap (λ ts. lines_from sheet_report 1 ts ++ fault_text (fault_of (take 65537 file))) cut_sheets
      ∙ ap (λ o. reports_in file ++ fault_text o) cut_fault

  pub cut_reliable : AllReliable (take 65537 file) → AllReliable file
  cut_reliable h = subst (All Reliable) cut_sheets h

-- what is settled is the front of what is read
pub cut_of : (known : Option (List ℕ)) (now front file : List ℕ) → IfSome known (λ all. front ≡ take 65537 all) → now ≡ front → known ≡ Some file → now ≡ take 65537 file
cut_of known now front file h v e = v ∙ subst (λ o. IfSome o (λ all. front ≡ take 65537 all)) e h
