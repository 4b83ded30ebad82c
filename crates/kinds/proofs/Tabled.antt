-- The right composition table of a layout, computed: the checker holds a constant of the code against it, so that no table is written twice.
use Rattle.std.proofs.Common.{◌≡◌, ℕ, ◌+◌, ◌<◌, ◌≤◌, T, Bool, List, [], get_or, ap, ◌∙◌, inl, inr}
use Rattle.std.proofs.lemmas.List.{get_or_past}
use Rattle.std.proofs.lemmas.Bool.{cases_lt}
use Rattle.points.specs.Sets.{has}
use Rattle.points.proofs.Tabled.{right_table, table_right, listed, length_listed, get_or-listed, set_of}
use Rattle.kinds.specs.declared.table.Row.{Row}
use Rattle.kinds.specs.Layouts.{Layout, fit}
use Rattle.kinds.specs.Tables.{entry}
use Rattle.kinds.proofs.Framed.{fit_beyond, none_fit}

abbrev row : (l : Layout) → ℕ → Row l.codes
row l c = record { masks = listed 0 l.codes (λ d. set_of (fit l c d) l.codes) }

abbrev pub rows : (l : Layout) → List (Row l.codes)
rows l = listed 0 l.codes (row l)

-- every set of the table has the codes that fit
abbrev pub table_test : Layout → Bool
table_test l = right_table l.codes (fit l) (entry (rows l))

module _ (l : Layout) where
  -- a number that is no code has an empty set
  no_first : (c d : ℕ) → l.codes ≤ c → entry (rows l) c d ≡ 0
  no_first c d h = ap (λ (r : Row l.codes). get_or r.masks d 0) (get_or_past (rows l) c (record { masks = [] }) (simp length_listed h))

  no_second : (c d : ℕ) → c < l.codes → l.codes ≤ d → entry (rows l) c d ≡ 0
  no_second c d h k =
      ap (λ (r : Row l.codes). get_or r.masks d 0) (get_or-listed 0 l.codes (row l) c (record { masks = [] }) h)
      ∙ get_or_past (row l (0 + c)).masks d 0 (simp length_listed k)

  pub entry_fits : T (table_test l) → (c d e : ℕ) → has (entry (rows l) c d) e ≡ fit l c d e
  entry_fits test c d e = elim (cases_lt c l.codes) [
    | inr past ↦ ap (λ (s : ℕ). has s e) (no_first c d past) ∙ none_fit l c d (inl past) e
    | inl first ↦ elim (cases_lt d l.codes) [
      | inr past ↦ ap (λ (s : ℕ). has s e) (no_second c d first past) ∙ none_fit l c d (inr past) e
      | inl second ↦ table_right l.codes (fit l) (entry (rows l)) test (fit_beyond l) c d first second e
    ]
  ]
