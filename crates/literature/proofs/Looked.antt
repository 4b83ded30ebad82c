-- Entries of tables, looked up by two letters.
use Rattle.std.proofs.Common.{◌≡◌, ℕ, Option, None, Some, MatchOption, Bor, List, ◌∙◌, ap, sym, subst}
use Rattle.std.specs.Prelude.{find, option_and_then, position, slice_get}
use Rattle.std.specs.Str.{bytes_eq}
use Rattle.literature.specs.declared.published.Entries.{Entries}
use Rattle.literature.specs.declared.comparison.Table.{Table}
use Rattle.literature.specs.Letters.{Entered, Unread}
use Rattle.literature.specs.Published.{Composes, Uncomposed, entry_at}

module _ (table : Table) (first second : List ℕ) where
  -- the entry by its row and the place of its column
  pub entry_of : (row : Entries) (k : ℕ) → find (λ row. bytes_eq row.letter.now first) table.rows.now ≡ Some row →
      position (λ column. bytes_eq column.letter.now second) table.rows.now ≡ Some k → entry_at table first second ≡ slice_get row.entries.now k
  entry_of row k is at =
      ap (option_and_then (λ (row : Entries). option_and_then (λ k. slice_get row.entries.now k) (position (λ column. bytes_eq column.letter.now second) table.rows.now))) is
      ∙ ap (option_and_then (λ k. slice_get row.entries.now k)) at

  -- the entry is read
  pub entry_read : (words : List (List ℕ)) (read : Option ℕ) (entry : Bor (List ℕ)) → entry_at table first second ≡ Some entry →
      MatchOption read (Unread words table.letters.0.now entry.now) (λ set. Entered words table.letters.0.now entry.now set) →
      MatchOption read (Uncomposed words table first second) (λ set. Composes words table first second set)
  entry_read words None entry is unread =
      subst (λ (o : Option (Bor (List ℕ))). MatchOption o (Unit {0}) (λ entry. Unread words table.letters.0.now entry.now)) (sym is) unread
  entry_read words (Some set) entry is entered = (entry, is, entered)
