-- Entries of published tables that are no letter.
use Rattle.std.proofs.Common.{◌≡◌, ℕ, List, Option, None, MatchOption, sym, subst}
use Rattle.std.specs.List.{Contains}
use Rattle.literature.specs.declared.published.Letter.{Letter}
use Rattle.literature.specs.Relations.{UnionOf}
use Rattle.literature.specs.Letters.{Entered, Named, PartNamed, PartUnread, SomePart, Unnamed, Unread, meant, parts}

module _ (words : List (List ℕ)) (letters : List Letter) (entry : List ℕ) (none : meant letters entry ≡ None) where
  -- the parts are read
  pub entered_parts : (set : ℕ) → UnionOf (PartNamed words letters) (parts entry) set → Entered words letters entry set
  entered_parts set u =
      subst (λ (o : Option (List ℕ)). MatchOption o (UnionOf (PartNamed words letters) (parts entry) set) (λ text. Named words text set)) (sym none) u

  -- a part is not read
  pub unread_at : (part : List ℕ) → Contains (parts entry) part → PartUnread words letters part → Unread words letters entry
  unread_at part i why =
      subst (λ (o : Option (List ℕ)). MatchOption o (SomePart entry (PartUnread words letters)) (λ text. Unnamed words text)) (sym none) (part, i, why)
