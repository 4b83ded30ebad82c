-- How a text is parted into lines, fields and words, and what the cursors over them give.
use Rattle.std.specs.Prelude.{◌≡◌, ℕ, Bool, true, cond, List, [], ◌∷◌, ◌++◌, Some, None, Option, ◌==◌, ◌≢◌}
use Rattle.std.specs.Borrow.{Bor}
use Rattle.std.specs.List.{slice_split, onto_first, AllByRecursion}
use Rattle.files.specs.declared.parts.Parts.{Parts}
use Rattle.files.specs.declared.parts.Lines.{Lines}

-- the parts of a text between the bytes c: always one more than there are such bytes, and any of them may be empty
abbrev pub parted : ℕ → List ℕ → List (List ℕ)
parted c text = slice_split (λ b. b == c) text

-- the lines of a file, each up to a line feed, which the last may lack; after a final line feed there is no further line; a carriage
-- return is a byte of its line, which the `lines` of the library takes away before a line feed
abbrev pub lines : List ℕ → List (List ℕ)
lines [] = []
lines (b ∷ bs) = cond (b == 10) ([] ∷ lines bs) (onto_first b (lines bs))

-- no byte stands after the last line feed: the text is empty, or ends with one
abbrev pub is_ended : List ℕ → Bool
is_ended [] = true
is_ended (b ∷ []) = b == 10
is_ended (b ∷ (c ∷ bs)) = is_ended (c ∷ bs)

-- The lines of a text are its parts between the line feeds, but for the last one where nothing stands in it.
abbrev pub Lined : List ℕ → Type 0
Lined text = parted 10 text ≡ lines text ++ cond (is_ended text) ([] ∷ []) []

-- the fields of a line, parted by single spaces; an empty line has one field, which is empty
abbrev pub fields : List ℕ → List (List ℕ)
fields line = parted 32 line

-- the byte c stands nowhere in a text
abbrev pub Lacks : ℕ → List ℕ → Type 0
Lacks c bs = AllByRecursion (λ b. b ≢ c) bs

-- a text at its first c: what stands before it, and what after it; or that there is none
abbrev pub Split : ℕ → List ℕ → List ℕ → Option (Bor (List ℕ)) → Type 0
Split c text front (Some rest) = Lacks c front × (text ≡ front ++ (c ∷ rest.now))
Split c text front None = Lacks c text × (text ≡ front)

-- the parts that a cursor has still to give
abbrev pub left : Parts → List (List ℕ)
left p = elim p.rest [ Some r ↦ parted p.by r.now | None ↦ [] ]

-- a cursor gives the first of the lines that were left, or there was none
abbrev pub GivesLine : Lines → Option (Bor (List ℕ)) → Lines → Type 0
GivesLine old (Some l) new = lines old.rest.now ≡ l.now ∷ lines new.rest.now
GivesLine old None new = (lines old.rest.now ≡ []) × (new ≡ old)
