-- The kind of spells, as two marks on one axis, and its words.
use Rattle.std.specs.Prelude.{ℕ, zero, suc, ◌<◌, List, [], ◌∷◌, map, codes, slice_index_or}
use Prim.Native.Nat.{Ordering}
use Rattle.kinds.specs.Meaning.{Meaning}
use Rattle.kinds.specs.Layouts.{Layout, rank_on}
use Rattle.spells.specs.declared.spell.Spell.{Spell}
use Rattle.spells.specs.Relations.{Lawful, Holds, relations, coded, code, related, Ends, ends}

-- The kind of spells: the thirteen base relations of Allen's interval algebra. A spell is lawful that starts before it ends.
abbrev pub spells : Meaning Spell
spells = record {
  codes = 13;
  lawful = Lawful;
  holds = λ c u v. (c < 13) × Holds (coded c) u v;
  relation = λ u v. code (related u v);
  converse = λ c. slice_index_or (0 ∷ 2 ∷ 1 ∷ 4 ∷ 3 ∷ 6 ∷ 5 ∷ 8 ∷ 7 ∷ 10 ∷ 9 ∷ 12 ∷ 11 ∷ []) c c;
}

-- mark 0 of a spell is its start, mark 1 its end
abbrev pub pick : Ends → ℕ → ℕ → Ordering
pick q zero zero = q.0
pick q zero (suc t) = q.1
pick q (suc s) zero = q.2
pick q (suc s) (suc t) = q.3

-- under a number that is no code all ends are level
abbrev pub level : Ends
level = (Ordering.eq, Ordering.eq, Ordering.eq, Ordering.eq)

-- how mark s of the first spell stands to mark t of the second under a code
abbrev pub side : ℕ → ℕ → ℕ → Ordering
side c s t = pick (slice_index_or (map ends relations) c level) s t

-- a spell is two marks on one line
abbrev pub timeline : Layout
timeline = record { codes = 13; axes = 1; marks = 2; side = λ a c s t. side c s t }

-- each end of a spell is written as how many of all items' starts and ends lie strictly before it
abbrev pub spell : ℕ → List ℕ → ℕ → Spell
spell n scenario i = record { start = rank_on timeline n scenario i 0 0; end = rank_on timeline n scenario i 0 1 }

-- eq p pi m mi o oi s si d di f fi
abbrev pub spell_words : List (List ℕ)
spell_words = codes "eq" ∷ codes "p" ∷ codes "pi" ∷ codes "m" ∷ codes "mi" ∷ codes "o" ∷ codes "oi" ∷ codes "s" ∷ codes "si" ∷ codes "d" ∷ codes "di" ∷ codes "f" ∷ codes "fi" ∷ []
