-- Sets of base relations of a kind, as bits: sets of one, converses and compositions.
use Rattle.std.specs.Prelude.{◌≡◌, ℕ, ◌<◌, true, Decides, List}
use Rattle.std.specs.List.{Contains}
use Rattle.points.specs.Sets.{has}
use Rattle.kinds.specs.Meaning.{Meaning, Fits}

-- The set has the code c alone, or nothing where c is 64 or more.
abbrev pub Single : ℕ → ℕ → Type 0
Single c set = (e : ℕ) → Decides (has set e) ((e ≡ c) × (c < 64))

-- The set has exactly the codes of the kind.
abbrev pub Whole : {V : Type 0} → Meaning V → ℕ → Type 0
Whole m set = (e : ℕ) → Decides (has set e) (e < m.codes)

-- e is the converse of c, and below 64.
abbrev pub Turns : {V : Type 0} → Meaning V → ℕ → ℕ → Type 0
Turns m c e = (e ≡ m.converse c) × (m.converse c < 64)

-- The set has exactly the converses, below 64, of the members of the first.
abbrev pub Converses : {V : Type 0} → Meaning V → ℕ → ℕ → Type 0
Converses m first set = (e : ℕ) → Decides (has set e) ((c : ℕ) × (has first c ≡ true) × Turns m c e)

-- e fits with c and a member d of the second set: lawful values u, v and w exist with c from u to v, d from v to w and e from u to w.
abbrev pub Reaches : {V : Type 0} → Meaning V → ℕ → ℕ → ℕ → Type 0
Reaches m second c e = (d : ℕ) × (has second d ≡ true) × Fits m c d e

-- The set has exactly the codes that fit with c and a member of the second.
abbrev pub CompositionsFrom : {V : Type 0} → Meaning V → ℕ → ℕ → ℕ → Type 0
CompositionsFrom m c second set = (e : ℕ) → Decides (has set e) (Reaches m second c e)

-- The set has exactly the codes that fit with a member of the first and a member of the second.
abbrev pub Compositions : {V : Type 0} → Meaning V → ℕ → ℕ → ℕ → Type 0
Compositions m first second set = (e : ℕ) → Decides (has set e) ((c : ℕ) × (has first c ≡ true) × Reaches m second c e)

-- The set is the union of the sets that are given at the members: what it has is in a set that is given at a member, and it has all
-- of a set that is given at each member.
abbrev pub Union : ℕ → (ℕ → ℕ → Type 0) → ℕ → Type 0
Union members Gives set =
    ((e : ℕ) → has set e ≡ true → (c : ℕ) × (has members c ≡ true) × (given : ℕ) × Gives c given × (has given e ≡ true))
    × ((c : ℕ) → has members c ≡ true → (given : ℕ) × Gives c given × ((e : ℕ) → has given e ≡ true → has set e ≡ true))

-- The set is the union of the sets that are given at the items of a list, each of which is given one.
abbrev pub UnionOf : {A : Type 0} → (A → ℕ → Type 0) → List A → ℕ → Type 0
UnionOf {A} Gives items set =
    ((e : ℕ) → has set e ≡ true → (x : A) × Contains items x × (given : ℕ) × Gives x given × (has given e ≡ true))
    × ((x : A) → Contains items x → (given : ℕ) × Gives x given × ((e : ℕ) → has given e ≡ true → has set e ≡ true))
