-- The laws of a relation algebra, said by which base relations fit.
use Rattle.std.specs.Prelude.{◌≡◌, ℕ, ◌<◌, ◌↔◌}
use Rattle.kinds.specs.Meaning.{Meaning, Fits}
use Rattle.literature.specs.declared.laws.AlgebraLaw.{AlgebraLaw}
use Rattle.literature.specs.declared.laws.AlgebraLaw.TheVariants.{LeftIdentity, RightIdentity, ConverseOfConverse, ConverseOfComposition, Associativity, Cycle}

-- The composition of c and d is r alone, or nothing where r is 64 or more.
abbrev pub ComposesTo : {V : Type 0} → Meaning V → ℕ → ℕ → ℕ → Type 0
ComposesTo m c d r = (e : ℕ) → Fits m c d e ↔ ((e ≡ r) × (r < 64))

-- The converses of the composition of r and s are the composition of the converse of s and the converse of r.
abbrev pub Reverses : {V : Type 0} → Meaning V → ℕ → ℕ → Type 0
Reverses m r s = (e : ℕ) → ((c : ℕ) × Fits m r s c × (e ≡ m.converse c)) ↔ Fits m (m.converse s) (m.converse r) e

-- What r composed with s, then composed with t, has is what r composed with the composition of s and t has.
abbrev pub Associates : {V : Type 0} → Meaning V → ℕ → ℕ → ℕ → Type 0
Associates m r s t = (e : ℕ) → ((c : ℕ) × Fits m r s c × Fits m c t e) ↔ ((d : ℕ) × Fits m s t d × Fits m r d e)

-- t is in the composition of r and s exactly if s is in that of the converse of r and t, and exactly if r is in that of t and the
-- converse of s.
abbrev pub Cycles : {V : Type 0} → Meaning V → ℕ → ℕ → ℕ → Type 0
Cycles m r s t = (Fits m r s t ↔ Fits m (m.converse r) t s) × (Fits m r s t ↔ Fits m t (m.converse s) r)

-- The law holds of the base relations r, s and t. The identity has code 0.
abbrev pub LawHolds : {V : Type 0} → Meaning V → AlgebraLaw → ℕ → ℕ → ℕ → Type 0
LawHolds m LeftIdentity r s t = ComposesTo m 0 r r
LawHolds m RightIdentity r s t = ComposesTo m r 0 r
LawHolds m ConverseOfConverse r s t = m.converse (m.converse r) ≡ r
LawHolds m ConverseOfComposition r s t = Reverses m r s
LawHolds m Associativity r s t = Associates m r s t
LawHolds m Cycle r s t = Cycles m r s t

-- of how many of the three relations the law speaks
abbrev pub speaks_of : AlgebraLaw → ℕ
speaks_of LeftIdentity = 1
speaks_of RightIdentity = 1
speaks_of ConverseOfConverse = 1
speaks_of ConverseOfComposition = 2
speaks_of Associativity = 3
speaks_of Cycle = 3

-- the law holds of all base relations of the kind
abbrev pub HoldsOfAll : {V : Type 0} → Meaning V → AlgebraLaw → Type 0
HoldsOfAll m law = (r s t : ℕ) → r < m.codes → s < m.codes → t < m.codes → LawHolds m law r s t
