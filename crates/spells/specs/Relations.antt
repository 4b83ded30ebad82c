-- Spells and the thirteen base relations of the interval algebra.
use Rattle.std.specs.Prelude.{◌≡◌, ℕ, ◌<◌, List, [], ◌∷◌, slice_index_or}
use Prim.Native.Nat.{Ordering, compare}
use Rattle.spells.specs.declared.spell.Spell.{Spell}
use Rattle.spells.specs.declared.spell.Relation.{Relation}
use Rattle.spells.specs.declared.spell.Relation.TheVariants.{Equals, Before, After, Meets, MetBy, Overlaps, OverlappedBy, Starts, StartedBy, During, Contains, Finishes, FinishedBy}

-- a spell starts before it ends
abbrev pub Lawful : Spell → Type 0
Lawful u = u.start < u.end

-- the relation of the first spell to the second
abbrev pub Holds : Relation → Spell → Spell → Type 0
Holds Equals u v = (u.start ≡ v.start) × (u.end ≡ v.end)
Holds Before u v = u.end < v.start
Holds After u v = v.end < u.start
Holds Meets u v = u.end ≡ v.start
Holds MetBy u v = v.end ≡ u.start
Holds Overlaps u v = (u.start < v.start) × (v.start < u.end) × (u.end < v.end)
Holds OverlappedBy u v = (v.start < u.start) × (u.start < v.end) × (v.end < u.end)
Holds Starts u v = (u.start ≡ v.start) × (u.end < v.end)
Holds StartedBy u v = (v.start ≡ u.start) × (v.end < u.end)
Holds During u v = (v.start < u.start) × (u.end < v.end)
Holds Contains u v = (u.start < v.start) × (v.end < u.end)
Holds Finishes u v = (v.start < u.start) × (u.end ≡ v.end)
Holds FinishedBy u v = (u.start < v.start) × (v.end ≡ u.end)

-- the base relations in the order of their codes: eq p pi m mi o oi s si d di f fi
abbrev pub relations : List Relation
relations = Equals ∷ Before ∷ After ∷ Meets ∷ MetBy ∷ Overlaps ∷ OverlappedBy ∷ Starts ∷ StartedBy ∷ During ∷ Contains ∷ Finishes ∷ FinishedBy ∷ []

-- the relation with this code
abbrev pub coded : ℕ → Relation
coded c = slice_index_or relations c Equals

-- the code of a relation
abbrev pub code : Relation → ℕ
code Equals = 0
code Before = 1
code After = 2
code Meets = 3
code MetBy = 4
code Overlaps = 5
code OverlappedBy = 6
code Starts = 7
code StartedBy = 8
code During = 9
code Contains = 10
code Finishes = 11
code FinishedBy = 12

-- The relation by four comparisons: of the starts, of the first's start with the second's end, of the first's end with the second's
-- start, of the ends. It is the one that holds where the spells are lawful, and for other numbers what these lines say.
abbrev pub by_ends : Ordering → Ordering → Ordering → Ordering → Relation
by_ends Ordering.eq se es Ordering.eq = Equals
by_ends Ordering.eq se es Ordering.lt = Starts
by_ends Ordering.eq se es Ordering.gt = StartedBy
by_ends Ordering.lt se es Ordering.eq = FinishedBy
by_ends Ordering.lt se es Ordering.gt = Contains
by_ends Ordering.lt se Ordering.lt Ordering.lt = Before
by_ends Ordering.lt se Ordering.eq Ordering.lt = Meets
by_ends Ordering.lt se Ordering.gt Ordering.lt = Overlaps
by_ends Ordering.gt se es Ordering.eq = Finishes
by_ends Ordering.gt se es Ordering.lt = During
by_ends Ordering.gt Ordering.gt es Ordering.gt = After
by_ends Ordering.gt Ordering.eq es Ordering.gt = MetBy
by_ends Ordering.gt Ordering.lt es Ordering.gt = OverlappedBy

-- the relation that holds of two spells, by how their ends compare
abbrev pub related : Spell → Spell → Relation
related u v = by_ends (compare u.start v.start) (compare u.start v.end) (compare u.end v.start) (compare u.end v.end)

-- How the ends of two spells stand under a relation: start to start, start to end, end to start, end to end.
abbrev pub Ends : Type 0
Ends = Ordering × Ordering × Ordering × Ordering

abbrev pub ends : Relation → Ends
ends Equals = (Ordering.eq, Ordering.lt, Ordering.gt, Ordering.eq)
ends Before = (Ordering.lt, Ordering.lt, Ordering.lt, Ordering.lt)
ends After = (Ordering.gt, Ordering.gt, Ordering.gt, Ordering.gt)
ends Meets = (Ordering.lt, Ordering.lt, Ordering.eq, Ordering.lt)
ends MetBy = (Ordering.gt, Ordering.eq, Ordering.gt, Ordering.gt)
ends Overlaps = (Ordering.lt, Ordering.lt, Ordering.gt, Ordering.lt)
ends OverlappedBy = (Ordering.gt, Ordering.lt, Ordering.gt, Ordering.gt)
ends Starts = (Ordering.eq, Ordering.lt, Ordering.gt, Ordering.lt)
ends StartedBy = (Ordering.eq, Ordering.lt, Ordering.gt, Ordering.gt)
ends During = (Ordering.gt, Ordering.lt, Ordering.gt, Ordering.lt)
ends Contains = (Ordering.lt, Ordering.lt, Ordering.gt, Ordering.gt)
ends Finishes = (Ordering.gt, Ordering.lt, Ordering.gt, Ordering.eq)
ends FinishedBy = (Ordering.lt, Ordering.lt, Ordering.gt, Ordering.eq)
