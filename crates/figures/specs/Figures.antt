-- Figures that a clerk can recount by hand, derived from the definitions of the kinds, the tallies and the search.
use Rattle.std.specs.Prelude.{◌≡◌, ℕ, ◌↔◌, List, [], ◌∷◌, map, codes, nat_le}
use Prim.Native.String.{String}
use Rattle.std.specs.Option.{unwrap_or}
use Rattle.points.specs.Ranks.{Has}
use Rattle.kinds.specs.Meaning.{Meaning, Fits}
use Rattle.kinds.specs.Words.{read}
use Rattle.moments.specs.Moments.{moment_words, moments}
use Rattle.dwellings.specs.Dwellings.{dwelling_words, dwellings}
use Rattle.spells.specs.Spells.{spells, spell, spell_words}
use Rattle.tallies.specs.Weights.{by_weight}
use Rattle.rules.specs.Costs.{sheet_bound}
use Rattle.rules.specs.Steps.{searched}
use Rattle.figures.specs.Small.{moments_by_weight, moments_sworn_first, household, lone, sworn_pair, charged, Solved}

-- the code that a word stands for; 64, which is no code, if none
abbrev pub code : List (List ℕ) → String → ℕ
code words word = unwrap_or (read words (codes word)) 64

-- The composition of two relations is exactly these: a triple fits exactly where the third is one of them, among all natural numbers.
abbrev pub Composed : {V : Type 0} → Meaning V → List (List ℕ) → String → String → List String → Type 0
Composed m words first second these = (e : ℕ) → Fits m (code words first) (code words second) e ↔ Has e (map (code words) these)

-- The relation of a first value to a second is the one with this word. Moments are given by their numbers, spells by start and end,
-- dwellings by east number and north number.
abbrev pub MomentStands : ℕ → String → ℕ → Type 0
MomentStands x word y = moments.relation (record { at = x }) (record { at = y }) ≡ code moment_words word

abbrev pub SpellStands : ℕ × ℕ → String → ℕ × ℕ → Type 0
SpellStands x word y = spells.relation (record { start = x.0; end = x.1 }) (record { start = y.0; end = y.1 }) ≡ code spell_words word

abbrev pub DwellingStands : ℕ × ℕ → String → ℕ × ℕ → Type 0
DwellingStands x word y = dwellings.relation (record { east = x.0; north = x.1 }) (record { east = y.0; north = y.1 }) ≡ code dwelling_words word

-- An example of each word, made by hand from what the word means. The table below holds as well with `s` and `f` exchanged, or with
-- north and south; these examples do not.
pub record Words : Type 0 where
  -- moments
  pub equal : MomentStands 1 "=" 1
  pub earlier : MomentStands 0 "<" 1
  pub later : MomentStands 1 ">" 0
  -- spells
  pub equals : SpellStands (0, 1) "eq" (0, 1)
  pub before : SpellStands (0, 1) "p" (2, 3)
  pub after : SpellStands (2, 3) "pi" (0, 1)
  pub meets : SpellStands (0, 1) "m" (1, 2)
  pub met_by : SpellStands (1, 2) "mi" (0, 1)
  pub overlaps : SpellStands (0, 2) "o" (1, 3)
  pub overlapped_by : SpellStands (1, 3) "oi" (0, 2)
  pub starts : SpellStands (0, 1) "s" (0, 2)
  pub started_by : SpellStands (0, 2) "si" (0, 1)
  pub during : SpellStands (1, 2) "d" (0, 3)
  pub contains : SpellStands (0, 3) "di" (1, 2)
  pub finishes : SpellStands (1, 2) "f" (0, 2)
  pub finished_by : SpellStands (0, 2) "fi" (1, 2)
  -- dwellings, each seen from the dwelling with the numbers 1 and 1
  pub same : DwellingStands (1, 1) "eq" (1, 1)
  pub north : DwellingStands (1, 2) "n" (1, 1)
  pub north_east : DwellingStands (2, 2) "ne" (1, 1)
  pub east : DwellingStands (2, 1) "e" (1, 1)
  pub south_east : DwellingStands (2, 0) "se" (1, 1)
  pub south : DwellingStands (1, 0) "s" (1, 1)
  pub south_west : DwellingStands (0, 0) "sw" (1, 1)
  pub west : DwellingStands (0, 1) "w" (1, 1)
  pub north_west : DwellingStands (0, 2) "nw" (1, 1)

-- Two spells with m are written (0, 1) and (1, 3).
pub record Meeting : Type 0 where
  pub first : spell 2 (code spell_words "m" ∷ []) 0 ≡ record { start = 0; end = 1 }
  pub second : spell 2 (code spell_words "m" ∷ []) 1 ≡ record { start = 1; end = 3 }

-- The household, M 3 w: finished after exactly 18 steps, with the cost 2, where the floor is 0; its moments are 1, 2 and 0. Person 1
-- is charged 2, and person 2 nothing.
pub record Household : Type 0 where
  pub solved : Solved moments_by_weight 3 household 18 2 (1 ∷ 2 ∷ 0 ∷ [])
  pub floor : sheet_bound by_weight nat_le moments.codes 3 household ≡ 0
  pub first : charged moments_by_weight household (searched moments_by_weight 3 household 18) 1 ≡ 2
  pub second : charged moments_by_weight household (searched moments_by_weight 3 household 18) 2 ≡ 0

-- The table of figures, line by line.
abbrev pub table : List (Type 0)
table =
    -- M (<, <): <
    Composed moments moment_words "<" "<" ("<" ∷ [])
    -- M (<, >): all three
    ∷ Composed moments moment_words "<" ">" ("=" ∷ "<" ∷ ">" ∷ [])
    -- S (p, p): p
    ∷ Composed spells spell_words "p" "p" ("p" ∷ [])
    -- S (m, m): p
    ∷ Composed spells spell_words "m" "m" ("p" ∷ [])
    -- S (o, o): p, m, o
    ∷ Composed spells spell_words "o" "o" ("p" ∷ "m" ∷ "o" ∷ [])
    -- S (s, f): d
    ∷ Composed spells spell_words "s" "f" ("d" ∷ [])
    -- D (n, e): ne
    ∷ Composed dwellings dwelling_words "n" "e" ("ne" ∷ [])
    -- D (n, s): eq, n, s
    ∷ Composed dwellings dwelling_words "n" "s" ("eq" ∷ "n" ∷ "s" ∷ [])
    ∷ Meeting
    ∷ Household
    -- the lone moment, M 1 w: finished at the opening, without a step, with the cost 0; the moment is 0
    ∷ Solved moments_by_weight 1 lone 0 0 (0 ∷ [])
    -- the sworn pair, M 2 r: finished after exactly 2 steps, with the cost (0 sworn, weight 900); its moments are 1 and 0
    ∷ Solved moments_sworn_first 2 sworn_pair 2 (record { sworn = 0; weight = 900 }) (1 ∷ 0 ∷ [])
    ∷ []

-- each line of a list holds
abbrev pub EachHolds : List (Type 0) → Type 0
EachHolds [] = Unit {0}
EachHolds (line ∷ lines) = line × EachHolds lines

-- Each line of the table of figures holds.
abbrev pub Figures : Type 0
Figures = EachHolds table
