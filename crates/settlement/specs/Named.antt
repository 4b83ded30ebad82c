-- The kinds and tallies that heads name, with what is printed of their values and costs.
use Rattle.std.specs.Prelude.{ℕ, Bool, List, ◌∷◌, ◌++◌, nat_le}
use Rattle.std.specs.Fmt.{decimal}
use Rattle.kinds.specs.Meaning.{Meaning}
use Rattle.moments.specs.declared.Moment.{Moment}
use Rattle.moments.specs.Moments.{moments, line, moment}
use Rattle.spells.specs.declared.spell.Spell.{Spell}
use Rattle.spells.specs.Spells.{spells, timeline, spell}
use Rattle.dwellings.specs.declared.Dwelling.{Dwelling}
use Rattle.dwellings.specs.Dwellings.{dwellings, compass, dwelling}
use Rattle.kinds.specs.Layouts.{fit}
use Rattle.tallies.specs.declared.claim.Claim.{Claim}
use Rattle.tallies.specs.Joins.{Joining}
use Rattle.tallies.specs.Weights.{by_weight}
use Rattle.tallies.specs.declared.sworn_first.SwornCost.{SwornCost}
use Rattle.tallies.specs.Sworn.{sworn_first, sworn_order}
use Rattle.files.specs.declared.head.Head.{Head}
use Rattle.files.specs.declared.head.HeadKind.{HeadKind}
use Rattle.files.specs.declared.head.HeadTally.{HeadTally}
use Rattle.files.specs.declared.head.HeadKind.TheVariants.{Moments, Spells, Dwellings}
use Rattle.files.specs.declared.head.HeadTally.TheVariants.{ByWeight, SwornFirst}
use Rattle.files.specs.Letters.{kind_letter, kind_of, tally_letter, tally_of}

-- What a kind of values has to do with settling: what its relations mean, which triples of them fit, the values that it gives for a
-- scenario, its letter, and how a value is printed.
pub record OfKind (V : Type 0) : Type 1 where
  pub meaning : Meaning V
  pub fit : ℕ → ℕ → ℕ → Bool
  pub values : ℕ → List ℕ → ℕ → V
  pub letter : ℕ
  pub text : V → List ℕ

-- And a tally: how penalties join, how costs compare, its letter, and how a cost is printed.
pub record OfTally (C : Type 0) : Type 0 where
  pub joining : Joining Claim C
  pub order : C → C → Bool
  pub letter : ℕ
  pub text : C → List ℕ

-- a kind, by its parts
abbrev pub of_kind : {V : Type 0} → Meaning V → (ℕ → ℕ → ℕ → Bool) → (ℕ → List ℕ → ℕ → V) → ℕ → (V → List ℕ) → OfKind V
of_kind meaning fits values letter text = record { meaning = meaning; fit = fits; values = values; letter = letter; text = text }

-- a tally, by its parts
abbrev pub of_tally : {C : Type 0} → Joining Claim C → (C → C → Bool) → ℕ → (C → List ℕ) → OfTally C
of_tally joining order letter text = record { joining = joining; order = order; letter = letter; text = text }

-- moments: printed as their number
abbrev pub of_moments : OfKind Moment
of_moments = record { meaning = moments; fit = fit line; values = moment; letter = kind_letter Moments; text = λ v. decimal v.at }

-- spells: the start, a space, the end
abbrev pub of_spells : OfKind Spell
of_spells = record { meaning = spells; fit = fit timeline; values = spell; letter = kind_letter Spells; text = λ v. decimal v.start ++ 32 ∷ decimal v.end }

-- dwellings: the east number, a space, the north number
abbrev pub of_dwellings : OfKind Dwelling
of_dwellings = record { meaning = dwellings; fit = fit compass; values = dwelling; letter = kind_letter Dwellings; text = λ v. decimal v.east ++ 32 ∷ decimal v.north }

-- by weight: printed as one number
abbrev pub of_weights : OfTally ℕ
of_weights = record { joining = by_weight; order = nat_le; letter = tally_letter ByWeight; text = decimal }

-- sworn first: the sworn count, a slash, the weight
abbrev pub of_sworn : OfTally SwornCost
of_sworn = record { joining = sworn_first; order = sworn_order; letter = tally_letter SwornFirst; text = λ c. decimal c.sworn ++ 47 ∷ decimal c.weight }

-- what f says of a kind, for the kind that is named
abbrev pub by_kind {ℓ} : {X : Type ℓ} → HeadKind → ((V : Type 0) → OfKind V → X) → X
by_kind Moments f = f _ of_moments
by_kind Spells f = f _ of_spells
by_kind Dwellings f = f _ of_dwellings

-- the same of a tally
abbrev pub by_tally {ℓ} : {X : Type ℓ} → HeadTally → ((C : Type 0) → OfTally C → X) → X
by_tally ByWeight f = f _ of_weights
by_tally SwornFirst f = f _ of_sworn

-- and of the kind and the tally that a head names
abbrev pub by_head {ℓ} : {X : Type ℓ} → Head → ((V C : Type 0) → OfKind V → OfTally C → X) → X
by_head h f = by_kind (kind_of h.letter) (λ V k. by_tally (tally_of h.tally) (λ C t. f V C k t))
