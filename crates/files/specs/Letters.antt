-- The letters of kinds and tallies, and what a head says with them.
use Rattle.std.specs.Prelude.{ℕ, Bool, cond, ◌==◌, nat_eq}
use Rattle.std.specs.Cmp.{IsEquivalence, nat_eq_equiv, on_equiv, and_equiv}
use Rattle.std.specs.Ordering.{eq_of_both, on}
use Rattle.files.specs.declared.head.HeadKind.{HeadKind}
use Rattle.files.specs.declared.head.HeadKind.TheVariants.{Moments, Spells, Dwellings}
use Rattle.files.specs.declared.head.HeadTally.{HeadTally}
use Rattle.files.specs.declared.head.HeadTally.TheVariants.{ByWeight, SwornFirst}

-- What a head says: the letter of the kind, the number of items, the letter of the tally.
pub record Said : Type 0 where
  pub letter : ℕ
  pub size : ℕ
  pub tally : ℕ

-- M, S and D
abbrev pub kind_letter : HeadKind → ℕ
kind_letter Moments = 77
kind_letter Spells = 83
kind_letter Dwellings = 68

-- the kind of one of these letters
abbrev pub kind_of : ℕ → HeadKind
kind_of l = cond (l == 77) Moments (cond (l == 83) Spells Dwellings)

-- w and r
abbrev pub tally_letter : HeadTally → ℕ
tally_letter ByWeight = 119
tally_letter SwornFirst = 114

-- the tally of one of these letters
abbrev pub tally_of : ℕ → HeadTally
tally_of l = cond (l == 119) ByWeight SwornFirst

-- two heads say the same
abbrev pub says_same : Said → Said → Bool
says_same = eq_of_both (on (λ s. s.letter) nat_eq) (eq_of_both (on (λ s. s.size) nat_eq) (on (λ s. s.tally) nat_eq))

-- to say the same is an equivalence
pub same_said : IsEquivalence says_same
same_said = and_equiv (on_equiv (λ s. s.letter) nat_eq_equiv) (and_equiv (on_equiv (λ s. s.size) nat_eq_equiv) (on_equiv (λ s. s.tally) nat_eq_equiv))
