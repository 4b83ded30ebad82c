-- How the programs read: each head by the words of the kind that it names, and by the letters of its kind and tally.
use Rattle.std.specs.Prelude.{ℕ}
use Rattle.moments.specs.Moments.{moments, moment_words}
use Rattle.spells.specs.Spells.{spells, spell_words}
use Rattle.dwellings.specs.Dwellings.{dwellings, dwelling_words}
use Rattle.files.specs.declared.head.Head.{Head}
use Rattle.files.specs.declared.head.HeadKind.{HeadKind}
use Rattle.files.specs.declared.head.HeadKind.TheVariants.{Moments, Spells, Dwellings}
use Rattle.files.specs.Letters.{kind_letter, kind_of, tally_letter, tally_of}
use Rattle.files.specs.Words.{Spelling, spelled}

-- a kind of the programs, and a tally of this letter
abbrev pub spelled_as : HeadKind → ℕ → Spelling
spelled_as Moments tally = spelled moments moment_words (kind_letter Moments) tally
spelled_as Spells tally = spelled spells spell_words (kind_letter Spells) tally
spelled_as Dwellings tally = spelled dwellings dwelling_words (kind_letter Dwellings) tally

-- the kind and the tally that a head names
abbrev pub spelling_of : Head → Spelling
spelling_of h = spelled_as (kind_of h.letter) (tally_letter (tally_of h.tally))
