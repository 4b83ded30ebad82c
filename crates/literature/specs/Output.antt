-- All that is printed, as bytes.
use Rattle.std.specs.Prelude.{◌≡◌, ◌↔◌, ℕ, ◌+◌, List, ◌++◌, codes}
use Rattle.std.specs.Fmt.{decimal}
use Rattle.kinds.specs.Layouts.{fit}
use Rattle.kinds.specs.Meaning.{Meaning}
use Rattle.moments.specs.Moments.{line, moment_words, moments}
use Rattle.spells.specs.Spells.{spell_words, spells, timeline}
use Rattle.dwellings.specs.Dwellings.{compass, dwelling_words, dwellings}
use Rattle.literature.specs.declared.laws.AlgebraLaw.{AlgebraLaw}
use Rattle.literature.specs.declared.literature.Literature.{Literature}
use Rattle.literature.specs.Laws.{HoldsOfAll}
use Rattle.literature.specs.Literature.{HeldTables, LiteratureAgrees, LiteratureHeld, literature_differs, literature_lines}
use Rattle.literature.specs.Printed.{kind_lines, summary_line}
use Rattle.literature.specs.Scores.{capped}
use Rattle.literature.specs.Tried.{AllTried, LawTrials, laws_failing, laws_lines}

-- the tables of the three kinds
unfoldable pub kinds_lines : List ℕ
kinds_lines =
    kind_lines moment_words 77 moments.codes moments.converse (fit line) (codes "moments")
    ++ kind_lines spell_words 83 spells.codes spells.converse (fit timeline) (codes "spells")
    ++ kind_lines dwelling_words 68 dwellings.codes dwellings.converse (fit compass) (codes "dwellings")

-- `figures 12 proved`
abbrev pub figures_line : ℕ → List ℕ
figures_line n = codes "figures " ++ decimal n ++ codes " proved\n"

-- how many entries differ and trials fail in all, as a program counts them
abbrev pub all_differing : HeldTables → LawTrials → LawTrials → LawTrials → ℕ
all_differing held points intervals directions = capped (literature_differs held + (laws_failing points + (laws_failing intervals + laws_failing directions)))

-- The tables of the three kinds; the published tables that were held; the laws that were tried of moments, spells and dwellings; whether all
-- agree; and how many figures are proved.
abbrev pub output_lines : HeldTables → LawTrials → LawTrials → LawTrials → ℕ → List ℕ
output_lines held points intervals directions figures =
    kinds_lines ++ literature_lines held ++ laws_lines moment_words 77 points ++ laws_lines spell_words 83 intervals ++ laws_lines dwelling_words 68 directions
    ++ summary_line (all_differing held points intervals directions) ++ figures_line figures

-- every law holds of a kind
abbrev pub AllLaws : {V : Type 0} → Meaning V → Type 0
AllLaws m = (law : AlgebraLaw) → HoldsOfAll m law

-- What is told of all published tables l and of all laws.
pub record Told (l : Literature) : Type 0 where
  pub held : HeldTables
  pub points : LawTrials
  pub intervals : LawTrials
  pub directions : LawTrials
  -- every entry of the tables is held, and every law tried of each kind
  pub all_held : LiteratureHeld l held
  pub of_points : AllTried moments points
  pub of_intervals : AllTried spells intervals
  pub of_directions : AllTried dwellings directions
  -- "all agree" is printed exactly if each published entry is ours and each law holds.
  pub agree : (all_differing held points intervals directions ≡ 0) ↔ (LiteratureAgrees l × AllLaws moments × AllLaws spells × AllLaws dwellings)
