use Rattle.std.proofs.Common.{◌≡◌, length}
use Rattle.files.specs.Parts.{lines}
use Rattle.files.specs.Words.{spelled}
use Rattle.files.proofs.Loading.{Loads}
use Rattle.files.proofs.load.load_body.Given as goal

-- from here the load goes as from where it began
abbrev pub invariant-loop-line : goal.invariant-loop-line
invariant-loop-line g l =
    Loads (spelled g.K.Kind.meaning g.K.Notation.words g.K.Notation.initial g.T.TallyLetter.initial) l.initial.draft.items
    l.initial.spot.place (lines l.initial.spot.ahead.rest.now) l.initial.draft.rows.items
    l.spot.place (lines l.spot.ahead.rest.now) l.draft.rows.items
    × (l.draft.items ≡ l.initial.draft.items)

abbrev pub decreases-loop-line : goal.decreases-loop-line
decreases-loop-line g l = length (lines l.spot.ahead.rest.now)
