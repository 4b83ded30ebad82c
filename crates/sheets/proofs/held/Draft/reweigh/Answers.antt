-- A draft stays sound when a row is given another weight.
use Rattle.std.proofs.Common.{arith, rules}
use Rattle.std.proofs.lemmas.Grind.{common_steps}
use Rattle.rules.proofs.Properly.{proper_set, proper_read, sound_weight}
use Rattle.sheets.proofs.held.Draft.reweigh.Goals as goal

-- the row keeps its items and person, and the new weight has been checked
pub invariant_of-self : goal.invariant_of-self
invariant_of-self g c =
    let draft = c.args.self.now in
    let there = c.in_ok-at.ensures.1.1 in
    let row = c.entry_mut.result.now in
    let was = proper_read draft.items draft.rows.items _ row (omega arith) c.entry_mut.ensures.value draft.sound in
    let is = sound_weight draft.items row c.args.weight (search rules) (search rules) was in
    record { some = draft.some; few = draft.few; room = draft.room; sound = proper_set draft.items draft.rows.items _ _ draft.sound is }

-- Given, since a wrong body is refused 6 s sooner with it.
pub returns-then-not-contains : goal.returns-then-not-contains
returns-then-not-contains g c = search rules fits 400

-- Given, since a wrong body is refused 5 s sooner with it.
pub returns : goal.returns
returns g c = grind (arith, common_steps)
