-- A draft stays sound when a row is struck.
use Rattle.std.proofs.Common.{arith}
use Rattle.std.proofs.lemmas.Grind.{common_steps}
use Rattle.rules.proofs.Properly.{proper_set, proper_read}
use Rattle.sheets.proofs.held.Draft.strike.Goals as goal

-- the row that is marked keeps its items, weight and person
pub invariant_of-self : goal.invariant_of-self
invariant_of-self g c =
    let draft = c.args.self.now in
    let there = c.in_ok-i.ensures.1.1 in
    let row = proper_read draft.items draft.rows.items _ c.entry_mut.result.now (omega arith) c.entry_mut.ensures.value draft.sound in
    record { some = draft.some; few = draft.few; room = draft.room; sound = proper_set draft.items draft.rows.items _ _ draft.sound row }

-- Given, since a wrong body is refused 8 s sooner with it.
pub returns : goal.returns
returns g c = grind (arith, common_steps) steps 400000
