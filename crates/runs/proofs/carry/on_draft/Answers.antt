use Rattle.std.proofs.Common.{refl}
use Rattle.runs.proofs.carry.on_draft.Goals as goal

-- the closed sheet has the items and rows of the draft, and its search is at the opening
pub returns-in-Close : goal.returns-in-Close
returns-in-Close g c =
    let items = c.close.ensures.parts.same_items in
    let rows = c.close.ensures.parts.same_rows in
    let opens = c.close.ensures.opens in
    rw c.in-Close.is (record { answers = refl; views = (0, 0, cc) })
