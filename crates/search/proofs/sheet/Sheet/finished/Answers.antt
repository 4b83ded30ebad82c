-- A scenario at the cursor has a number below the number of scenarios.
use Rattle.points.specs.Scenarios.{pairs}
use Rattle.search.proofs.Closed.{finished_is}
use Rattle.search.proofs.sheet.Sheet.finished.Goals as goal

pub returns : goal.returns
returns c =
    let self = c.args.self.now in
    finished_is self.codes (pairs self.items) self.cursor c.is_none.result (self.fits) self.marked c.is_none.ensures
