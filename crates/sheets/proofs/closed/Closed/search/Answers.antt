-- A search advances the sheet and keeps its search sound.
use Rattle.std.proofs.Common.{vec_items, ap, rules}
use Rattle.std.proofs.lemmas.Grind.{merely}
use Rattle.sheets.proofs.Searches.{searched_soundly}
use Rattle.sheets.proofs.closed.Closed.search.Goals as goal

pub invariant_of-self : goal.invariant_of-self
invariant_of-self g c =
    let kind = g.met.K.Kind in
    let did = c.search.ensures in
    let soundly = searched_soundly g.K.Kind.meaning kind.lawful g.K.Kind.fit kind.composes g.T.Joins.joining g.met.T.Joins.monoid g.T.Tally.order g.met.T.Tally.ranks
    c.args.self.now.sheet c.search.new.self c.args.steps c.search.result
    (record { parts = record { same_items = did.parts.0; same_rows = ap vec_items did.parts.1; same_codes = did.parts.2 }; count = did.taken; moved = did.advanced }) c.args.self.now.sound in
    record { sound = merely soundly.1.sound }

pub returns : goal.returns
returns g c =
    let kind = g.met.K.Kind in
    let did = c.search.ensures in
    let soundly = searched_soundly g.K.Kind.meaning kind.lawful g.K.Kind.fit kind.composes g.T.Joins.joining g.met.T.Joins.monoid g.T.Tally.order g.met.T.Tally.ranks
    c.args.self.now.sheet c.search.new.self c.args.steps c.search.result
    (record { parts = record { same_items = did.parts.0; same_rows = ap vec_items did.parts.1; same_codes = did.parts.2 }; count = did.taken; moved = did.advanced }) c.args.self.now.sound in
    record { answers = (search rules, soundly.0); keeps = soundly.1 }
