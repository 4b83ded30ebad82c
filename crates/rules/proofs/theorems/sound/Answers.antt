-- The theorems on the search, from the laws of the bounds.
use Rattle.std.proofs.Common.{rules}
use Rattle.rules.specs.Soundness.{rules as rules_of}
use Rattle.rules.proofs.Orders.{in_order}
use Rattle.rules.proofs.Cursors.{numbers, skips}
use Rattle.rules.proofs.Costs.{pairs_join, charges_join}
use Rattle.rules.proofs.Floors.{bound_below, bound_least}
use Rattle.rules.proofs.Prefixes.{prefixes_least}
use Rattle.rules.proofs.Refuted.{unfits}
use Rattle.rules.proofs.Advances.{in_parts}
use Rattle.rules.proofs.Soundness.{search_sound}
use Rattle.rules.proofs.theorems.sound.Goals as goal

pub returns : goal.returns
returns g c =
    let kind = g.met.K.Kind in
    let j = g.T.Joins.joining in
    let monoid = g.met.T.Joins.monoid in
    record {
      persons = search rules;
      search = search_sound g.K.Kind.meaning kind.lawful g.K.Kind.fit kind.composes g.K.Kind.values kind.realises
          j monoid g.T.Tally.order g.met.T.Tally.ranks;
      parts = in_parts (rules_of g.K.Kind.meaning g.K.Kind.fit j g.T.Tally.order);
      least = bound_least (rules_of g.K.Kind.meaning g.K.Kind.fit j g.T.Tally.order) monoid g.met.T.Tally.ranks kind.lawful.some_codes;
      prefixes = prefixes_least (rules_of g.K.Kind.meaning g.K.Kind.fit j g.T.Tally.order) monoid g.met.T.Tally.ranks kind.lawful.some_codes;
      triples = unfits (rules_of g.K.Kind.meaning g.K.Kind.fit j g.T.Tally.order);
      bound = bound_below g.K.Kind.meaning kind.lawful g.K.Kind.fit j monoid g.T.Tally.order g.met.T.Tally.ranks;
      pairs = pairs_join j monoid;
      charges = charges_join j monoid;
      order = in_order;
      numbers = numbers;
      skips = skips;
    }
