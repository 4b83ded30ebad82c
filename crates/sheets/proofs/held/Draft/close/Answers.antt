-- A draft is closed with its own parts, and the search of the closed sheet is sound.
use Rattle.std.proofs.Common.{◌≡◌, IfOk, vec_items, ap, ◌∙◌, subst}
use Rattle.std.proofs.lemmas.Grind.{merely}
use Rattle.search.specs.Closed.{position_of}
use Rattle.rules.specs.Steps.{opening}
use Rattle.sheets.proofs.Searches.{opening_sheet}
use Rattle.sheets.proofs.held.Draft.close.Goals as goal

pub invariant_of-result : goal.invariant_of-result
invariant_of-result g c =
    let kind = g.met.K.Kind in
    let n = c.args.self.items in
    let parts = subst (λ r. IfOk r (λ s. (s.items ≡ n) × (s.rows ≡ c.args.self.rows) × (s.codes ≡ c.count.result))) c.unwrap.ensures c.closing.ensures.parts in
    let opens = subst (λ r. IfOk r (λ s. position_of s ≡ opening n)) c.unwrap.ensures c.closing.ensures.opens in
    record {
      sound = merely (opening_sheet g.K.Kind.meaning kind.lawful g.K.Kind.fit kind.composes g.T.Joins.joining g.met.T.Joins.monoid
          g.T.Tally.order g.met.T.Tally.ranks g.K.Kind.values kind.realises c.unwrap.result n parts.0 (parts.2 ∙ c.count.ensures) opens);
    }

pub returns : goal.returns
returns g c =
    let kind = g.met.K.Kind in
    let n = c.args.self.items in
    let parts = subst (λ r. IfOk r (λ s. (s.items ≡ n) × (s.rows ≡ c.args.self.rows) × (s.codes ≡ c.count.result))) c.unwrap.ensures c.closing.ensures.parts in
    let opens = subst (λ r. IfOk r (λ s. position_of s ≡ opening n)) c.unwrap.ensures c.closing.ensures.opens in
    record {
      parts = record { same_items = parts.0; same_rows = ap vec_items parts.1; same_codes = parts.2 ∙ c.count.ensures };
      opens = opens;
      sound = opening_sheet g.K.Kind.meaning kind.lawful g.K.Kind.fit kind.composes g.T.Joins.joining g.met.T.Joins.monoid
          g.T.Tally.order g.met.T.Tally.ranks g.K.Kind.values kind.realises c.unwrap.result n parts.0 (parts.2 ∙ c.count.ensures) opens;
    }
