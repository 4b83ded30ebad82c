-- A show writes the values of the incumbent, and what it answers of them is settled.
use Rattle.std.proofs.Common.{◌≡◌, ℕ, ◌≤◌, ap, ◌∙◌, List, length, get_or, arith, rules}
use Rattle.kinds.specs.Meaning.{Fitting, Realises}
use Rattle.kinds.specs.Pages.{Written}
use Rattle.rules.specs.Costs.{sheet_bound}
use Rattle.rules.specs.Steps.{finished}
use Rattle.search.specs.Closed.{rows_of, position_of, incumbent_of}
use Rattle.sheets.specs.declared.closed.Shown.{Shown}
use Rattle.sheets.proofs.Searches.{by_kind, sound_again, same_scenario, shown_settles}
use Rattle.sheets.proofs.closed.Closed.show.Goals as goal

pub returns : goal.returns
returns g c =
    let kind = g.K.Kind in
    let s = c.args.self.now.sheet in
    let n = s.items in
    let a = incumbent_of s in
    let old = c.args.page.now in
    let new = c.write.new.page in
    let items = c.items.ensures in
    let items_2 = c.items-2.ensures in
    let enough : n ≤ length old = omega arith in
    let written : Written n (kind.values n a) old new =
    same_scenario (λ (i : ℕ) (b : List ℕ). Written i (kind.values i b) old new) c.items-2.result n c.incumbent.result.now a items_2 c.incumbent.ensures c.write.ensures.written in
    let realised : 1 ≤ n → n ≤ 12 → n ≤ length old → Fitting kind.meaning n a → (other : g.row.K-Value.Denot) → Realises kind.meaning n a (λ i. get_or new i other) =
    same_scenario (λ (i : ℕ) (b : List ℕ). 1 ≤ i → i ≤ 12 → i ≤ length old → Fitting kind.meaning i b → (other : g.row.K-Value.Denot) → Realises kind.meaning i b (λ k. get_or new k other))
    c.items-2.result n c.incumbent.result.now a items_2 c.incumbent.ensures c.write.ensures.realised in
    let shown : Shown g.row.T-Cost.Denot = record { cost = c.cost.result; floor = c.bound.result; finished = c.finished.result } in
    let j = g.T.Joins.joining in
    let order = g.T.Tally.order in
    let sheet = sound_again kind.meaning g.met.K.Kind.lawful kind.fit g.met.K.Kind.composes j g.met.T.Joins.monoid order g.met.T.Tally.ranks s c.args.self.now.sound in
    let floor = c.bound.ensures ∙ ap (λ (b : ℕ). sheet_bound j order b n (rows_of s)) sheet.coded in
    let done = by_kind kind.meaning kind.fit j order s sheet.coded (λ r. c.finished.result ≡ finished r n (position_of s)) c.finished.ensures in
    record {
      answers = (search rules, record { written = written; costs = record { cost_is = c.cost.ensures; floor_is = floor; finished_is = done } });
      settles = shown_settles kind.meaning g.met.K.Kind.lawful kind.fit j g.met.T.Joins.monoid order g.met.T.Tally.ranks s new shown sheet c.cost.ensures floor done
          (realised s.some s.few enough sheet.sound.fitting);
    }

-- Given, since a wrong body is refused 9 s sooner with it.
pub returns-then-page-from-clause-answers : goal.returns-then-page-from-clause-answers
returns-then-page-from-clause-answers g c = search rules fits 100
