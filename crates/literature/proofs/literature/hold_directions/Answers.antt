-- Each direction counts in its compositions with all of them.
use Rattle.std.proofs.Common.{◌≡◌, ℕ, ◌<◌, ◌+◌, List, Ok, get_or, length, ap, sym, ◌∙◌, subst, refl, codes, arith, rules, lit≤}
use Rattle.std.proofs.lemmas.Bool.{false≢true}
use Rattle.std.proofs.lemmas.Result.{IfOk-weaker}
use Rattle.std.specs.List.{All}
use Rattle.kinds.proofs.Worded
use Rattle.dwellings.specs.Dwellings.{dwellings, dwelling_words}
use Rattle.std.proofs.lemmas.List.{get_or_default}
use Rattle.literature.specs.Held.{AtEach, CountedIn, DirectionHeld, DirectionsHeld, Entry, agreeing, joined}
use Rattle.literature.specs.Published.{ComposesByParts, DirectionsAgree}
use Rattle.literature.specs.declared.published.Direction.{Direction}
use Rattle.literature.specs.declared.score.Score.{Score}
use Rattle.literature.specs.declared.comparison.Comparison.{Comparison}
use Rattle.literature.proofs.Charted.{directions_counted, no_direction}
use Rattle.literature.proofs.Completed.{MetBelow, met_all, met_more}
use Rattle.literature.proofs.Compared.{held_more, no_rows, none_held, parts_read, rows_more, score_none, table_printed}
use Rattle.literature.proofs.Lacking.{Counts, counts_all, counts_as, counts_item}
use Rattle.literature.proofs.Rowed.{code_read, held_met, held_score, read_then}
use Rattle.literature.proofs.literature.hold_directions.Goals as goal

pub loop-second-preserved : goal.loop-second-preserved
loop-second-preserved g c =
    let chart = c.args.chart in
    let directions = chart.directions.now in
    let k = c.loop-first.first-index in
    let j = c.loop-second.second-index in
    let within : j < length directions = omega arith in
    let r = c.in_ok-r.r in
    let s = c.in_ok-s.s in
    let start = c.meet.new.self.score in
    let old = c.loop-second.comparison.score in
    let new = c.hold_composition.new.self.score in
    let published = c.composed_directions-published in
    let held = c.in_ok-hold_composition.ensures in
    let here = directions_counted chart (get_or directions k no_direction) (get_or directions j no_direction) r s (code_read _ r (Ok r) c.in_ok-r.ensures.read refl) (code_read _ s (Ok s) c.in_ok-s.ensures refl)
    old new published.result published.ensures (λ none. false≢true (held.unread none))
    (held_score _ _ published.result held.counted) in
    let first = get_or directions k no_direction in
    let Q : ℕ → Entry → Type 0 = λ j e. (second : Direction) → DirectionHeld chart r first (get_or directions j second) e in
    let more = read_then published.result (λ none. false≢true (held.unread none))
    (λ set is.
    let (ours, composed, after, lines) = held.printed set is in
    let e : Entry = record { first = r; second = s; ours = ours; published = set } in
    let parts : ComposesByParts chart first (get_or directions j no_direction) set = parts_read chart first (get_or directions j no_direction) published.result set published.ensures is in
    let place : Q j e = λ d. subst (λ (x : Direction). DirectionHeld chart r first x e) (get_or_default directions j no_direction d within)
    (s, code_read _ s (Ok s) c.in_ok-s.ensures refl, (refl, refl, composed, parts)) in
    held_more dwelling_words 68 start Q j old new (g.W.Write.contents c.loop-first.out) (g.W.Write.contents c.loop-second.out) (g.W.Write.contents c.hold_composition.new.out) e
    c.loop-second.invariant.1 place (ap (λ (x : Comparison). x.score) after) lines) in (
      (
        counts_item (DirectionsAgree chart (get_or directions k no_direction)) directions j no_direction start.lacking old.lacking new.lacking within c.loop-second.invariant.0.0 here,
        held_met _ _ published.result held.counted (λ none. false≢true (held.unread none)) ∙ c.loop-second.invariant.0.1,
      ),
      more,
    )

pub loop-second-init : goal.loop-second-init
loop-second-init g c =
    let chart = c.args.chart in
    let Q : ℕ → Entry → Type 0 = λ j e. (second : Direction) → DirectionHeld chart c.in_ok-r.r (get_or chart.directions.now c.loop-first.first-index no_direction) (get_or chart.directions.now j second) e in
    ((search rules, refl), none_held dwelling_words 68 c.meet.new.self.score Q (g.W.Write.contents c.loop-first.out))

pub loop-first-preserved : goal.loop-first-preserved
loop-first-preserved g c =
    let chart = c.args.chart in
    let directions = chart.directions.now in
    let k = c.loop-first.first-index in
    let within : k < length directions = omega arith in
    let r = c.in_ok-r.r in
    let old = c.loop-first.comparison.score.lacking in
    let new = c.loop-second.comparison.score.lacking in
    let (one, single, met) = c.in_ok-r.ensures.met in
    let same : c.meet.new.self.score ≡ c.loop-first.comparison.score = ap (λ (x : Comparison). x.score) met in
    let inner = subst (λ (s : Score). Counts s.lacking new ((j : ℕ) → j < c.loop-second.second-index → (second : Direction) → DirectionsAgree chart (get_or directions k no_direction) (get_or directions j second))) same c.loop-second.invariant.0.0 in
    let counts = counts_item (λ (first : Direction). All (DirectionsAgree chart first) directions) directions k no_direction 0 old new within c.loop-first.invariant.0.0
    (counts_as old new (λ all j second l. all j (omega arith) second) (λ all j l second. all j second (omega arith)) inner) in
    let named = Worded.named dwelling_words (Worded.unambiguous dwelling_words tt) in
    let more = met_more dwellings dwelling_words chart.letters.0.now 0 (λ (x : Direction). x.letter.now) directions named refl (lit≤ tt)
    k r one c.loop-first.comparison.met no_direction within (code_read _ r (Ok r) c.in_ok-r.ensures.read refl) single c.loop-first.invariant.0.1 in
    let Q : ℕ → List Entry → Type 0 = λ k es. (first : Direction) → DirectionsHeld chart (get_or directions k first) es in
    let (es, at, in_row, lines) = c.loop-second.invariant.1 in
    let direction = get_or directions k no_direction in
    let end : c.loop-second.second-index ≡ length directions = omega arith in
    let each = subst (λ (n : ℕ). AtEach (λ j e. (second : Direction) → DirectionHeld chart r direction (get_or directions j second) e) n es) end at in
    let place : Q k es = λ d. subst (λ (x : Direction). DirectionsHeld chart x es) (get_or_default directions k no_direction d within) (r, code_read _ r (Ok r) c.in_ok-r.ensures.read refl, each) in
    let printed = rows_more dwelling_words 68 c.default-comparison.result.score Q k c.loop-first.comparison.score c.loop-second.comparison.score (g.W.Write.contents c.args.out.now) (g.W.Write.contents c.loop-first.out) (g.W.Write.contents c.loop-second.out) es
    c.loop-first.invariant.1 place (subst (λ (s : Score). CountedIn s (agreeing es) c.loop-second.comparison.score) same in_row) lines in
    ((counts, subst (MetBelow dwellings dwelling_words chart.letters.0.now 0 (λ (x : Direction). x.letter.now) directions (k + 1)) (sym (c.loop-second.invariant.0.1 ∙ ap (λ (x : Comparison). x.met) met)) more), printed)

pub loop-first-init : goal.loop-first-init
loop-first-init g c =
    let chart = c.args.chart in
    let Q : ℕ → List Entry → Type 0 = λ k es. (first : Direction) → DirectionsHeld chart (get_or chart.directions.now k first) es in
    ((search rules, search rules), no_rows dwelling_words 68 c.default-comparison.result.score Q (g.W.Write.contents c.args.out.now))

pub returns-clause-agree : goal.returns-clause-agree
returns-clause-agree g c =
    let directions = c.args.chart.directions.now in
    IfOk-weaker c.close.result _ _
    (λ differing closed. counts_all (λ (first : Direction). All (DirectionsAgree c.args.chart first) directions) directions c.loop-first.first-index c.loop-first.comparison.score.lacking differing (omega arith) closed.0 c.loop-first.invariant.0.0)
    c.close.ensures.closed

pub returns-clause-complete : goal.returns-clause-complete
returns-clause-complete g c =
    IfOk-weaker c.close.result _ _
    (λ differing closed. met_all dwellings dwelling_words c.args.chart.letters.0.now 0 (λ (x : Direction). x.letter.now) c.args.chart.directions.now c.loop-first.first-index c.loop-first.comparison.met (omega arith) c.loop-first.invariant.0.1 closed.1)
    c.close.ensures.closed

pub returns-clause-printed : goal.returns-clause-printed
returns-clause-printed g c =
    let chart = c.args.chart in
    let directions = chart.directions.now in
    let start = c.default-comparison.result.score in
    let (held, at, counted, printed) = c.loop-first.invariant.1 in
    let end : c.loop-first.first-index ≡ length directions = omega arith in
    let Q : ℕ → List Entry → Type 0 = λ k es. (first : Direction) → DirectionsHeld chart (get_or directions k first) es in
    let each = subst (λ (n : ℕ). AtEach Q n held) end at in
    IfOk-weaker c.close.result _ _ (λ differ both. (held, each, both.0, both.1))
    (table_printed dwelling_words 68 (codes "composition") (joined held) start c.loop-first.comparison.score
    (g.W.Write.contents c.args.out.now) (g.W.Write.contents c.loop-first.out) (g.W.Write.contents c.close.new.out) c.close.result
    (score_none start c.default-comparison.ensures.1.0 c.default-comparison.ensures.1.1) counted printed
    (IfOk-weaker c.close.result _ _ (λ lacking closed. closed.0) c.close.ensures.closed) c.close.ensures.printed)
