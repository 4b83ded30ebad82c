-- Each law counts in its trials, and the line comes last.
use Rattle.std.proofs.Common.{◌≡◌, ℕ, ◌<◌, List, [], ◌∷◌, ◌++◌, get_or, length, ap, codes, refl, subst, ◌∙◌, arith, rules}
use Rattle.std.specs.Fmt.{decimal}
use Rattle.std.proofs.lemmas.List.{get_or_default}
use Rattle.literature.specs.Laws.{HoldsOfAll}
use Rattle.literature.specs.Tried.{LawTried, Runs, Trial, holding, law_line}
use Rattle.literature.specs.declared.laws.AlgebraLaw.{AlgebraLaw}
use Rattle.literature.specs.declared.laws.AlgebraLaw.TheVariants.{LeftIdentity}
use Rattle.literature.specs.declared.score.Score.{Score}
use Rattle.literature.proofs.Compared.{score_none}
use Rattle.literature.proofs.Lacking.{counts_all, counts_item}
use Rattle.literature.proofs.Printing.{appends_as, appends_more, four_parts}
use Rattle.literature.proofs.Scored.{score_shown}
use Rattle.literature.proofs.Trials.{none_tried, tried_more}
use Rattle.literature.proofs.laws.try_named.Goals as goal

pub loop-law-preserved : goal.loop-law-preserved
loop-law-preserved g c =
    let m = g.K.Kind.meaning in
    let laws = c.args.laws.now in
    let k = c.loop-law.law-index in
    let within : k < length laws = omega arith in
    let P : ℕ → List Trial → Type 0 = λ k some. (d : AlgebraLaw) → LawTried m (get_or laws k d) some in
    let (trials, tried, counted, lines) = c.in_ok-try_law.ensures.printed in
    let here : P k trials = λ d. subst (λ (law : AlgebraLaw). LawTried m law trials) (get_or_default laws k LeftIdentity d within) tried in (
      counts_item (HoldsOfAll m) laws k LeftIdentity 0 c.loop-law.score.lacking c.try_law.new.score.lacking within c.loop-law.invariant.0 c.in_ok-try_law.ensures.counted,
      tried_more g.K.Notation.words c.args.name.now c.default-score.result P k c.loop-law.score c.try_law.new.score (g.W.Write.contents c.args.out.now) (g.W.Write.contents c.loop-law.out) (g.W.Write.contents c.try_law.new.out) trials
          c.loop-law.invariant.1 here counted lines,
    )

pub loop-law-init : goal.loop-law-init
loop-law-init g c =
    let P : ℕ → List Trial → Type 0 = λ k some. (d : AlgebraLaw) → LawTried g.K.Kind.meaning (get_or c.args.laws.now k d) some in
    (search rules, none_tried g.K.Notation.words c.args.name.now c.default-score.result P (g.W.Write.contents c.args.out.now))

pub returns-clause-counted : goal.returns-clause-counted
returns-clause-counted g c =
    counts_all (HoldsOfAll g.K.Kind.meaning) c.args.laws.now c.loop-law.law-index c.loop-law.score.lacking c.loop-law.score.lacking (omega arith) refl c.loop-law.invariant.0

pub returns-clause-printed : goal.returns-clause-printed
returns-clause-printed g c =
    let laws = c.args.laws.now in
    let name = c.args.name.now in
    let score = c.loop-law.score in
    let (trials, runs, counted, lines) = c.loop-law.invariant.1 in
    let end : c.loop-law.law-index ≡ length laws = omega arith in
    let all = subst (λ (n : ℕ). Runs (λ k some. (d : AlgebraLaw) → LawTried g.K.Kind.meaning (get_or laws k d) some) n trials) end runs in
    let is = counted [] (score_none c.default-score.result c.default-score.ensures.0 c.default-score.ensures.1) in
    let shown = score_shown score (holding trials) c.tried.result is c.tried.ensures in
    let start = codes "law " ++ (c.letter.result ∷ 32 ∷ []) in
    let raw = start ++ (name ++ (codes ": " ++ (decimal score.stand ++ (codes " of " ++ (decimal c.tried.result ++ codes " hold\n"))))) in
    let line : raw ≡ law_line g.K.Notation.initial name (holding trials) =
    (λ i. start ++ four_parts name (codes ": ") (decimal score.stand) (codes " of ") (decimal c.tried.result) (codes " hold\n") i)
    ∙ λ i. codes "law " ++ (c.letter.ensures i ∷ 32 ∷ []) ++ name ++ codes ": " ++ shown i ++ codes " hold\n" in
    let last = appends_as (g.W.Write.contents c.loop-law.out) (g.W.Write.contents c.writeln.new.self) line
    (appends_more _ _ _ _ _ (appends_more _ _ _ _ _ c.in_ok-write.ensures.bytes c.in_ok-write_all.ensures.bytes) c.in_ok-writeln.ensures.bytes) in
    let failed = ap (λ (s : Score). s.lacking) is in
    (trials, all, failed, appends_more _ _ _ _ _ lines last)
