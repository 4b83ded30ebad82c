-- The parts of the table, one after another.
use Rattle.std.proofs.Common.{◌≡◌, ℕ, ◌+◌, ◌-◌, ◌^◌, min, List, [], ◌∷◌, ◌++◌, ap, codes, ◌∙◌}
use Rattle.std.specs.Fmt.{decimal}
use Rattle.std.proofs.lemmas.Result.{on_ok_weaker}
use Rattle.literature.specs.Printed.{fitting_line, fitting_tests, kind_lines}
use Rattle.literature.specs.declared.score.Score.{Score}
use Rattle.literature.proofs.Printing.{appends_as, appends_more, two_parts}
use Rattle.literature.proofs.Scored.{tried_all}
use Rattle.literature.proofs.relations.print_kind.Goals as goal

pub returns : goal.returns
unfolding kind_lines
returns g c =
    let tests = fitting_tests g.K.Kind.fit g.K.Kind.meaning.codes in
    let score = c.fitting-score.ensures in
    let stand = ap (λ (s : Score). s.stand) score in
    let tried = c.tried.ensures ∙ ap (λ (s : Score). min (s.stand + s.lacking) (2 ^ 32 - 1)) score ∙ tried_all tests in
    let start = codes "fitting triples " in
    let line : start ++ (decimal c.fitting-score.result.stand ++ (codes " of " ++ (decimal c.tried.result ++ (10 ∷ [])))) ≡ fitting_line tests =
    ap (λ (t : List ℕ). start ++ t) (two_parts (decimal c.fitting-score.result.stand) (codes " of ") (decimal c.tried.result) (10 ∷ []))
    ∙ λ i. start ++ (decimal (stand i) ++ codes " of " ++ decimal (tried i)) ++ (10 ∷ []) in
    on_ok_weaker c.writeln.result
    (λ bytes.
    appends_more _ _ _ _ _
    (appends_more _ _ _ _ _ (appends_more _ _ _ _ _ (appends_more _ _ _ _ _ c.in_ok-print_name.ensures c.in_ok-print_words.ensures) c.in_ok-print_converses.ensures) c.in_ok-print_compositions.ensures)
    (appends_as (g.W.Write.contents c.print_compositions.new.out) (g.W.Write.contents c.writeln.new.self) line bytes))
    c.writeln.ensures.bytes
