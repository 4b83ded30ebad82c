-- The parts of the line, one after another.
use Rattle.std.proofs.Common.{◌≡◌, [], ◌∷◌, ◌++◌, codes, ◌∙◌, refl, sym, subst}
use Rattle.std.specs.Fmt.{decimal}
use Rattle.literature.specs.Held.{table_line}
use Rattle.literature.specs.Relations.{Whole}
use Rattle.literature.proofs.Printing.{appends_as, appends_more, four_parts}
use Rattle.literature.proofs.Scored.{score_shown}
use Rattle.literature.proofs.comparison.Comparison.close.Goals as goal

pub returns-clause-printed : goal.returns-clause-printed
returns-clause-printed g c tests same =
    let score = c.args.self.score in
    let table = c.args.table.now in
    let shown = score_shown score tests c.tried.result same c.tried.ensures in
    let start = codes "published " ++ (c.letter.result ∷ 32 ∷ []) in
    let raw = start ++ (table ++ (codes ": " ++ (decimal score.stand ++ (codes " of " ++ (decimal c.tried.result ++ codes " agree\n"))))) in
    let line : raw ≡ table_line g.K.Notation.initial table tests =
    (λ i. start ++ four_parts table (codes ": ") (decimal score.stand) (codes " of ") (decimal c.tried.result) (codes " agree\n") i)
    ∙ λ i. codes "published " ++ (c.letter.ensures i ∷ 32 ∷ []) ++ table ++ codes ": " ++ shown i ++ codes " agree\n" in
    appends_as (g.W.Write.contents c.args.out.now) (g.W.Write.contents c.writeln.new.self) line
    (appends_more _ _ _ _ _ (appends_more _ _ _ _ _ c.in_ok-write.ensures.bytes c.in_ok-write_all.ensures.bytes) c.in_ok-writeln.ensures.bytes)

-- Given, since a wrong body is refused 10 s sooner with it.
pub returns-clause-closed : goal.returns-clause-closed
returns-clause-closed g c = (refl, subst (Whole g.K.Kind.meaning) (sym c.if-self-whole.false) c.whole.ensures)
