-- The parts of the line, one after another.
use Rattle.std.proofs.Common.{◌≡◌, ℕ, List, [], ◌∷◌, ◌++◌, codes}
use Rattle.std.proofs.lemmas.Result.{on_ok_weaker}
use Rattle.literature.specs.Printed.{kind_line}
use Rattle.literature.proofs.Printing.{appends_as, appends_more}
use Rattle.literature.proofs.relations.print_name.Goals as goal

-- Given, since a wrong body is refused 6 s sooner with it.
pub returns : goal.returns
returns g c =
    let name = c.args.name.now in
    let line : (codes "kind " ++ (c.letter.result ∷ [])) ++ (32 ∷ (name ++ (10 ∷ []))) ≡ kind_line g.K.Notation.initial name = λ i. codes "kind " ++ (c.letter.ensures i ∷ 32 ∷ []) ++ name ++ (10 ∷ []) in
    on_ok_weaker c.writeln.result
    (λ bytes.
    appends_as (g.W.Write.contents c.args.out.now) (g.W.Write.contents c.writeln.new.self) line
    (appends_more _ _ _ _ _ (appends_more _ _ _ _ _ c.in_ok-write.ensures.bytes c.in_ok-write_all.ensures.bytes) bytes))
    c.writeln.ensures.bytes
