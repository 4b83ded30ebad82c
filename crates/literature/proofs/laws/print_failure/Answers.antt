-- The parts of the line are put together from the left.
use Rattle.std.proofs.Common.{◌≡◌, [], ◌∷◌, ◌++◌, codes, ap, ◌∙◌}
use Rattle.std.proofs.lemmas.Result.{on_ok_weaker}
use Rattle.literature.specs.Tried.{fails_line}
use Rattle.literature.proofs.Printing.{appends_as, three_parts}
use Rattle.literature.proofs.laws.print_failure.Goals as goal

pub returns : goal.returns
returns g c =
    let start = codes "  fails: " in
    let name = c.args.name.now in
    let r = c.word.result.now in
    let s = c.word-2.result.now in
    let t = c.word-3.result.now in
    let raw = start ++ (name ++ (codes " at " ++ (r ++ ((32 ∷ []) ++ (s ++ ((32 ∷ []) ++ (t ++ (10 ∷ [])))))))) in
    let line : raw ≡ fails_line g.K.Notation.words name c.args.relations.0 c.args.relations.1 c.args.relations.2 =
    ap (λ text. start ++ text) (three_parts name (codes " at ") r (32 ∷ []) s (32 ∷ []) t (10 ∷ []))
    ∙ λ i. start ++ name ++ codes " at " ++ c.word.ensures i ++ (32 ∷ []) ++ c.word-2.ensures i ++ (32 ∷ []) ++ c.word-3.ensures i ++ (10 ∷ []) in
    on_ok_weaker c.writeln.result (λ bytes. appends_as (g.W.Write.contents c.args.out.now) (g.W.Write.contents c.writeln.new.self) line bytes) c.writeln.ensures.bytes
