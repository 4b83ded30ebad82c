-- The parts of the line, one after another. The set that is printed is that of the relations that fit.
use Rattle.std.proofs.Common.{◌≡◌, ℕ, List, [], ◌∷◌, ◌++◌, ap, ◌∙◌}
use Rattle.std.proofs.lemmas.Bool.Decides.{same_from_decides}
use Rattle.std.proofs.lemmas.Result.{on_ok_weaker}
use Rattle.points.specs.Sets.{has}
use Rattle.literature.specs.Printed.{composition_line, set_words}
use Rattle.literature.proofs.Printing.{appends_as, appends_more, two_parts}
use Rattle.literature.proofs.relations.print_composition.Goals as goal

pub returns : goal.returns
returns g c =
    let words = g.K.Notation.words in
    let fit = g.K.Kind.fit c.args.c c.args.d in
    let fits : (e : ℕ) → has c.compose.result e ≡ fit e = λ e. same_from_decides _ _ (c.compose.ensures e) (g.met.K.Kind.composes c.args.c c.args.d e) in
    let same : has c.compose.result ≡ fit = λ i e. fits e i in
    let set = ap (set_words words) same in
    let text : ℕ → List ℕ → List ℕ → List ℕ → List ℕ = λ l a b s. (l ∷ 32 ∷ []) ++ a ++ (32 ∷ []) ++ b ++ (58 ∷ []) ++ s ++ (10 ∷ []) in
    let raw = (c.letter.result ∷ 32 ∷ []) ++ (c.word.result.now ++ ((32 ∷ []) ++ (c.word-2.result.now ++ (58 ∷ [])))) ++ set_words words (has c.compose.result) ++ (10 ∷ []) in
    let line : raw ≡ composition_line words g.K.Notation.initial g.K.Kind.fit c.args.c c.args.d =
    (λ i. (c.letter.result ∷ 32 ∷ []) ++ two_parts c.word.result.now (32 ∷ []) c.word-2.result.now (58 ∷ []) i ++ set_words words (has c.compose.result) ++ (10 ∷ []))
    ∙ λ i. text (c.letter.ensures i) (c.word.ensures i) (c.word-2.ensures i) (set i) in
    on_ok_weaker c.writeln.result
    (λ bytes.
    appends_as (g.W.Write.contents c.args.out.now) (g.W.Write.contents c.writeln.new.self) line
    (appends_more _ _ _ _ _ (appends_more _ _ _ _ _ (appends_more _ _ _ _ _ c.in_ok-write_all.ensures.bytes c.in_ok-write.ensures.bytes) c.in_ok-print_set.ensures) bytes))
    c.writeln.ensures.bytes
