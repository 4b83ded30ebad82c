-- The parts of the line, one after another.
use Rattle.std.proofs.Common.{◌≡◌, [], ◌∷◌, ◌++◌, codes, ◌∙◌}
use Rattle.std.proofs.lemmas.Result.{on_ok_weaker}
use Rattle.std.specs.Io.KnownBytes.{Appends}
use Rattle.points.specs.Sets.{has}
use Rattle.literature.specs.Held.{differs_line}
use Rattle.literature.specs.Printed.{set_words}
use Rattle.literature.proofs.Printing.{appends_as, appends_more, two_parts}
use Rattle.literature.proofs.comparison.print_difference.Goals as goal

pub returns : goal.returns
returns g c =
    let words = g.K.Notation.words in
    let ours = set_words words (has c.args.ours) in
    let published = set_words words (has c.args.published) in
    let start = codes "  differs: " in
    let raw = start ++ (c.letter.result ∷ 32 ∷ []) ++ (c.word.result.now ++ ((32 ∷ []) ++ (c.word-2.result.now ++ codes ": ours"))) ++ ours ++ codes ", published" ++ published ++ (10 ∷ []) in
    let line : raw ≡ differs_line words g.K.Notation.initial (record { first = c.args.relations.0; second = c.args.relations.1; ours = c.args.ours; published = c.args.published }) =
    (λ i. start ++ (c.letter.result ∷ 32 ∷ []) ++ two_parts c.word.result.now (32 ∷ []) c.word-2.result.now (codes ": ours") i ++ ours ++ codes ", published" ++ published ++ (10 ∷ []))
    ∙ λ i. start ++ (c.letter.ensures i ∷ 32 ∷ []) ++ c.word.ensures i ++ (32 ∷ []) ++ c.word-2.ensures i ++ codes ": ours" ++ ours ++ codes ", published" ++ published ++ (10 ∷ []) in
    let named = appends_more _ _ _ _ _ (appends_more _ _ _ _ _ c.in_ok-write.ensures.bytes c.in_ok-write_all.ensures.bytes) c.in_ok-write-2.ensures.bytes in
    let set = appends_more _ _ _ _ _ (appends_more _ _ _ _ _ named c.in_ok-print_set.ensures) c.in_ok-write-3.ensures.bytes in
    -- its type is written, since a set that is another is refused 4 s later without it
    let second : Appends _ _ published = c.in_ok-print_set-2.ensures in
    on_ok_weaker c.writeln.result
    (λ bytes. appends_as (g.W.Write.contents c.args.out.now) (g.W.Write.contents c.writeln.new.self) line (appends_more _ _ _ _ _ (appends_more _ _ _ _ _ set second) bytes))
    c.writeln.ensures.bytes
