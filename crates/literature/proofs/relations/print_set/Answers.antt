-- One more word is written where the set has its code. After the last code all words were written.
use Rattle.std.proofs.Common.{◌≡◌, ℕ, ◌+◌, Bool, true, false, List, cond, ◌∷◌, [], ap, sym, ◌∙◌, subst, arith, rules}
use Rattle.std.specs.Io.KnownBytes.{Appends}
use Rattle.points.specs.Sets.{has}
use Rattle.literature.specs.Printed.{below, set_words, word_of}
use Rattle.literature.proofs.Printing.{appends_next, appends_none}
use Rattle.literature.proofs.relations.print_set.Goals as goal
use Rattle.literature.proofs.relations.print_set.Goals.{then-contains+in_ok-write, else-contains}

-- Given, since a wrong body is refused 6 s sooner with it.
pub loop-code-preserved : goal.loop-code-preserved
loop-code-preserved g c =
    let code = c.loop-code.code in
    let word = word_of g.K.Notation.words code in
    let given : ℕ → List ℕ = λ c'. cond (has c.args.set c') (32 ∷ word_of g.K.Notation.words c') [] in
    let Written : g.row.W.Denot → Type 0 = λ out. Appends (g.W.Write.contents c.args.out.now) (g.W.Write.contents out) (below given (code + 1)) in
    elim c.if-contains.branch [
      | then-contains+in_ok-write w ↦ (let there : has c.args.set code ≡ true = search rules fits 100 in
          subst Written (sym w.out-is)
          (appends_next given _ _ _ code _ c.loop-code.invariant w.in_ok-write.ensures.bytes (ap (λ (t : List ℕ). 32 ∷ t) w.word.ensures ∙ ap (λ (b : Bool). cond b (32 ∷ word) []) (sym there))))
      | else-contains w ↦ (let there : has c.args.set code ≡ false = search rules fits 100 in
          subst Written (sym w.out-is) (appends_next given _ _ _ code [] c.loop-code.invariant (appends_none (g.W.Write.contents c.loop-code.out)) (ap (λ (b : Bool). cond b (32 ∷ word) []) (sym there))))
    ]

pub returns : goal.returns
unfolding set_words
returns g c =
    let end : c.loop-code.code ≡ 64 = omega arith in
    subst (λ (n : ℕ). Appends (g.W.Write.contents c.args.out.now) (g.W.Write.contents c.loop-code.out) (below (λ c'. cond (has c.args.set c') (32 ∷ word_of g.K.Notation.words c') []) n)) end c.loop-code.invariant
