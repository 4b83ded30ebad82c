-- The line of an entry that differs.
use Rattle.std.proofs.Common.{◌≡◌, ℕ, [], subst, sym, ◌∙◌, rules}
use Rattle.std.proofs.lemmas.Bool.{eq-eqb, ne_eqb}
use Rattle.std.proofs.lemmas.Option.{same_Some}
use Rattle.std.specs.Io.KnownBytes.{Appends}
use Rattle.literature.specs.Held.{Entry, differs_line, entry_lines}
use Rattle.literature.proofs.Compared.{agrees_shown, differs_shown}
use Rattle.literature.proofs.Printing.{appends_as, appends_none}
use Rattle.literature.proofs.comparison.Comparison.hold.Goals as goal
use Rattle.literature.proofs.comparison.Comparison.hold.Goals.{then-ours-published+in_ok-print_difference, else-ours-published}

pub returns-clause-printed : goal.returns-clause-printed
returns-clause-printed g c set given =
    let words = g.K.Notation.words in
    let letter = g.K.Notation.initial in
    let held : ℕ → Entry = λ p. record { first = c.args.relations.0; second = c.args.relations.1; ours = c.args.ours; published = p } in
    let p = c.in_ok-published.published in
    let same : p ≡ set = same_Some p set (sym c.in_ok-published.ensures ∙ given) in
    subst (λ (n : ℕ). Appends (g.W.Write.contents c.args.out.now) (g.W.Write.contents c.if-ours-published.out) (entry_lines words letter (held n))) same
    (elim c.if-ours-published.branch [
      | then-ours-published+in_ok-print_difference w ↦ (let differ = differs_shown words letter (held p) (ne_eqb c.args.ours p w.if-ours-published.true) in
          appends_as (g.W.Write.contents c.args.out.now) (g.W.Write.contents c.if-ours-published.out) differ
          (subst (λ out. Appends (g.W.Write.contents c.args.out.now) (g.W.Write.contents out) (differs_line words letter (held p))) (sym w.out-is) w.in_ok-print_difference.ensures))
      | else-ours-published w ↦ (let agree = agrees_shown words letter (held p) (eq-eqb c.args.ours p w.if-ours-published.false) in
          appends_as (g.W.Write.contents c.args.out.now) (g.W.Write.contents c.if-ours-published.out) agree
          (subst (λ out. Appends (g.W.Write.contents c.args.out.now) (g.W.Write.contents out) []) (sym w.out-is) (appends_none (g.W.Write.contents c.args.out.now))))
    ])

-- Given, since a wrong body is refused 8 s sooner with it.
pub returns-clause-counted : goal.returns-clause-counted
returns-clause-counted g c = search rules fits 100
