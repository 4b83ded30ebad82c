-- A closed sheet takes the last four calls, and leaves those of a draft unmade.
use Rattle.std.proofs.Common.{length, refl, ap, ◌∙◌, inl, inr}
use Rattle.std.proofs.lemmas.List.{length-replicate}
use Rattle.runs.proofs.Carried.{carried_show}
use Rattle.runs.proofs.carry.on_closed.Goals as goal
use Rattle.runs.proofs.carry.on_closed.Goals.{in-Search, in-Show+in_ok-page_of-in-Show, in-Charge, in-Size}

pub returns : goal.returns
returns g c =
    let kind = g.K.Kind in
    let told = c.answer_of.ensures in
    elim c.match-call.branch [
      | in-Search w ↦ λ steps asked. rw (told, w.answered-is, w.in-Search.is, w.closed-is) (w.told_by_search-answered.ensures steps asked)
      | in-Show+in_ok-page_of-in-Show w ↦ λ steps asked. rw (told, w.answered-is, w.in-Show.is, w.closed-is)
          (let long = ap length w.in_ok-page_of-in-Show.ensures ∙ length-replicate w.in-Show.places _ in
          carried_show kind.meaning kind.fit kind.values g.T.Joins.joining g.T.Tally.order c.args.closed w.in-Show.places _ (rw long at w.show_on-answered.ensures) steps asked)
      | in-Charge w ↦ λ steps asked. rw (told, w.answered-is, w.in-Charge.is, w.closed-is) (w.told_by_charge-answered.ensures steps asked)
      | in-Size w ↦ λ steps asked. rw (told, w.answered-is, w.closed-is) (elim w.in-Size.is [
        | inl p ↦ rw p.1 (record { answers = refl; views = (steps, asked, refl) })
        | inr (inl p) ↦ rw p.1 (record { answers = refl; views = (steps, asked, refl) })
        | inr (inr (inl p)) ↦ rw p.1 (record { answers = refl; views = (steps, asked, refl) })
        | inr (inr (inr (inl p))) ↦ rw p.2 (record { answers = refl; views = (steps, asked, refl) })
        | inr (inr (inr (inr (inl p)))) ↦ rw p.1 (record { answers = refl; views = (steps, asked, refl) })
        | inr (inr (inr (inr (inr p)))) ↦ rw p (record { answers = refl; views = (steps, asked, refl) })
      ])
    ]
