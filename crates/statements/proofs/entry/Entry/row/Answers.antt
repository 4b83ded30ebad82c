-- What is asked of an entry that is kept follows from its checks.
use Rattle.std.proofs.Common.{◌≡◌, ℕ, None, sym, subst}
use Rattle.statements.specs.Drafts.{Means, entry_checks}
use Rattle.statements.specs.Faults.{first_fault}
use Rattle.statements.proofs.Accepted.{acceptable}
use Rattle.statements.proofs.Meant.{means}
use Rattle.statements.proofs.entry.Entry.row.Goals as goal

pub returns-clause-means : goal.returns-clause-means
returns-clause-means g c =
    let items = c.args.items in
    let e = c.args.self.now in
    let passed = subst (λ (n : ℕ). first_fault (entry_checks g.K.Kind.meaning.codes n e) ≡ None) c.from.ensures c.in_ok-check.ensures.0 in
    subst (Means g.K.Kind.meaning items e) (sym c.kept.ensures)
    (means g.K.Kind.meaning g.met.K.Kind.lawful g.met.K.Kind.involutive items e (acceptable g.K.Kind.meaning.codes items e passed))
