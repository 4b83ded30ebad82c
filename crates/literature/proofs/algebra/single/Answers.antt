-- The shifted bit is the set of one.
use Rattle.std.proofs.Common.{sym, subst, rules}
use Rattle.std.proofs.lemmas.Nat.{one_shl}
use Rattle.literature.specs.Relations.{Single}
use Rattle.literature.proofs.Unions.{single_bit}
use Rattle.literature.proofs.algebra.single.Goals as goal

pub returns-then-code-lt64 : goal.returns-then-code-lt64
returns-then-code-lt64 c =
    subst (Single c.args.code) (sym (one_shl c.args.code 64 c.if-code-lt64.true)) (single_bit c.args.code c.if-code-lt64.true)

-- Given, since a wrong body is refused 2 s sooner with it.
pub returns-else-code-lt64 : goal.returns-else-code-lt64
returns-else-code-lt64 c = search rules fits 100
