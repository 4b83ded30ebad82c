-- The set so far is that of the parts so far.
use Rattle.std.proofs.Common.{Some, map}
use Rattle.std.specs.Fn.{FnReturnsAt}
use Rattle.literature.specs.Relations.{UnionOf}
use Rattle.literature.proofs.letters.union_of.Given as goal

abbrev pub invariant-loop-part : goal.invariant-loop-part
invariant-loop-part g l = UnionOf (λ part given. FnReturnsAt g.F.Fn l.gives part (Some given)) (map (λ x. x.now) l.yielded) l.set
