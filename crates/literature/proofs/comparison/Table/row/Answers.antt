use Rattle.std.proofs.Common.{rules, tests}
use Rattle.std.specs.Str.{bytes_eq}
use Rattle.std.proofs.lemmas.Iterator.{YieldsList-from_slice}
use Rattle.std.proofs.lemmas.Iterator.Search.{find_from_yields_List}
use Rattle.literature.proofs.comparison.Table.row.Goals as goal

-- Given, since a wrong body is refused 5 s sooner with it.
pub returns : goal.returns
returns c = find_from_yields_List (λ row. bytes_eq row.letter.now c.args.letter.now) _ _ _ c.find.ensures.ran (YieldsList-from_slice c.args.self.rows.now cc) (λ x b q k. search (rules, tests) fits 100)
