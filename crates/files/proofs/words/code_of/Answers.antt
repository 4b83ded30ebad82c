use Rattle.std.proofs.Common.{rules}
use Rattle.files.proofs.words.code_of.Goals as goal

-- Given, since a wrong body is refused 8 s sooner with it.
pub returns-then-is_empty-clause-code : goal.returns-then-is_empty-clause-code
returns-then-is_empty-clause-code g c = search rules fits 100
