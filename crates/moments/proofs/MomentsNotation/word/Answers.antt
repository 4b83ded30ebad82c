use Rattle.std.proofs.Common.{rules}
use Rattle.moments.proofs.MomentsNotation.word.Goals as goal

-- Given, since the search for it takes 3 s where it fails.
pub returns-in-1 : goal.returns-in-1
returns-in-1 c = search rules fits 100
