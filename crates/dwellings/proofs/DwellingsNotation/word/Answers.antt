use Rattle.std.proofs.Common.{rules}
use Rattle.dwellings.proofs.DwellingsNotation.word.Goals as goal

-- Given, since a wrong body is refused 3 s sooner with it.
pub returns-in-6 : goal.returns-in-6
returns-in-6 c = search rules fits 100
