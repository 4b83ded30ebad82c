use Rattle.std.proofs.Common.{rules}
use Rattle.files.proofs.parts.first_place.Goals as goal

-- Given, since a wrong body is refused 9 s sooner with it.
pub returns-clause-found : goal.returns-clause-found
returns-clause-found c = search rules fits 100
