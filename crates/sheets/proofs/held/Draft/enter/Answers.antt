use Rattle.std.proofs.Common.{rules}
use Rattle.sheets.proofs.held.Draft.enter.Goals as goal

-- Given, since a wrong body is refused 5 s sooner with it.
pub returns-then-len-ge256 : goal.returns-then-len-ge256
returns-then-len-ge256 g c = search rules fits 400

-- Given, since a wrong body is refused 11 s sooner with it.
pub append-requires : goal.append-requires
append-requires g c = search rules fits 100

-- These two are given, since a wrong body is refused 13 s sooner with them.
pub returns-in_err-row : goal.returns-in_err-row
returns-in_err-row g c = search rules fits 100

pub returns : goal.returns
returns g c = search rules fits 400
