use Rattle.std.proofs.Common.{rules}
use Rattle.reports.proofs.text.put.Goals as goal

-- Given, since a wrong body is refused 8 s sooner with it.
pub slice_bounds-copy_from_slice-end : goal.slice_bounds-copy_from_slice-end
slice_bounds-copy_from_slice-end c = search rules fits 100

-- Given, since a wrong body is refused 5 s sooner with it.
pub returns-then-buffer-length : goal.returns-then-buffer-length
returns-then-buffer-length c = search rules fits 100

-- Given, since a wrong body is refused 4 s sooner with it.
pub returns : goal.returns
returns c = search rules fits 100
