use Rattle.std.proofs.Common.{◌≡◌, length, None, ap, sym, subst, arith, rules}
use Rattle.files.specs.Files.{ReadsFile}
use Rattle.files.specs.Views.{view_of, start_of}
use Rattle.files.proofs.Readings.{reads_file}
use Rattle.files.proofs.Parting.{lines_le}
use Rattle.files.proofs.reader.Reader.new.Goals as goal

pub invariant_of-spot : goal.invariant_of-spot
invariant_of-spot c = record { room = (omega (arith, lines_le c.new.result.rest.now, ap length c.new.ensures.rest), omega arith) }

pub returns-clause-reads : goal.returns-clause-reads
returns-clause-reads c =
    let v : view_of (record { spot = c.if-file-gt-LARGEST.spot; waiting = None }) ≡ start_of c.args.file.now = search rules in
    subst (ReadsFile c.args.file.now) (sym v) (reads_file c.args.file.now)

-- Given, since a wrong body is refused 3 s sooner with it.
pub returns-clause-view : goal.returns-clause-view
returns-clause-view c = search rules fits 100
