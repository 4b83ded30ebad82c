use Rattle.files.proofs.Turns.{from_start, between_again, in_turn, sheet_next, sheet_end}
use Rattle.files.proofs.laws.reader_reads.Goals as goal

pub returns : goal.returns
returns c = record { start = from_start; next = between_again; fault = in_turn; sheet = sheet_next; end = sheet_end }
