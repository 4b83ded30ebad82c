use Rattle.std.proofs.Common.{refl}
use Rattle.files.proofs.Parting.{parts_joined, parts_apart, parts_counted}
use Rattle.files.proofs.parts.Parts.new.Goals as goal

pub returns : goal.returns
returns c = record {
  parts = refl;
  joined = parts_joined c.args.by c.args.text.now;
  apart = parts_apart c.args.by c.args.text.now;
  count = parts_counted c.args.by c.args.text.now;
}
