use Rattle.std.proofs.Common.{Some, None, rules}
use Rattle.files.specs.Views.{view_of}
use Rattle.files.specs.Words.{spelled}
use Rattle.files.proofs.Standing.{load_stands}
use Rattle.files.proofs.reader.Reader.load.Goals as goal

pub returns-clause-stands : goal.returns-clause-stands
returns-clause-stands g c = λ file h.
    let s = spelled g.K.Kind.meaning g.K.Notation.words g.K.Notation.initial g.T.TallyLetter.initial in
    load_stands file s (view_of c.args.self.now) (view_of (record { spot = Some c.load_body.new.spot; waiting = None })) (search rules) h

-- These five are given, since a wrong body is refused 13 to 15 s sooner with them.
pub returns-in-Err-clause-answer : goal.returns-in-Err-clause-answer
returns-in-Err-clause-answer g c = search rules fits 400

pub returns-in-Err-clause-draft : goal.returns-in-Err-clause-draft
returns-in-Err-clause-draft g c = search rules fits 400

pub returns-clause-answer : goal.returns-clause-answer
returns-clause-answer g c = search rules fits 400

pub returns-clause-after : goal.returns-clause-after
returns-clause-after g c = search rules fits 400

pub returns-clause-draft : goal.returns-clause-draft
returns-clause-draft g c = search rules fits 400
