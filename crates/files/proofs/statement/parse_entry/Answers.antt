-- Each answer begins with the length of the line, so that it is refused before its search where a line that is too long was let through.
use Rattle.std.proofs.Common.{◌≡◌, Err, rules, length, ◌≤◌, arith}
use Rattle.files.specs.declared.fault.LineFault.TheVariants.{FieldCount}
use Rattle.files.specs.Statements.{entry_in}
use Rattle.files.specs.Words.{code_of}
use Rattle.files.proofs.Fields.{entry_says}
use Rattle.files.proofs.statement.parse_entry.Goals as goal

-- Given, since a wrong body is refused 8 s sooner with it.
pub returns-clause-entry : goal.returns-clause-entry
returns-clause-entry g c = let short : length c.args.line.now ≤ 80 = omega arith in search rules fits 400

pub returns-clause-says : goal.returns-clause-says
returns-clause-says g c = entry_says (code_of g.K.Kind.meaning.codes g.K.Notation.words) c.args.line.now _ (returns-clause-entry g c)

pub returns-in_err-first : goal.returns-in_err-first
returns-in_err-first g c =
    let short : length c.args.line.now ≤ 80 = omega arith in
    let code = code_of g.K.Kind.meaning.codes g.K.Notation.words in
    let r = c.from_residual.result in
    let e : r ≡ entry_in code c.args.line.now = search rules fits 400 in
    record { entry = e; says = entry_says code c.args.line.now r e }

pub returns-in_err-second : goal.returns-in_err-second
returns-in_err-second g c =
    let short : length c.args.line.now ≤ 80 = omega arith in
    let code = code_of g.K.Kind.meaning.codes g.K.Notation.words in
    let r = c.from_residual-in_err-second.result in
    let e : r ≡ entry_in code c.args.line.now = search rules fits 400 in
    record { entry = e; says = entry_says code c.args.line.now r e }

pub returns-in_err-set : goal.returns-in_err-set
returns-in_err-set g c =
    let short : length c.args.line.now ≤ 80 = omega arith in
    let code = code_of g.K.Kind.meaning.codes g.K.Notation.words in
    let r = c.from_residual-in_err-set.result in
    let e : r ≡ entry_in code c.args.line.now = search rules fits 400 in
    record { entry = e; says = entry_says code c.args.line.now r e }

pub returns-in_err-weight : goal.returns-in_err-weight
returns-in_err-weight g c =
    let short : length c.args.line.now ≤ 80 = omega arith in
    let code = code_of g.K.Kind.meaning.codes g.K.Notation.words in
    let r = c.from_residual-in_err-weight.result in
    let e : r ≡ entry_in code c.args.line.now = search rules fits 400 in
    record { entry = e; says = entry_says code c.args.line.now r e }

pub returns-in_err-person : goal.returns-in_err-person
returns-in_err-person g c =
    let short : length c.args.line.now ≤ 80 = omega arith in
    let code = code_of g.K.Kind.meaning.codes g.K.Notation.words in
    let r = c.from_residual-in_err-person.result in
    let e : r ≡ entry_in code c.args.line.now = search rules fits 400 in
    record { entry = e; says = entry_says code c.args.line.now r e }

pub returns-in_err-sworn : goal.returns-in_err-sworn
returns-in_err-sworn g c =
    let short : length c.args.line.now ≤ 80 = omega arith in
    let code = code_of g.K.Kind.meaning.codes g.K.Notation.words in
    let r = c.from_residual-in_err-sworn.result in
    let e : r ≡ entry_in code c.args.line.now = search rules fits 400 in
    record { entry = e; says = entry_says code c.args.line.now r e }

pub returns-in_default : goal.returns-in_default
returns-in_default g c =
    let short : length c.args.line.now ≤ 80 = omega arith in
    let code = code_of g.K.Kind.meaning.codes g.K.Notation.words in
    let e : Err FieldCount ≡ entry_in code c.args.line.now = search rules fits 400 in
    record { entry = e; says = entry_says code c.args.line.now (Err FieldCount) e }
