use Rattle.std.proofs.Common.{Ok, rules, sym, ap, ◌∙◌, true-eqb, false-eqb}
use Rattle.files.specs.Parts.{left}
use Rattle.files.specs.Words.{code_of, all_words, with_words}
use Rattle.files.specs.Faults.{given}
use Rattle.files.specs.declared.fault.FieldFault.TheVariants.{NotWord}
use Rattle.files.proofs.Sets.{no_words, some_words, only_codes, just_named}
use Rattle.files.proofs.words.set_of.Goals as goal

pub returns-then-is_empty-clause-set : goal.returns-then-is_empty-clause-set
returns-then-is_empty-clause-set g c = sym (no_words (code_of g.K.Kind.meaning.codes g.K.Notation.words) c.args.field.now (true-eqb _ 0 c.if-is_empty.ensures))

pub returns-clause-of_kind : goal.returns-clause-of_kind
returns-clause-of_kind g c =
    let m = g.K.Kind.meaning in
    only_codes m.codes g.K.Notation.words c.args.field.now (Ok c.loop-word.set) (search rules)

pub returns-clause-named : goal.returns-clause-named
returns-clause-named g c = just_named (code_of g.K.Kind.meaning.codes g.K.Notation.words) c.args.field.now (Ok c.loop-word.set) (search rules)

pub loop-word-init : goal.loop-word-init
loop-word-init g c =
    let code = code_of g.K.Kind.meaning.codes g.K.Notation.words in
    some_words code c.args.field.now (false-eqb _ 0 c.if-is_empty.ensures)
    ∙ ap (λ ws. given (all_words code ws) (with_words code 0 ws) NotWord) (sym (ap left c.into_iter-word-iterator.ensures.into_iter_gives ∙ c.new-word-items.ensures.parts))

-- Given, since a wrong body is refused 10 s sooner with it.
pub loop-word-preserved : goal.loop-word-preserved
loop-word-preserved g c = search rules fits 100
