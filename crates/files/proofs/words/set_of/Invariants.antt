use Rattle.std.proofs.Common.{◌≡◌}
use Rattle.files.specs.Parts.{left}
use Rattle.files.specs.Words.{code_of, all_words, with_words, set_in}
use Rattle.files.specs.Faults.{given}
use Rattle.files.specs.declared.fault.FieldFault.TheVariants.{NotWord}
use Rattle.files.proofs.words.set_of.Given as the

-- the words that are left give the same answer
abbrev pub invariant-loop-word : the.invariant-loop-word
invariant-loop-word g l =
    let code = code_of g.K.Kind.meaning.codes g.K.Notation.words in
    set_in code l.field ≡ given (all_words code (left l.word-iterator)) (with_words code l.set (left l.word-iterator)) NotWord
