-- The parts of the line, one after another. The set that is printed is that of the codes of the kind.
use Rattle.std.proofs.Common.{◌≡◌, ℕ, ◌<◌, Decides, List, Option, nat_lt, ap, rules}
use Rattle.std.proofs.lemmas.Bool.Decides.{Decides-ltb, same_from_decides}
use Rattle.std.proofs.lemmas.Result.{on_ok_weaker}
use Rattle.std.specs.Io.KnownBytes.{Appends}
use Rattle.points.specs.Sets.{has}
use Rattle.literature.specs.Printed.{set_words}
use Rattle.literature.proofs.Printing.{appends_as, appends_more}
use Rattle.literature.proofs.relations.print_words.Goals as goal

-- the words of a set that has just the codes below b
words_below : (words : List (List ℕ)) (set b : ℕ) (x y : Option (List ℕ)) → Appends x y (set_words words (has set)) → ((e : ℕ) → Decides (has set e) (e < b)) →
    Appends x y (set_words words (λ c. nat_lt c b))
words_below words set b x y written whole =
    let each : (e : ℕ) → has set e ≡ nat_lt e b = λ e. same_from_decides (has set e) (nat_lt e b) (whole e) (Decides-ltb e b) in
    let same : has set ≡ (λ e. nat_lt e b) = λ i e. each e i in
    appends_as x y (ap (set_words words) same) written

-- Given, since a wrong body is refused 6 s sooner with it.
pub returns : goal.returns
returns g c =
    let words = words_below g.K.Notation.words _ g.K.Kind.meaning.codes (g.W.Write.contents c.write.new.self) (g.W.Write.contents c.print_set.new.out) c.in_ok-print_set.ensures (search rules fits 100) in
    on_ok_weaker c.writeln.result (λ bytes. appends_more _ _ _ _ _ (appends_more _ _ _ _ _ c.in_ok-write.ensures.bytes words) bytes) c.writeln.ensures.bytes
