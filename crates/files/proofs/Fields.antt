-- What a line that is read says, by its bytes.
use Rattle.std.proofs.Common.{◌≡◌, ◌↔◌, ℕ, ◌<◌, ◌^◌, Bool, true, false, cond, ◌||◌, List, [], ◌∷◌, length, get_or, None, Ok, Option, Result, sym, refl, ap, ◌∙◌, subst, arith, ◌==◌, leb, codes}
use Rattle.std.proofs.lemmas.Bool.{leb-true, le-leb, eqb-true, ne_eqb, and_parts, cond-false}
use Rattle.std.proofs.lemmas.Bool.Decides.{nat_tests}
use Rattle.std.proofs.lemmas.Fmt.{digits_decimal, digits_value-decimal}
use Rattle.std.specs.Char.{is_ascii_digit}
use Rattle.std.specs.Fmt.{decimal}
use Rattle.std.specs.Int.{is_in_range}
use Rattle.std.specs.List.{join_with_byte, AllByRecursion, list_all}
use Rattle.std.specs.Option.{option_or}
use Rattle.statements.specs.declared.entry.Entry.{Entry}
use Rattle.files.specs.declared.fault.FieldFault.TheVariants.{NotWord}
use Rattle.files.specs.declared.fault.LineFault.{LineFault}
use Rattle.files.specs.declared.head.Head.{Head}
use Rattle.files.specs.Faults.{unless, given, answered}
use Rattle.files.specs.Heads.{line_fits, field, letter, is_kind, is_tally, head_in, head_of, SaysHead}
use Rattle.files.specs.Numbers.{is_number, value_of}
use Rattle.files.specs.Parts.{parted, fields, Lacks}
use Rattle.files.specs.Statements.{is_mark, has_field, entry_in, entry_of, SaysEntry}
use Rattle.files.specs.Words.{are_words, set_of}
use Rattle.files.proofs.Digits.{digit_parts, numerals, number_written, written_number}
use Rattle.files.proofs.Parting.{parted_cut, parted_whole, part_lacks, parts_joined}

-- A check is passed exactly if what should hold does.
passed : {F T : Type 0} (b : Bool) (f : F) (o : Option F) (x y : T) → answered (option_or (unless b f) o) x ≡ Ok y → (b ≡ true) × (answered o x ≡ Ok y)
passed true f o x y e = (refl, e)
passed false f o x y e = cc

passes : {F T : Type 0} (b : Bool) (f : F) (o : Option F) (x y : T) → b ≡ true → answered o x ≡ Ok y → answered (option_or (unless b f) o) x ≡ Ok y
passes true f o x y h e = e
passes false f o x y h e = cc

same_value : {F T : Type 0} (x y : T) → ◌≡◌ {A = Result T F} (Ok x) (Ok y) → x ≡ y
same_value x y e = cc

-- texts without the byte, joined by it, are parted again
parted_join : (c : ℕ) (p : List ℕ) (ps : List (List ℕ)) → AllByRecursion (Lacks c) (p ∷ ps) → parted c (join_with_byte c (p ∷ ps)) ≡ p ∷ ps
parted_join c p [] l = parted_whole c p p (l.0, refl)
parted_join c p (q ∷ ps) l = parted_cut c _ p (join_with_byte c (q ∷ ps)) (l.0, refl) ∙ ap (λ r. p ∷ r) (parted_join c q ps l.1)

-- no space stands in a number
digits_lack : (bs : List ℕ) → list_all is_ascii_digit bs ≡ true → Lacks 32 bs
digits_lack [] e = tt
digits_lack (b ∷ bs) e = let p = digit_parts b bs e in (λ z. absurd (omega (arith, p.0, z)), digits_lack bs p.1)

decimal_lacks : (n : ℕ) → n < 10 ^ 6 → Lacks 32 (decimal n)
decimal_lacks n h = digits_lack (decimal n) (digits_decimal numerals n (omega (arith, h)))

decimal_value : (n : ℕ) → n < 10 ^ 6 → value_of (decimal n) ≡ n
decimal_value n h = digits_value-decimal numerals n (omega (arith, h))

-- a field is one byte, if it has a letter
one_letter : (f : List ℕ) → (letter f ≡ 0 → ⊥) → f ≡ letter f ∷ []
one_letter [] h = absurd (h refl)
one_letter (b ∷ []) h = refl
one_letter (b ∷ c ∷ f) h = absurd (h (cond-false _ _ _ (ne_eqb (length (b ∷ c ∷ f)) 1 (λ z. absurd (omega (arith, z))))))

kind_some : (l : ℕ) → is_kind l ≡ true → 32 < l
kind_some l h = grind (arith, nat_tests)

tally_some : (l : ℕ) → is_tally l ≡ true → 32 < l
tally_some l h = grind (arith, nat_tests)

kind_alone : (f : List ℕ) → is_kind (letter f) ≡ true → f ≡ letter f ∷ []
kind_alone f h = one_letter f (λ z. absurd (omega (arith, z, kind_some (letter f) h)))

tally_alone : (f : List ℕ) → is_tally (letter f) ≡ true → f ≡ letter f ∷ []
tally_alone f h = one_letter f (λ z. absurd (omega (arith, z, tally_some (letter f) h)))

-- three fields
three : (fs : List (List ℕ)) → (length fs == 3) ≡ true → fs ≡ get_or fs 0 [] ∷ get_or fs 1 [] ∷ get_or fs 2 [] ∷ []
three [] e = cc
three (a ∷ []) e = cc
three (a ∷ b ∷ []) e = cc
three (a ∷ b ∷ c ∷ []) e = refl
three (a ∷ b ∷ c ∷ d ∷ fs) e = absurd (grind (arith, nat_tests))

size_small : (n : ℕ) → is_in_range 1 12 n ≡ true → n < 10 ^ 6
size_small n h = grind (arith, nat_tests)

alike_heads : (k k' n n' l l' : ℕ) → k ≡ k' → n ≡ n' → l ≡ l' → ◌≡◌ {A = Head} (record { letter = k; size = n; tally = l }) (record { letter = k'; size = n'; tally = l' })
alike_heads k k' n n' l l' ek en el = cc

alike_lists : (k k' n n' l l' : List ℕ) → k ≡ k' → n ≡ n' → l ≡ l' → ◌≡◌ {A = List (List ℕ)} (k ∷ n ∷ l ∷ []) (k' ∷ n' ∷ l' ∷ [])
alike_lists k k' n n' l l' ek en el = cc

module _ (line : List ℕ) where
  pub head_said : (h : Head) → head_in line ≡ Ok h → SaysHead line h
  head_said h e =
      let a = passed _ _ _ (head_of line) h e in
      let b = passed _ _ _ (head_of line) h a.1 in
      let c = passed _ _ _ (head_of line) h b.1 in
      let d = passed _ _ _ (head_of line) h c.1 in
      let t = passed _ _ _ (head_of line) h d.1 in
      let s = passed _ _ None (head_of line) h t.1 in
      let k : field 1 line ≡ letter (field 1 line) ∷ [] = kind_alone (field 1 line) c.0 in
      let n : field 2 line ≡ decimal (value_of (field 2 line)) = (number_written (field 2 line) d.0).1 in
      let l : field 3 line ≡ letter (field 3 line) ∷ [] = tally_alone (field 3 line) t.0 in
      let said : SaysHead line (head_of line) = record {
        fields = sym (parts_joined 32 line) ∙ ap (join_with_byte 32) (three (fields line) b.0 ∙ alike_lists _ _ _ _ _ _ k n l);
        short = leb-true _ _ a.0;
        kind = c.0;
        size = s.0;
        tally = t.0;
      } in
      subst (SaysHead line) (same_value (head_of line) h s.1) said

  said_head : (h : Head) → SaysHead line h → head_in line ≡ Ok h
  said_head h s =
      let small = size_small h.size s.size in
      let f : fields line ≡ (h.letter ∷ []) ∷ decimal h.size ∷ (h.tally ∷ []) ∷ [] =
      ap fields s.fields ∙ parted_join 32 (h.letter ∷ []) (decimal h.size ∷ (h.tally ∷ []) ∷ []) (
        (λ z. absurd (omega (arith, z, kind_some h.letter s.kind)), tt),
        (decimal_lacks h.size small, ((λ z. absurd (omega (arith, z, tally_some h.tally s.tally)), tt), tt)),
      ) in
      let k : letter (field 1 line) ≡ h.letter = ap (λ fs. letter (get_or fs 0 [])) f in
      let n : field 2 line ≡ decimal h.size = ap (λ fs. get_or fs 1 []) f in
      let l : letter (field 3 line) ≡ h.tally = ap (λ fs. letter (get_or fs 2 [])) f in
      let v : value_of (field 2 line) ≡ h.size = ap value_of n ∙ decimal_value h.size small in
      let same : head_of line ≡ h = alike_heads _ _ _ _ _ _ k v l in
      passes (line_fits line) _ _ (head_of line) h (le-leb _ _ s.short)
      (passes (length (fields line) == 3) _ _ (head_of line) h (ap (λ fs. length fs == 3) f)
      (passes (is_kind (letter (field 1 line))) _ _ (head_of line) h (ap is_kind k ∙ s.kind)
      (passes (is_number (field 2 line)) _ _ (head_of line) h (ap is_number n ∙ written_number h.size small)
      (passes (is_tally (letter (field 3 line))) _ _ (head_of line) h (ap is_tally l ∙ s.tally)
      (passes (is_in_range 1 12 (value_of (field 2 line))) _ None (head_of line) h (ap (is_in_range 1 12) v ∙ s.size)
      (ap Ok same))))))

-- A line is read as a head exactly if it says it.
pub head_says : (line : List ℕ) (r : Result Head LineFault) → r ≡ head_in line → (h : Head) → (r ≡ Ok h) ↔ SaysHead line h
head_says line r e h = (λ o. head_said line h (sym e ∙ o), λ s. e ∙ said_head line h s)

-- five fields, and the mark where there is a sixth
abbrev marks : Bool → List (List ℕ)
marks sworn = cond sworn (codes "!" ∷ []) []

marked : (f : List ℕ) → is_mark f ≡ true → f ≡ codes "!"
marked [] e = cc
marked (b ∷ []) e = ap (λ x. x ∷ []) (eqb-true b 33 (and_parts (b == 33) true e).0)
marked (b ∷ c ∷ f) e = absurd (omega (arith, eqb-true (length (b ∷ c ∷ f)) 1 (and_parts (length (b ∷ c ∷ f) == 1) _ e).0))

five : (fs : List (List ℕ)) → (length fs == 5 || length fs == 6) ≡ true → cond (leb 6 (length fs)) (is_mark (get_or fs 5 [])) true ≡ true
    → fs ≡ get_or fs 0 [] ∷ get_or fs 1 [] ∷ get_or fs 2 [] ∷ get_or fs 3 [] ∷ get_or fs 4 [] ∷ marks (leb 6 (length fs))
five [] k m = cc
five (a ∷ []) k m = cc
five (a ∷ b ∷ []) k m = cc
five (a ∷ b ∷ w ∷ []) k m = cc
five (a ∷ b ∷ w ∷ c ∷ []) k m = cc
five (a ∷ b ∷ w ∷ c ∷ d ∷ []) k m = refl
five (a ∷ b ∷ w ∷ c ∷ d ∷ f ∷ []) k m = ap (λ x. a ∷ b ∷ w ∷ c ∷ d ∷ x ∷ []) (marked f m)
five (a ∷ b ∷ w ∷ c ∷ d ∷ f ∷ g ∷ fs) k m = absurd (grind (arith, nat_tests))

marks_lack : (sworn : Bool) → AllByRecursion (Lacks 32) (marks sworn)
marks_lack true = ((λ z. absurd (omega (arith, z)), tt), tt)
marks_lack false = tt

module _ (a b w c d : List ℕ) where
  abbrev listed : Bool → List (List ℕ)
  listed sworn = a ∷ b ∷ w ∷ c ∷ d ∷ marks sworn

  listed_count : (sworn : Bool) → (length (listed sworn) == 5 || length (listed sworn) == 6) ≡ true
  listed_count true = refl
  listed_count false = refl

  listed_six : (sworn : Bool) → leb 6 (length (listed sworn)) ≡ sworn
  listed_six true = refl
  listed_six false = refl

  listed_mark : (sworn : Bool) → cond (leb 6 (length (listed sworn))) (is_mark (get_or (listed sworn) 5 [])) true ≡ true
  listed_mark true = refl
  listed_mark false = refl

given_parts : {T F : Type 0} (b : Bool) (x y : T) (f : F) → given b x f ≡ Ok y → (b ≡ true) × (x ≡ y)
given_parts true x y f e = (refl, cc)
given_parts false x y f e = cc

alike : (a a' b b' s s' w w' p p' : ℕ) (m m' : Bool) → a ≡ a' → b ≡ b' → s ≡ s' → w ≡ w' → p ≡ p' → m ≡ m'
    → ◌≡◌ {A = Entry} (record { first = a; second = b; set = s; weight = w; person = p; sworn = m }) (record { first = a'; second = b'; set = s'; weight = w'; person = p'; sworn = m' })
alike a a' b b' s s' w w' p p' m m' ea eb es ew ep em = cc

alike_fields : (a a' b b' w c c' d d' : List ℕ) (ms : List (List ℕ)) → a ≡ a' → b ≡ b' → c ≡ c' → d ≡ d' → ◌≡◌ {A = List (List ℕ)} (a ∷ b ∷ w ∷ c ∷ d ∷ ms) (a' ∷ b' ∷ w ∷ c' ∷ d' ∷ ms)
alike_fields a a' b b' w c c' d d' ms ea eb ec ed = cc

module _ (code : List ℕ → Option ℕ) (line : List ℕ) where
  entry_said : (e : Entry) → entry_in code line ≡ Ok e → SaysEntry code line e
  entry_said e o =
      let x = entry_of code line in
      let a = passed _ _ _ x e o in
      let k = passed _ _ _ x e a.1 in
      let n1 = passed _ _ _ x e k.1 in
      let n2 = passed _ _ _ x e n1.1 in
      let w = passed _ _ _ x e n2.1 in
      let n4 = passed _ _ _ x e w.1 in
      let n5 = passed _ _ _ x e n4.1 in
      let m = passed _ _ None x e n5.1 in
      let w1 = number_written (field 1 line) n1.0 in
      let w2 = number_written (field 2 line) n2.0 in
      let w4 = number_written (field 4 line) n4.0 in
      let w5 = number_written (field 5 line) n5.0 in
      let f = five (fields line) k.0 m.0 in
      let said : SaysEntry code line x = record {
        words = field 3 line;
        one_field = part_lacks 32 line 2 (grind (arith, nat_tests, k.0));
        fields = sym (parts_joined 32 line) ∙ ap (join_with_byte 32) (f ∙ alike_fields _ _ _ _ (field 3 line) _ _ _ _ (marks (has_field 6 line)) w1.1 w2.1 w4.1 w5.1);
        short = leb-true _ _ a.0;
        first = w1.0;
        second = w2.0;
        weight = w4.0;
        person = w5.0;
        set = ap (λ b. given b (set_of code (field 3 line)) NotWord) w.0;
      } in
      subst (SaysEntry code line) (same_value x e m.1) said

  said_entry : (e : Entry) → SaysEntry code line e → entry_in code line ≡ Ok e
  said_entry e s =
      let x = entry_of code line in
      let g = given_parts (are_words code s.words) (set_of code s.words) e.set NotWord s.set in
      let a = decimal e.first in
      let b = decimal e.second in
      let c = decimal e.weight in
      let d = decimal e.person in
      let f : fields line ≡ listed a b s.words c d e.sworn =
      ap fields s.fields ∙ parted_join 32 a (b ∷ s.words ∷ c ∷ d ∷ marks e.sworn) (
        decimal_lacks e.first s.first,
        (decimal_lacks e.second s.second, (s.one_field, (decimal_lacks e.weight s.weight, (decimal_lacks e.person s.person, marks_lack e.sworn)))),
      ) in
      let f1 : field 1 line ≡ a = ap (λ fs. get_or fs 0 []) f in
      let f2 : field 2 line ≡ b = ap (λ fs. get_or fs 1 []) f in
      let f3 : field 3 line ≡ s.words = ap (λ fs. get_or fs 2 []) f in
      let f4 : field 4 line ≡ c = ap (λ fs. get_or fs 3 []) f in
      let f5 : field 5 line ≡ d = ap (λ fs. get_or fs 4 []) f in
      let same : x ≡ e = alike _ _ _ _ _ _ _ _ _ _ _ _
      (ap value_of f1 ∙ decimal_value e.first s.first)
      (ap value_of f2 ∙ decimal_value e.second s.second)
      (ap (set_of code) f3 ∙ g.1)
      (ap value_of f4 ∙ decimal_value e.weight s.weight)
      (ap value_of f5 ∙ decimal_value e.person s.person)
      (ap (λ fs. leb 6 (length fs)) f ∙ listed_six a b s.words c d e.sworn) in
      passes (line_fits line) _ _ x e (le-leb _ _ s.short)
      (passes (length (fields line) == 5 || length (fields line) == 6) _ _ x e (ap (λ fs. length fs == 5 || length fs == 6) f ∙ listed_count a b s.words c d e.sworn)
      (passes (is_number (field 1 line)) _ _ x e (ap is_number f1 ∙ written_number e.first s.first)
      (passes (is_number (field 2 line)) _ _ x e (ap is_number f2 ∙ written_number e.second s.second)
      (passes (are_words code (field 3 line)) _ _ x e (ap (are_words code) f3 ∙ g.0)
      (passes (is_number (field 4 line)) _ _ x e (ap is_number f4 ∙ written_number e.weight s.weight)
      (passes (is_number (field 5 line)) _ _ x e (ap is_number f5 ∙ written_number e.person s.person)
      (passes (cond (has_field 6 line) (is_mark (field 6 line)) true) _ None x e (ap (λ fs. cond (leb 6 (length fs)) (is_mark (get_or fs 5 [])) true) f ∙ listed_mark a b s.words c d e.sworn)
      (ap Ok same))))))))

-- A line is read as an entry exactly if it says it.
pub entry_says : (code : List ℕ → Option ℕ) (line : List ℕ) (r : Result Entry LineFault) → r ≡ entry_in code line → (e : Entry) → (r ≡ Ok e) ↔ SaysEntry code line e
entry_says code line r q e = (λ o. entry_said code line e (sym q ∙ o), λ s. q ∙ said_entry code line e s)
