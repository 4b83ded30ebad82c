-- A report is read from its front, part by part.
use Rattle.std.proofs.Common.{◌≡◌, ◌^◌, inl, inr, ℕ, ◌+◌, ◌<◌, Bool, true, false, cond, List, [], ◌∷◌, ◌++◌, length, get_or, drop, sym, refl, ap, ◌∙◌, codes, append_assoc, arith}
use Rattle.std.specs.List.{AllByRecursion}
use Rattle.std.specs.Fmt.{decimal}
use Rattle.std.proofs.lemmas.List.{append_cancel_left}
use Rattle.std.proofs.lemmas.Fmt.{length-decimal-le}
use Rattle.files.specs.Parts.{Lacks}
use Rattle.reports.specs.Lines.{Print, sheet_line, item_line, person_line, lines_from}
use Rattle.reports.specs.Account.{Account}
use Rattle.reports.specs.Apart.{decimals_apart, decimal_lacks, first_same}
use Rattle.reports.specs.ReadBack.{ReadBack, SameCharges}

short_number : (n : ℕ) → n < 2 ^ 64 → length (decimal n) < 64
short_number n h = omega (arith, length-decimal-le 20 n (omega arith) (omega (arith, h)) h)

-- texts one after another, put together from the right
three_and_three : (a b c d e rest : List ℕ) → a ++ b ++ c ++ d ++ e ++ rest ≡ (a ++ b ++ c) ++ (d ++ (e ++ rest))
three_and_three a b c d e rest = simp append_assoc refl

five_and_rest : (a b c d e rest : List ℕ) → a ++ b ++ c ++ d ++ e ++ rest ≡ a ++ (b ++ (c ++ (d ++ (e ++ rest))))
five_and_rest a b c d e rest = simp append_assoc refl

to_the_right : (a b c d e f g h i j rest : List ℕ)
    → a ++ b ++ c ++ d ++ e ++ (f ++ g ++ h ++ i ++ j) ++ rest ≡ a ++ (b ++ (c ++ (d ++ (e ++ (f ++ (g ++ (h ++ (i ++ (j ++ rest)))))))))
to_the_right a b c d e f g h i j rest = simp append_assoc refl

abbrev state : Bool → List ℕ
state finished = cond finished (codes "final\n") (codes "open\n")

-- the text of a sheet's line and what follows, part after part
abbrev parts : {V C : Type 0} → Print V C → ℕ → ℕ → C → C → Bool → List ℕ → List ℕ
parts p number items cost floor finished rest =
    codes "sheet " ++ (decimal number ++ (32 ∷ p.kind ∷ 32 ∷ (decimal items ++ (32 ∷ p.tally ∷ (codes " cost " ++ (p.cost cost
    ++ (32 ∷ (codes "floor " ++ (p.cost floor ++ (32 ∷ (state finished ++ rest)))))))))))

in_parts : {V C : Type 0} (p : Print V C) (number items : ℕ) (cost floor : C) (finished : Bool) (rest : List ℕ)
    → sheet_line p number items cost floor finished ++ rest ≡ parts p number items cost floor finished rest
in_parts p number items cost floor true rest =
    to_the_right (codes "sheet ") (decimal number) (32 ∷ p.kind ∷ 32 ∷ []) (decimal items) (32 ∷ p.tally ∷ []) (codes " cost ") (p.cost cost) (codes " floor ") (p.cost floor) (codes " final\n") rest
in_parts p number items cost floor false rest =
    to_the_right (codes "sheet ") (decimal number) (32 ∷ p.kind ∷ 32 ∷ []) (decimal items) (32 ∷ p.tally ∷ []) (codes " cost ") (p.cost cost) (codes " floor ") (p.cost floor) (codes " open\n") rest

state_same : (b d : Bool) (xs ys : List ℕ) → state b ++ xs ≡ state d ++ ys → (b ≡ d) × (xs ≡ ys)
state_same true true xs ys e = (refl, ap (drop 6) e)
state_same true false xs ys e = absurd (omega (arith, ap (λ (bs : List ℕ). get_or bs 0 0) e))
state_same false true xs ys e = absurd (omega (arith, ap (λ (bs : List ℕ). get_or bs 0 0) e))
state_same false false xs ys e = (refl, ap (drop 5) e)

module _ {V C : Type 0} (p : Print V C) (nothing : C → Bool)
    (values_apart : (u v : V) → length (p.value u) < 64 → p.value u ≡ p.value v → u ≡ v) (value_lacks : (v : V) → Lacks 10 (p.value v))
    (costs_apart : (c d : C) → length (p.cost c) < 64 → p.cost c ≡ p.cost d → c ≡ d) (cost_lacks : (c : C) → Lacks 10 (p.cost c) × Lacks 32 (p.cost c)) where
  -- the lines of an item, and then of all
  item_same : (i : ℕ) (u v : V) (xs ys : List ℕ) → item_line p i u ++ xs ≡ item_line p i v ++ ys → (p.value u ≡ p.value v) × (xs ≡ ys)
  item_same i u v xs ys e =
      let to : (w : V) (zs : List ℕ) → item_line p i w ++ zs ≡ (codes "item " ++ decimal i ++ (32 ∷ [])) ++ (p.value w ++ (10 ∷ zs)) = λ w zs. three_and_three (codes "item ") (decimal i) (32 ∷ []) (p.value w) (10 ∷ []) zs in
      first_same 10 (p.value u) xs (p.value v) ys (value_lacks u) (value_lacks v)
      (append_cancel_left (codes "item " ++ decimal i ++ (32 ∷ [])) _ _ (sym (to u xs) ∙ e ∙ to v ys))

  items_same : (i : ℕ) (us vs : List V) (xs ys : List ℕ) → length us ≡ length vs → AllByRecursion (λ v. length (p.value v) < 64) us
      → lines_from (item_line p) i us ++ xs ≡ lines_from (item_line p) i vs ++ ys → (us ≡ vs) × (xs ≡ ys)
  items_same i [] [] xs ys l s e = (refl, e)
  items_same i [] (v ∷ vs) xs ys l s e = absurd (omega (arith, l))
  items_same i (u ∷ us) [] xs ys l s e = absurd (omega (arith, l))
  items_same i (u ∷ us) (v ∷ vs) xs ys l s e =
      let here = item_same i u v (lines_from (item_line p) (i + 1) us ++ xs) (lines_from (item_line p) (i + 1) vs ++ ys)
      (sym (append_assoc (item_line p i u) (lines_from (item_line p) (i + 1) us) xs) ∙ e ∙ append_assoc (item_line p i v) (lines_from (item_line p) (i + 1) vs) ys) in
      let value = values_apart u v s.0 here.0 in
      let others = items_same (i + 1) us vs xs ys (omega (arith, l)) s.1 here.1 in
      (λ t. value t ∷ others.0 t, others.1)

  -- the line of a person who is charged more than nothing, and what follows
  abbrev charged : ℕ → C → List ℕ → List ℕ
  charged k c rest = codes "person " ++ (decimal k ++ (32 ∷ (codes "charge " ++ (p.cost c ++ (10 ∷ rest)))))

  no_line : (k : ℕ) (c : C) (rest : List ℕ) → nothing c ≡ true → person_line p nothing k c ++ rest ≡ rest
  no_line k c rest e = ap (λ (b : Bool). cond b [] (codes "person " ++ decimal k ++ codes " charge " ++ p.cost c ++ (10 ∷ [])) ++ rest) e

  a_line : (k : ℕ) (c : C) (rest : List ℕ) → nothing c ≡ false → person_line p nothing k c ++ rest ≡ charged k c rest
  a_line k c rest e =
      ap (λ (b : Bool). cond b [] (codes "person " ++ decimal k ++ codes " charge " ++ p.cost c ++ (10 ∷ [])) ++ rest) e
      ∙ five_and_rest (codes "person ") (decimal k) (codes " charge ") (p.cost c) (10 ∷ []) rest

  -- no line of a later person begins as that of person k
  later : (k j : ℕ) (cs : List C) (rest : List ℕ) → k < j → k < 2 ^ 64 → lines_from (person_line p nothing) j cs ≡ codes "person " ++ (decimal k ++ (32 ∷ rest)) → ⊥
  later k j [] rest l s e = omega (arith, ap length e)
  later k j (c ∷ cs) rest l s e = by (nothing c) refl (later k (j + 1) cs rest (omega (arith, l)) s)
    where
      by : (b : Bool) → nothing c ≡ b → (lines_from (person_line p nothing) (j + 1) cs ≡ codes "person " ++ (decimal k ++ (32 ∷ rest)) → ⊥) → ⊥
      by true t others = others (sym (no_line j c _ t) ∙ e)
      by false t others =
          let same = first_same 32 (decimal k) rest (decimal j) _ (decimal_lacks 32 refl k) (decimal_lacks 32 refl j) (ap (drop 7) (sym e ∙ a_line j c _ t)) in
          omega (arith, l, decimals_apart k j (short_number k s) same.0)

  -- the persons of one list, when the other has come to its end
  none_left : (k : ℕ) (ds : List C) → [] ≡ lines_from (person_line p nothing) k ds → SameCharges nothing [] ds
  none_left k [] e = tt
  none_left k (d ∷ ds) e = by (nothing d) refl (none_left (k + 1) ds)
    where
      by : (b : Bool) → nothing d ≡ b → ([] ≡ lines_from (person_line p nothing) (k + 1) ds → SameCharges nothing [] ds) → SameCharges nothing [] (d ∷ ds)
      by true t others = (t, others (e ∙ no_line k d _ t))
      by false t others = absurd (omega (arith, ap length (e ∙ a_line k d _ t)))

  none_before : (k : ℕ) (cs : List C) → lines_from (person_line p nothing) k cs ≡ [] → SameCharges nothing cs []
  none_before k [] e = tt
  none_before k (c ∷ cs) e = by (nothing c) refl (none_before (k + 1) cs)
    where
      by : (b : Bool) → nothing c ≡ b → (lines_from (person_line p nothing) (k + 1) cs ≡ [] → SameCharges nothing cs []) → SameCharges nothing (c ∷ cs) []
      by true t others = (t, others (sym (no_line k c _ t) ∙ e))
      by false t others = absurd (omega (arith, ap length (sym (a_line k c _ t) ∙ e)))

  -- the lines of the persons
  charges_same : (k : ℕ) (cs ds : List C) → k + length cs < 2 ^ 64 → AllByRecursion (λ c. length (p.cost c) < 64) cs
      → lines_from (person_line p nothing) k cs ≡ lines_from (person_line p nothing) k ds → SameCharges nothing cs ds
  charges_same k [] ds l s e = none_left k ds e
  charges_same k (c ∷ cs) [] l s e = none_before k (c ∷ cs) e
  charges_same k (c ∷ cs) (d ∷ ds) l s e = by (nothing c) (nothing d) refl refl (charges_same (k + 1) cs ds (omega (arith, l)) s.1)
    where
      by : (b b' : Bool) → nothing c ≡ b → nothing d ≡ b'
          → (lines_from (person_line p nothing) (k + 1) cs ≡ lines_from (person_line p nothing) (k + 1) ds → SameCharges nothing cs ds) → SameCharges nothing (c ∷ cs) (d ∷ ds)
      by true true t u others = (inl (t, u), others (sym (no_line k c _ t) ∙ e ∙ no_line k d _ u))
      by true false t u others = absurd (later k (k + 1) cs _ (omega arith) (omega (arith, l)) (sym (no_line k c _ t) ∙ e ∙ a_line k d _ u))
      by false true t u others = absurd (later k (k + 1) ds _ (omega arith) (omega (arith, l)) (sym (no_line k d _ u) ∙ sym e ∙ a_line k c _ t))
      by false false t u others =
          let here = append_cancel_left (decimal k) _ _ (ap (drop 7) (sym (a_line k c _ t) ∙ e ∙ a_line k d _ u)) in
          let same = first_same 10 (p.cost c) _ (p.cost d) _ (cost_lacks c).0 (cost_lacks d).0 (ap (drop 8) here) in
          (inr (costs_apart c d s.0 same.0), others same.1)

  -- the whole report
  pub reads_back : ReadBack p nothing
  reads_back m n a b s e =
      let charges : Account V C → List ℕ = λ x. lines_from (person_line p nothing) 1 x.charges in
      let rest : Account V C → List ℕ = λ x. lines_from (item_line p) 1 x.values ++ charges x in
      let to : (k : ℕ) (x : Account V C) → sheet_line p k (length x.values) x.cost x.floor x.finished ++ lines_from (item_line p) 1 x.values ++ charges x
      ≡ parts p k (length x.values) x.cost x.floor x.finished (rest x) =
      λ k x. append_assoc (sheet_line p k (length x.values) x.cost x.floor x.finished) (lines_from (item_line p) 1 x.values) (charges x)
      ∙ in_parts p k (length x.values) x.cost x.floor x.finished (rest x) in
      let sheets = first_same 32 (decimal m) _ (decimal n) _ (decimal_lacks 32 refl m) (decimal_lacks 32 refl n) (ap (drop 6) (sym (to m a) ∙ e ∙ to n b)) in
      let items = first_same 32 (decimal (length a.values)) _ (decimal (length b.values)) _ (decimal_lacks 32 refl (length a.values)) (decimal_lacks 32 refl (length b.values)) (ap (drop 2) sheets.1) in
      let costs = first_same 32 (p.cost a.cost) _ (p.cost b.cost) _ (cost_lacks a.cost).1 (cost_lacks b.cost).1 (ap (drop 7) items.1) in
      let floors = first_same 32 (p.cost a.floor) _ (p.cost b.floor) _ (cost_lacks a.floor).1 (cost_lacks b.floor).1 (ap (drop 6) costs.1) in
      let states = state_same a.finished b.finished (rest a) (rest b) floors.1 in
      let values = items_same 1 a.values b.values (charges a) (charges b) (decimals_apart (length a.values) (length b.values) (short_number (length a.values) s.items) items.0) s.values states.1 in
      record {
        number = decimals_apart m n (short_number m s.number) sheets.0;
        values = values.0;
        cost = costs_apart a.cost b.cost s.cost costs.0;
        floor = costs_apart a.floor b.floor s.floor floors.0;
        finished = states.0;
        charges = charges_same 1 a.charges b.charges (omega (arith, s.persons)) s.charges values.1;
      }
