-- A row says of values what its entry says.
use Rattle.std.proofs.Common.{◌≡◌, ℕ, zero, suc, ◌-◌, ◌<◌, ◌≤◌, ◌^◌, Bool, true, false, cond, ◌&&◌, ◌||◌, eqb, ltb, sym, refl, ap, ◌∙◌, subst, inl, inr, arith}
use lib.Bits.{bit_or}
use Rattle.std.proofs.lemmas.Bool.{cases_Bool, cases_order, cond-true, cond-false, and_from, and_left, eqb-true, eq-eqb, ne_eqb, lt-ltb, le-ltb}
use Rattle.points.specs.Sets.{has}
use Rattle.points.proofs.United.{has_none, has_single, has_union}
use Rattle.kinds.specs.Meaning.{Meaning, Laws, Involutive}
use Rattle.statements.specs.declared.entry.Entry.{Entry}
use Rattle.statements.specs.Drafts.{converses, row_of, Means}
use Rattle.statements.proofs.Accepted.{Acceptable}

module _ {V : Type 0} (m : Meaning V) (laws : Laws m) (turns : Involutive m) (set : ℕ) where
  -- two codes have the same converse only where they are the same
  turned_apart : (c d : ℕ) → c < m.codes → d < m.codes → eqb (m.converse d) (m.converse c) ≡ eqb d c
  turned_apart c d hc hd = elim (cases_Bool (eqb d c)) [
    | inl same ↦ eq-eqb (m.converse d) (m.converse c) (ap m.converse (eqb-true d c same)) ∙ sym same
    | inr other ↦ ne_eqb (m.converse d) (m.converse c) (λ e.
        apart other (sym (turns.back d hd) ∙ ap m.converse e ∙ turns.back c hc)) ∙ sym other
  ]
    where
      apart : eqb d c ≡ false → d ≡ c → ⊥
      apart other same = clash (sym (eq-eqb d c same) ∙ other)
        where
          clash : true ≡ false → ⊥
          clash e = cc

  -- The converses of the codes below n in the set have the converse of a code exactly where that is one of them.
  turned_has : (n d : ℕ) → n ≤ m.codes → d < m.codes → has (converses m.converse n set) (m.converse d) ≡ (has set d && ltb d n)
  turned_has zero d hn hd = has_none (m.converse d) ∙ none (has set d) ∙ ap (λ (v : Bool). has set d && v) (sym (le-ltb d zero (omega arith)))
    where
      none : (v : Bool) → false ≡ (v && false)
      none true = refl
      none false = refl
  turned_has (suc n) d hn hd =
      let conv : ℕ → ℕ = m.converse in
      let low : ℕ = converses conv n set in
      let rest = turned_has n d (omega (arith, hn)) hd in
      let small : ltb (conv n) 64 ≡ true = lt-ltb (conv n) 64 (omega (arith, turns.code n (omega (arith, hn)), laws.few_codes)) in
      elim (cases_Bool (has set n)) [
        | inl t ↦ ap (λ (z : ℕ). has z (conv d)) (cond-true (has set n && ltb (conv n) 64) (bit_or low (2 ^ conv n)) low (and_from (has set n) (ltb (conv n) 64) t small))
            ∙ has_union low (2 ^ conv n) (conv d)
            ∙ ap (λ (v : Bool). has low (conv d) || v) (has_single (conv n) (conv d) ∙ turned_apart n d (omega (arith, hn)) hd)
            ∙ ap (λ (v : Bool). v || eqb d n) rest
            ∙ with d n t
        | inr f ↦ ap (λ (z : ℕ). has z (conv d)) (cond-false (has set n && ltb (conv n) 64) (bit_or low (2 ^ conv n)) low (and_left (has set n) (ltb (conv n) 64) f))
            ∙ rest ∙ without d n f
      ]
    where
      with : (d n : ℕ) → has set n ≡ true → ((has set d && ltb d n) || eqb d n) ≡ (has set d && ltb d (suc n))
      with d n t = elim (cases_order d n) [
        | inl same ↦ subst (λ (i : ℕ). ((has set i && ltb i n) || eqb i n) ≡ (has set i && ltb i (suc n))) (sym same) (level (has set n) (ltb n n) (eqb n n) (ltb n (suc n)) t (eq-eqb n n refl) (lt-ltb n (suc n) (omega arith)))
        | inr (inl below) ↦ before (has set d) (ltb d n) (eqb d n) (ltb d (suc n)) (lt-ltb d n below) (ne_eqb d n (λ e. omega (arith, e, below))) (lt-ltb d (suc n) (omega (arith, below)))
        | inr (inr above) ↦ beyond (has set d) (ltb d n) (eqb d n) (ltb d (suc n)) (le-ltb d n (omega (arith, above))) (ne_eqb d n (λ e. omega (arith, e, above))) (le-ltb d (suc n) (omega (arith, above)))
      ]
        where
          level : (h a e b : Bool) → h ≡ true → e ≡ true → b ≡ true → ((h && a) || e) ≡ (h && b)
          level h a e b p q r = rw p (rw q (rw r (or_true a)))
            where
              or_true : (a : Bool) → (a || true) ≡ true
              or_true true = refl
              or_true false = refl

          before : (h a e b : Bool) → a ≡ true → e ≡ false → b ≡ true → ((h && a) || e) ≡ (h && b)
          before true a e b p q r = rw p (rw r refl)
          before false a e b p q r = q

          beyond : (h a e b : Bool) → a ≡ false → e ≡ false → b ≡ false → ((h && a) || e) ≡ (h && b)
          beyond true a e b p q r = rw p (rw q (rw r refl))
          beyond false a e b p q r = q

      without : (d n : ℕ) → has set n ≡ false → (has set d && ltb d n) ≡ (has set d && ltb d (suc n))
      without d n f = elim (cases_order d n) [
        | inl same ↦ subst (λ (i : ℕ). (has set i && ltb i n) ≡ (has set i && ltb i (suc n))) (sym same) (ap (λ (v : Bool). v && ltb n n) f ∙ sym (ap (λ (v : Bool). v && ltb n (suc n)) f))
        | inr (inl below) ↦ ap (λ (v : Bool). has set d && v) (lt-ltb d n below ∙ sym (lt-ltb d (suc n) (omega (arith, below))))
        | inr (inr above) ↦ ap (λ (v : Bool). has set d && v) (le-ltb d n (omega (arith, above)) ∙ sym (le-ltb d (suc n) (omega (arith, above))))
      ]

  -- So the set of converses has the relation from v to u exactly where the set has that from u to v.
  pub turned_says : (u v : V) → m.lawful u → m.lawful v → has (converses m.converse m.codes set) (m.relation v u) ≡ has set (m.relation u v)
  turned_says u v hu hv =
      let one = laws.one u v hu hv in
      let is : m.converse (m.relation u v) ≡ m.relation v u = (laws.one v u hv hu).only (m.converse (m.relation u v)) (laws.turned u v hu hv (m.relation u v) one.that) in
      ap (has (converses m.converse m.codes set)) (sym is)
      ∙ turned_has m.codes (m.relation u v) (omega arith) one.below
      ∙ ap (λ (b : Bool). has set (m.relation u v) && b) (lt-ltb (m.relation u v) m.codes one.below)
      ∙ and_true (has set (m.relation u v))
    where
      and_true : (b : Bool) → (b && true) ≡ b
      and_true true = refl
      and_true false = refl

-- The row of an entry whose checks pass says what the entry says.
pub means : {V : Type 0} (m : Meaning V) → Laws m → Involutive m → (items : ℕ) (e : Entry) → Acceptable items e → Means m items e (row_of m.converse m.codes e)
means {V = V} m laws turns items e good x law =
    elim (cases_Bool (ltb e.first e.second)) [
      | inl t ↦ subst Says (sym t) refl
      | inr f ↦ subst Says (sym f) (turned_says m laws turns e.set (x (e.first - 1)) (x (e.second - 1))
          (law (e.first - 1) (omega (arith, good.first))) (law (e.second - 1) (omega (arith, good.second))))
    ]
  where
    Says : Bool → Type 0
    Says b = has (cond b e.set (converses m.converse m.codes e.set)) (m.relation (x (cond b (e.first - 1) (e.second - 1))) (x (cond b (e.second - 1) (e.first - 1))))
        ≡ has e.set (m.relation (x (e.first - 1)) (x (e.second - 1)))
