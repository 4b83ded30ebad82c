-- Every network of at most 12 items can be stated: by one row for each pair, with the set of the codes that the network allows.
use Rattle.std.proofs.Common.{◌≡◌, ℕ, zero, suc, ◌+◌, ◌*◌, ◌^◌, ◌<◌, ◌≤◌, Bool, true, false, eqb, List, [], ◌∷◌, length, sym, refl, ap, ◌∙◌, subst, inl, inr, pow-suc, arith}
use Rattle.std.specs.List.{AllByRecursion as Every, list_all}
use Rattle.std.proofs.lemmas.Bool.{cases_lt, cond_both, cond-true, cond-false, eq-eqb, ne_eqb}
use Rattle.std.proofs.Math.Bool.{and-true}
use Rattle.points.specs.Scenarios.{pairs}
use Rattle.points.specs.Sets.{has}
use Rattle.points.proofs.Placed.{pair_at, pairs_up}
use Rattle.points.proofs.Inserted.{has_add_below, has_add_here}
use Rattle.points.proofs.Tabled.{set_of, has_beyond}
use Rattle.tallies.specs.Groups.{group}
use Rattle.rules.specs.declared.row.Row.{Row}
use Rattle.rules.specs.Rows.{counting, spot}
use Rattle.rules.specs.Properly.{proper}
use Rattle.rules.specs.Networks.{Network, Stated, EveryStated}
use Rattle.rules.proofs.Properly.{Sound, sound_from, proper_from, proper_is}
use Rattle.rules.proofs.Costs.{counting_all}

-- The set of the codes below b that pass is a set of b codes, and has just these.
set_small : (f : ℕ → Bool) (b : ℕ) → set_of f b < 2 ^ b
set_small f zero = omega arith
set_small f (suc e) =
    let small = set_small f e in
    let double : 2 ^ suc e ≡ 2 ^ e * 2 = pow-suc 2 e in
    cond_both (f e) (2 ^ e) 0 (λ z. z + set_of f e < 2 ^ suc e) (λ t. omega arith) (λ t. omega arith)

set_has : (f : ℕ → Bool) (b c : ℕ) → c < b → has (set_of f b) c ≡ f c
set_has f zero c l = absurd (omega arith)
set_has f (suc e) c l =
    let s : ℕ = set_of f e in
    let turn : 2 ^ e + s ≡ s + 2 ^ e = omega arith in
    let none : 0 + s ≡ s = omega arith in
    elim (cases_lt c e) [
      | inl lt ↦ cond_both (f e) (2 ^ e) 0 (λ z. has (z + s) c ≡ f c)
          (λ t. ap (λ (z : ℕ). has z c) turn ∙ has_add_below s e c lt ∙ set_has f e c lt) (λ t. ap (λ (z : ℕ). has z c) none ∙ set_has f e c lt)
      | inr ge ↦ (let at : e ≡ c = omega arith in
          subst (λ (i : ℕ). has (set_of f (suc e)) i ≡ f i) at
          (cond_both (f e) (2 ^ e) 0 (λ z. has (z + s) e ≡ f e)
          (λ t. ap (λ (z : ℕ). has z e) turn ∙ has_add_here s e (set_small f e) ∙ sym t)
          (λ t. ap (λ (z : ℕ). has z e) none ∙ has_beyond s e e (set_small f e) (omega arith) ∙ sym t)))
    ]

module _ (n b : ℕ) (net : Network) where
  -- The row of the pair at the place k.
  abbrev row_at : (k : ℕ) → k < pairs n → Row
  row_at k l = record { low = (pair_at n k l).i; high = (pair_at n k l).j; set = set_of (net k) b; weight = 1; person = 1; sworn = false; struck = false }

  earlier : (k : ℕ) → suc k ≤ pairs n → k ≤ pairs n
  earlier k h = omega arith

  -- Those of the first k pairs.
  abbrev rows_of : (k : ℕ) → k ≤ pairs n → List Row
  rows_of zero h = []
  rows_of (suc k) h = row_at k h ∷ rows_of k (earlier k h)

  length_rows : (k : ℕ) (h : k ≤ pairs n) → length (rows_of k h) ≡ k
  length_rows zero h = refl
  length_rows (suc k) h = ap suc (length_rows k (earlier k h))

  -- What each of them has.
  each_row : (P : Row → Type 0) → ((k : ℕ) (l : k < pairs n) → P (row_at k l)) → (k : ℕ) (h : k ≤ pairs n) → Every P (rows_of k h)
  each_row P here zero h = tt
  each_row P here (suc k) h = (here k h, each_row P here k (earlier k h))

  -- No row of the first k pairs is on a later one.
  group_none : (k : ℕ) (h : k ≤ pairs n) (s : ℕ) → k ≤ s → group spot s (counting (rows_of k h)) ≡ []
  group_none zero h s l = refl
  group_none (suc k) h s l =
      let at : spot (row_at k h) ≡ k = (pair_at n k h).here in
      let rest : List Row = group spot s (counting (rows_of k (earlier k h))) in
      cond-false (eqb (spot (row_at k h)) s) (row_at k h ∷ rest) rest (ne_eqb (spot (row_at k h)) s (λ e. omega arith))
      ∙ group_none k (earlier k h) s (omega arith)

  -- One is on each of the first k.
  abbrev One : ℕ → List Row → Type 0
  One s rs = (r : Row) × (rs ≡ r ∷ []) × (r.set ≡ set_of (net s) b)

  group_one : (k : ℕ) (h : k ≤ pairs n) (s : ℕ) → s < k → One s (group spot s (counting (rows_of k h)))
  group_one zero h s l = absurd (omega arith)
  group_one (suc k) h s l =
      let at : spot (row_at k h) ≡ k = (pair_at n k h).here in
      let rest : List Row = group spot s (counting (rows_of k (earlier k h))) in
      elim (cases_lt s k) [
        | inl lt ↦ (let one = group_one k (earlier k h) s lt in (
          one.0,
          cond-false (eqb (spot (row_at k h)) s) (row_at k h ∷ rest) rest (ne_eqb (spot (row_at k h)) s (λ e. omega arith)) ∙ one.1,
          one.2,
        ))
        | inr ge ↦ (let same : k ≡ s = omega arith in (
          row_at k h,
          cond-true (eqb (spot (row_at k h)) s) (row_at k h ∷ rest) rest (eq-eqb (spot (row_at k h)) s (at ∙ same))
              ∙ ap (λ (z : List Row). row_at k h ∷ z) (group_none k (earlier k h) s ge),
          ap (λ (z : ℕ). set_of (net z) b) same,
        ))
      ]

  all_within : pairs n ≤ pairs n
  all_within = omega arith

  -- One row for each pair.
  abbrev rows : List Row
  rows = rows_of (pairs n) all_within

  pub stated : n ≤ 12 → Stated n b net
  stated few =
      let up : pairs n + n ≤ pairs 13 = pairs_up n 13 (omega arith) in
      let held : proper n rows ≡ true = proper_from n rows (omega (arith, length_rows (pairs n) all_within, up))
      (each_row (Sound n) (λ k l. sound_from n (row_at k l) record {
        ordered = (pair_at n k l).apart;
        within = (pair_at n k l).within;
        some_weight = omega arith;
        most_weight = omega arith;
        some_person = omega arith;
        most_person = omega arith;
      }) (pairs n) all_within) in
      record {
        rows = rows;
        held = held;
        sets = each_row (λ r. r.set < 2 ^ b) (λ k l. set_small (net k) b) (pairs n) all_within;
        states = record {
          proper = proper_is n rows held;
          one_a_pair = λ s. elim (cases_lt s (pairs n)) [
            | inl l ↦ (let one = group_one (pairs n) all_within s l in omega (arith, ap length one.1))
            | inr l ↦ omega (arith, ap length (group_none (pairs n) all_within s l))
          ];
          all_one = counting_all (λ r. r.weight ≡ 1) rows (each_row (λ r. r.weight ≡ 1) (λ k l. refl) (pairs n) all_within);
        };
        same = λ s c l m.
            let one = group_one (pairs n) all_within s l in
            ap (list_all (λ (r : Row). has r.set c)) one.1 ∙ and-true (has one.0.set c) ∙ ap (λ (z : ℕ). has z c) one.2 ∙ set_has (net s) b c m;
      }

pub every_stated : EveryStated
every_stated n b net few = stated n b net few
