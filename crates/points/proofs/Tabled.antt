-- Tables of sets of base relations, whose rule is proved over the whole table by one test that the checker computes.
use Rattle.std.proofs.Common.{◌≡◌, ℕ, zero, suc, ◌+◌, ◌%◌, ◌^◌, ◌<◌, ◌≤◌, Bool, ◌&&◌, false, cond, T, eqb, ltb, List, [], ◌∷◌, length, get_or, sym, refl, ap, ◌∙◌, inl, inr, arith, pow_mono, not-suc-le-zero, le_of_suc-le-suc}
use Prim.Native.Nat.{Ordering}
use native.Mathlib.Nat.{div-eq_of_lt}
use Rattle.std.proofs.lemmas.Bool.{cases_lt, ltb-true}
use Rattle.points.specs.Points.{converse, is_lt, same}
use Rattle.points.specs.Sets.{has}
use Rattle.points.specs.Tests.{upto}
use Rattle.points.specs.Marks.{order_of, drawn, Draws, mark_rank}
use Rattle.points.specs.declared.axis.Order.{Order}
use Rattle.points.proofs.Finite.{both_left, both_right, alike, alike_eq, true_from, upto_at}
use Rattle.points.proofs.Compare.{same_eq}
use Rattle.points.proofs.Marked.{mark_rank_same}

-- a set of codes below b has none from b on
pub has_beyond : (set b c : ℕ) → set < 2 ^ b → b ≤ c → has set c ≡ false
has_beyond set b c h l =
    let long : 2 ^ b ≤ 2 ^ c = pow_mono l in
    let small : set < 2 ^ c = omega arith in
    ap (λ (q : ℕ). eqb (q % 2) 1) (div-eq_of_lt small)

-- a set of codes below b that is the right one
abbrev pub right_set : ℕ → (ℕ → Bool) → ℕ → Bool
right_set b f set = ltb set (2 ^ b) && upto b (λ e. alike (has set e) (f e))

pub set_right : (b : ℕ) (f : ℕ → Bool) (set : ℕ) → T (right_set b f set) → ((e : ℕ) → b ≤ e → f e ≡ false) → (e : ℕ) → has set e ≡ f e
set_right b f set t beyond e = elim (cases_lt e b) [
  | inl l ↦ alike_eq (has set e) (f e) (upto_at b (λ e. alike (has set e) (f e)) (both_right (ltb set (2 ^ b)) (upto b (λ e. alike (has set e) (f e))) t) e l)
  | inr l ↦ has_beyond set b e (ltb-true set (2 ^ b) (true_from (ltb set (2 ^ b)) (both_left (ltb set (2 ^ b)) (upto b (λ e. alike (has set e) (f e))) t))) l ∙ sym (beyond e l)
]

-- a table of b rows of b such sets
abbrev pub right_table : ℕ → (ℕ → ℕ → ℕ → Bool) → (ℕ → ℕ → ℕ) → Bool
right_table b f table = upto b (λ c. upto b (λ d. right_set b (f c d) (table c d)))

pub table_right : (b : ℕ) (f : ℕ → ℕ → ℕ → Bool) (table : ℕ → ℕ → ℕ) → T (right_table b f table) → ((c d e : ℕ) → b ≤ e → f c d e ≡ false) →
    (c d : ℕ) → c < b → d < b → (e : ℕ) → has (table c d) e ≡ f c d e
table_right b f table t beyond c d hc hd =
    set_right b (f c d) (table c d)
    (upto_at b (λ d. right_set b (f c d) (table c d)) (upto_at b (λ c. upto b (λ d. right_set b (f c d) (table c d))) t c hc) d hd) (beyond c d)

-- an axis of m marks whose sets of codes below b are right
abbrev right_order : ℕ → (ℕ → Ordering) → Order → Bool
right_order b sides o = (ltb o.before (2 ^ b) && ltb o.after (2 ^ b)) && upto b (λ c. same (cond (has o.before c) Ordering.lt (cond (has o.after c) Ordering.gt Ordering.eq)) (sides c))

abbrev pub right_axis : ℕ → ℕ → (ℕ → ℕ → ℕ → Ordering) → List (List Order) → Bool
right_axis b m sides orders = upto m (λ s. upto m (λ t. right_order b (λ c. sides c s t) (order_of orders s t)))

order_right : (b : ℕ) (sides : ℕ → Ordering) (o : Order) → T (right_order b sides o) → ((c : ℕ) → b ≤ c → sides c ≡ Ordering.eq) →
    (c : ℕ) → cond (has o.before c) Ordering.lt (cond (has o.after c) Ordering.gt Ordering.eq) ≡ sides c
order_right b sides o test beyond c =
    let small : Bool = (ltb o.before (2 ^ b) && ltb o.after (2 ^ b)) in
    let stand : ℕ → Ordering = λ c. cond (has o.before c) Ordering.lt (cond (has o.after c) Ordering.gt Ordering.eq) in
    let sizes : T small = both_left small (upto b (λ c. same (stand c) (sides c))) test in
    elim (cases_lt c b) [
      | inl l ↦ same_eq (stand c) (sides c) (upto_at b (λ c. same (stand c) (sides c)) (both_right small (upto b (λ c. same (stand c) (sides c))) test) c l)
      | inr l ↦
          rw (
            has_beyond o.before b c (ltb-true o.before (2 ^ b) (true_from (ltb o.before (2 ^ b)) (both_left (ltb o.before (2 ^ b)) (ltb o.after (2 ^ b)) sizes))) l,
            has_beyond o.after b c (ltb-true o.after (2 ^ b) (true_from (ltb o.after (2 ^ b)) (both_right (ltb o.before (2 ^ b)) (ltb o.after (2 ^ b)) sizes))) l,
          ) (sym (beyond c l))
    ]

pub axis_right : (b m : ℕ) (sides : ℕ → ℕ → ℕ → Ordering) (orders : List (List Order)) → length orders ≡ m → T (right_axis b m sides orders) →
    ((c s t : ℕ) → b ≤ c → sides c s t ≡ Ordering.eq) → Draws orders m sides
axis_right b m sides orders many test beyond = record { many = many; stand = stand }
  where
    stand : (c s t : ℕ) → s < m → t < m → drawn orders c s t ≡ sides c s t
    stand c s t hs ht =
        order_right b (λ c. sides c s t) (order_of orders s t)
        (upto_at m (λ t. right_order b (λ c. sides c s t) (order_of orders s t))
        (upto_at m (λ s. upto m (λ t. right_order b (λ c. sides c s t) (order_of orders s t))) test s hs) t ht) (λ c l. beyond c s t l) c

-- ranks on an axis that is drawn right
pub rank_drawn : (orders : List (List Order)) (m : ℕ) (sides : ℕ → ℕ → ℕ → Ordering) → Draws orders m sides → (n : ℕ) (scenario : List ℕ) (i s : ℕ) → s < m →
    mark_rank (drawn orders) m n scenario i s ≡ mark_rank sides m n scenario i s
rank_drawn orders m sides h n scenario i s l = mark_rank_same (drawn orders) sides m h.stand n scenario i s l

-- the right table, computed: the checker holds a constant of the code against it, so that no table is written twice
abbrev pub listed : {A : Type 0} → ℕ → ℕ → (ℕ → A) → List A
listed i zero f = []
listed i (suc n) f = f i ∷ listed (suc i) n f

abbrev pub set_of : (ℕ → Bool) → ℕ → ℕ
set_of f zero = 0
set_of f (suc e) = cond (f e) (2 ^ e) 0 + set_of f e

-- the right axis of m marks, computed
abbrev pub orders : ℕ → ℕ → (ℕ → ℕ → ℕ → Ordering) → List (List Order)
orders b m sides = listed 0 m (λ s. listed 0 m (λ t.
    record { before = set_of (λ c. is_lt (sides c s t)) b; after = set_of (λ c. is_lt (converse (sides c s t))) b }))

pub length_listed : {A : Type 0} (i n : ℕ) (f : ℕ → A) → length (listed i n f) ≡ n
length_listed i zero f = refl
length_listed i (suc n) f = ap suc (length_listed (suc i) n f)

pub get_or-listed : {A : Type 0} (i n : ℕ) (f : ℕ → A) (k : ℕ) (other : A) → k < n → get_or (listed i n f) k other ≡ f (i + k)
get_or-listed i zero f k other h = absurd (not-suc-le-zero h)
get_or-listed i (suc n) f zero other h = ap f (omega arith)
get_or-listed i (suc n) f (suc k) other h = get_or-listed (suc i) n f k other (le_of_suc-le-suc h) ∙ ap f (omega arith)

-- ranks on the right axis, where the test of it passes and a number that is no code puts all marks in one place
pub rank_right : (b m : ℕ) (sides : ℕ → ℕ → ℕ → Ordering) → T (right_axis b m sides (orders b m sides)) → ((c s t : ℕ) → b ≤ c → sides c s t ≡ Ordering.eq) →
    (n : ℕ) (scenario : List ℕ) (i s : ℕ) → s < m → mark_rank (drawn (orders b m sides)) m n scenario i s ≡ mark_rank sides m n scenario i s
rank_right b m sides test beyond =
    rank_drawn (orders b m sides) m sides (axis_right b m sides (orders b m sides) (length_listed 0 m (λ s. listed 0 m (λ t.
    record { before = set_of (λ c. is_lt (sides c s t)) b; after = set_of (λ c. is_lt (converse (sides c s t))) b }))) test beyond)
