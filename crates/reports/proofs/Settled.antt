-- What the calls that settle a sheet answer.
use Rattle.std.proofs.Common.{◌≡◌, ℕ, zero, suc, ◌+◌, ◌<◌, ◌≤◌, List, [], ◌∷◌, length, map, Ok, Err, Result, IfOk, Some, None, vec_items, refl, ap, sym, ◌∙◌, subst, slice_index_or, true, arith}
use Rattle.std.specs.List.{range_with_len}
use Rattle.std.proofs.lemmas.Bool.{le-leb}
use Rattle.std.proofs.lemmas.List.{ext_get_or}
use Rattle.std.proofs.lemmas.List.FromFn.{length-map-range_with_len, get_or-map-range_with_len}
use Rattle.points.specs.Scenarios.{entry}
use Rattle.kinds.specs.Meaning.{Meaning}
use Rattle.tallies.specs.Joins.{Joining, Monoid}
use Rattle.tallies.specs.Groups.{span}
use Rattle.tallies.specs.declared.claim.Claim.{Claim}
use Rattle.rules.specs.declared.row.Row.{Row}
use Rattle.rules.specs.Rows.{Proper}
use Rattle.rules.specs.Costs.{of_rows, charge, cost}
use Rattle.rules.specs.Steps.{Rules, Position, opening, advance, taken, searched}
use Rattle.rules.specs.Soundness.{Settled, cost_by}
use Rattle.rules.proofs.Costs.{charges_join}
use Rattle.statements.specs.Faults.{first_fault}
use Rattle.statements.specs.Searches.{search_checks, show_checks, charge_checks}
use Rattle.runs.specs.declared.call.Call.{Call}
use Rattle.runs.specs.declared.call.Call.TheVariants.{Close, Search, Show, Charge}
use Rattle.runs.specs.declared.answer.Sight.{Sight}
use Rattle.runs.specs.declared.answer.Answer.{Answer}
use Rattle.runs.specs.declared.answer.Answer.TheVariants.{Unmade, Refused, Done, Entered, Looked, Took, Shown, Charged}
use Rattle.runs.specs.Models.{drafting, closed, next}
use Rattle.runs.specs.Answers.{SightOf, Showing, AnswersScript}
use Rattle.runs.specs.Law.{At, OnClosed, SightLaw, Law, wanted}
use Rattle.reports.specs.Found.{first_sight, charges_in}
use Rattle.reports.specs.Account.{Account, account_at, account_of, AccountLaw, settling, Tells}

pub IfOk-both : {T E : Type 0} (r : Result T E) (P Q : T → Type 0) → IfOk r P → IfOk r Q → IfOk r (λ v. P v × Q v)
IfOk-both (Ok v) P Q p q = (p, q)
IfOk-both (Err e) P Q p q = tt

-- The checks of these calls pass.
person_passes : (p : ℕ) → 1 ≤ p → p ≤ 20 → first_fault (charge_checks p) ≡ None
person_passes p low high = rw (le-leb 1 p low, le-leb p 20 high) refl

steps_pass : (k : ℕ) → k ≤ 1000000 → first_fault (search_checks k) ≡ None
steps_pass k h = rw (le-leb k 1000000 h) refl

page_passes : (n : ℕ) → n ≤ 12 → first_fault (show_checks n 12) ≡ None
page_passes n h = rw (le-leb n 12 h) refl

-- Two spans of costs that are the same one by one, the second of a joining that is carried over to rows.
span_moved : {C : Type 0} (j : Joining Claim C) (f g : ℕ → C) (k l n : ℕ) → ((i a b : ℕ) → i < n → k + i ≡ a → l + i ≡ b → f a ≡ g b)
    → span j f k n ≡ span (of_rows j) g l n
span_moved j f g k l zero h = refl
span_moved j f g k l (suc n) h =
    let here : f k ≡ g l = h 0 k l (omega arith) (omega arith) (omega arith) in
    let rest = span_moved j f g (suc k) (suc l) n (λ i a b m x y. h (suc i) a b (omega arith) (omega arith) (omega arith)) in
    cc

module _ {V C : Type 0} (m : Meaning V) (values : ℕ → List ℕ → ℕ → V) (r : Rules C) where
  -- Charges of persons that follow one another.
  record Charging (n : ℕ) (rows : List Row) (s : Position) (p k : ℕ) (bs : List (Answer V C)) : Type 0 where
    none : first_sight bs ≡ None
    charges : charges_in bs ≡ map (charge r.joining rows (entry s.incumbent)) (range_with_len p k)

  charging : (n : ℕ) (rows : List Row) (s : Position) (steps asked p k : ℕ) (bs : List (Answer V C)) → 1 ≤ p → p + k ≤ 21
      → AnswersScript m values r (closed n rows s steps asked) (map Charge (range_with_len p k)) bs → Charging n rows s p k bs
  charging n rows s steps asked p zero [] low high w = record { none = refl; charges = refl }
  charging n rows s steps asked p zero (b ∷ bs) low high w = absurd w
  charging n rows s steps asked p (suc k) [] low high w = absurd w
  charging n rows s steps asked p (suc k) (b ∷ bs) low high w =
      let c : C = charge r.joining rows (entry s.incumbent) p in
      let is : b ≡ Charged c = rw (person_passes p low (omega arith)) at w.0 in
      let rest : Charging n rows s (p + 1) k bs = charging n rows s steps asked (p + 1) k bs (omega arith) (omega arith) w.1 in
      record {
        none = rw is rest.none;
        charges = rw is (ap (λ (z : List C). c ∷ z) rest.charges);
      }

  -- A show on a page of 12 places.
  record Showed (n : ℕ) (rows : List Row) (s : Position) (b : Answer V C) : Type 0 where
    sight : Sight V C
    is : b ≡ Shown sight
    shows : SightOf m values r n rows s sight

  showed : (n : ℕ) (rows : List Row) (s : Position) (b : Answer V C) → n ≤ 12 → Showing m values r n rows s 12 b → Showed n rows s b
  showed n rows s Unmade h w = absurd w
  showed n rows s (Refused f) h w = absurd (let e : None ≡ Some f = sym (page_passes n h) ∙ w in let z : ◌≡◌ {A = ℕ} 0 1 = cc in omega arith)
  showed n rows s Done h w = absurd w
  showed n rows s (Entered i) h w = absurd w
  showed n rows s (Looked e b) h w = absurd w
  showed n rows s (Took t) h w = absurd w
  showed n rows s (Shown sight) h w = record { sight = sight; is = refl; shows = w.1 }
  showed n rows s (Charged c) h w = absurd w

  -- The values that are shown, as a list.
  values_listed : (n : ℕ) (rows : List Row) (s : Position) (sight : Sight V C) → SightOf m values r n rows s sight
      → vec_items sight.values ≡ map (values n s.incumbent) (range_with_len 0 n)
  values_listed n rows s sight h =
      let d : V = values n s.incumbent 0 in
      let f : ℕ → V = values n s.incumbent in
      let long : length (vec_items sight.values) ≡ n = h.each in
      ext_get_or d (vec_items sight.values) (map f (range_with_len 0 n)) (h.each ∙ sym (length-map-range_with_len f 0 n))
      (λ i l. h.written i d (omega arith) ∙ sym (get_or-map-range_with_len f 0 n i i d (omega arith) (omega arith)))

  -- What the first three calls answer, and the charges after them.
  record Told (n : ℕ) (rows : List Row) (s : Position) (answers : List (Answer V C)) : Type 0 where
    tells : Tells answers (account_at values r n rows s)
    there : At answers 2 (Shown tells.sight)

  told : (n : ℕ) (rows : List Row) (s : Position) (a b c : Answer V C) (bs : List (Answer V C)) (t : ℕ) → a ≡ Done → b ≡ Took t → Showed n rows s c → Charging n rows s 1 20 bs
      → Told n rows s (a ∷ b ∷ c ∷ bs)
  told n rows s a b c bs t done took show charges =
      let listed = values_listed n rows s show.sight show.shows in
      let all : charges_in (a ∷ b ∷ c ∷ bs) ≡ map (charge r.joining rows (entry s.incumbent)) (range_with_len 1 20) = rw (done, took, show.is) charges.charges in
      record {
        tells = record {
          sight = show.sight;
          shown = rw (done, took, show.is) refl;
          is = cc;
        };
        there = show.is;
      }

  -- The sheet after the search, and the answers from there on.
  after_search : (n : ℕ) (rows : List Row) (k : ℕ) (cs : List Call) (bs : List (Answer V C)) → k ≤ 1000000
      → AnswersScript m values r (next m r (closed n rows (opening n) 0 0) (Search k)) cs bs
      → AnswersScript m values r (closed n rows (advance r n rows k (opening n)) (0 + taken r n rows k (opening n)) (0 + k)) cs bs
  after_search n rows k cs bs h w = rw (steps_pass k h) at w

  -- All answers.
  all_told : (n : ℕ) (rows : List Row) (k : ℕ) (answers : List (Answer V C)) → n ≤ 12 → k ≤ 1000000
      → AnswersScript m values r (drafting n rows) (Close ∷ Search k ∷ Show 12 ∷ map Charge (range_with_len 1 20)) answers
      → Told n rows (advance r n rows k (opening n)) answers
  all_told n rows k [] few h w = absurd w
  all_told n rows k (a ∷ []) few h w = absurd w.1
  all_told n rows k (a ∷ b ∷ []) few h w = absurd w.1.1
  all_told n rows k (a ∷ b ∷ c ∷ bs) few h w =
      let s : Position = advance r n rows k (opening n) in
      let rest = after_search n rows k (Show 12 ∷ map Charge (range_with_len 1 20)) (c ∷ bs) h w.1.1 in
      let took : b ≡ Took (taken r n rows k (opening n)) = rw (steps_pass k h) at w.1.0 in
      told n rows s a b c bs (taken r n rows k (opening n)) w.0 took (showed n rows s c few rest.0)
      (charging n rows s (0 + taken r n rows k (opening n)) (0 + k) 1 20 bs (omega arith) (omega arith) rest.1)

  -- The answers tell the account.
  pub tells : (n : ℕ) (rows : List Row) (k : ℕ) (answers : List (Answer V C)) → n ≤ 12 → k ≤ 1000000
      → AnswersScript m values r (drafting n rows) (settling k) answers → Tells answers (account_of values r k n rows)
  unfolding settling account_of searched
  tells n rows k answers few h w = (all_told n rows k answers few h w).tells

  -- What is shown is as the law of runs has it.
  sight_law : (n : ℕ) (rows : List Row) (k : ℕ) (answers : List (Answer V C)) (sight : Sight V C) (wants : ℕ) → k ≤ 1000000
      → OnClosed (SightLaw m r sight wants) (next m r (closed n rows (opening n) 0 0) (Search k)) → SightLaw m r sight wants n rows (advance r n rows k (opening n))
  sight_law n rows k answers sight wants h w = rw (steps_pass k h) at w

  -- The charges, as a list, join to the cost.
  charges_listed : Monoid r.joining → (n : ℕ) (rows : List Row) → Proper n rows → (f : ℕ → ℕ → ℕ)
      → span r.joining (λ i. slice_index_or (map (charge r.joining rows f) (range_with_len 1 20)) i r.joining.empty) 0 20 ≡ cost r.joining rows f
  charges_listed monoid n rows proper f =
      let g : ℕ → C = charge r.joining rows f in
      span_moved r.joining (λ i. slice_index_or (map g (range_with_len 1 20)) i r.joining.empty) g 0 1 20
      (λ i a b l x y. get_or-map-range_with_len g 1 20 a b r.joining.empty (omega arith) (omega arith))
      ∙ charges_join r.joining monoid n rows f proper

  law_told : Monoid r.joining → (n : ℕ) (rows : List Row) (k : ℕ) (answers : List (Answer V C)) → n ≤ 12 → k ≤ 1000000 → Proper n rows
      → AnswersScript m values r (drafting n rows) (Close ∷ Search k ∷ Show 12 ∷ map Charge (range_with_len 1 20)) answers
      → Law m r (drafting n rows) (Close ∷ Search k ∷ Show 12 ∷ map Charge (range_with_len 1 20)) answers
      → AccountLaw m r n rows (advance r n rows k (opening n)) (account_at values r n rows (advance r n rows k (opening n)))
  law_told monoid n rows k answers few h proper w law =
      let s : Position = advance r n rows k (opening n) in
      let told = all_told n rows k answers few h w in
      let sight : Sight V C = told.tells.sight in
      let shown = sight_law n rows k answers sight (wanted 2 (Close ∷ Search k ∷ Show 12 ∷ map Charge (range_with_len 1 20)) answers) h (law.shown 2 sight told.there) in
      record {
        each = length-map-range_with_len (values n s.incumbent) 0 n;
        settled = λ other. subst (λ a. Settled m r n rows s (λ i. slice_index_or a.values i other) a.cost a.finished) told.tells.is (shown.settled other);
        below = λ y lawful. subst (λ (a : Account V C). r.at_most a.floor (cost_by m r.joining rows y) ≡ true) told.tells.is (shown.below y lawful);
        persons = length-map-range_with_len (charge r.joining rows (entry s.incumbent)) 1 20;
        charged = charges_listed monoid n rows proper (entry s.incumbent);
      }

  -- The account is as the law of runs has it.
  pub account_law : Monoid r.joining → (n : ℕ) (rows : List Row) (k : ℕ) (answers : List (Answer V C)) → n ≤ 12 → k ≤ 1000000 → Proper n rows
      → AnswersScript m values r (drafting n rows) (settling k) answers → Law m r (drafting n rows) (settling k) answers
      → AccountLaw m r n rows (searched r n rows k) (account_of values r k n rows)
  unfolding settling account_of searched
  account_law monoid n rows k answers few h proper w law = law_told monoid n rows k answers few h proper w law
