-- What the laws of joining give: joins of lists appended, and of a list parted by a test.
use Rattle.std.proofs.Common.{◌≡◌, ◌+◌, ◌≤◌, Bool, true, false, cond, not, List, [], ◌∷◌, ◌++◌, length, filter, sym, refl, ap, ◌∙◌, arith}
use Rattle.std.proofs.lemmas.List.Filters.{length-filter_both}
use Rattle.std.specs.List.{push as push_last}
use Rattle.tallies.specs.Joins.{Joining, Monoid, joined, most_penalties}

module _ {P C : Type 0} (j : Joining P C) where
  -- A list joined onto a cost.
  abbrev pub onto : List P → C → C
  onto [] cost = cost
  onto (x ∷ xs) cost = j.join (j.penalty x) (onto xs cost)

  pub onto_empty : (xs : List P) → onto xs j.empty ≡ joined j xs
  onto_empty [] = refl
  onto_empty (x ∷ xs) = ap (j.join (j.penalty x)) (onto_empty xs)

  pub onto_last : (xs : List P) (x : P) (cost : C) → onto (push_last xs x) cost ≡ onto xs (j.join (j.penalty x) cost)
  onto_last [] x cost = refl
  onto_last (y ∷ ys) x cost = ap (j.join (j.penalty y)) (onto_last ys x cost)

module _ {P C : Type 0} (j : Joining P C) (m : Monoid j) where
  -- A first penalty may be joined before or after.
  pub first_assoc : (x : P) (ys zs : List P) → 1 + length ys + length zs ≤ most_penalties
      → j.join (j.join (j.penalty x) (joined j ys)) (joined j zs) ≡ j.join (j.penalty x) (j.join (joined j ys) (joined j zs))
  first_assoc x ys zs h = simp (m.single x) at (m.assoc (x ∷ []) ys zs (omega arith))

  -- A first penalty may be joined behind another join.
  pub first_exchange : (x : P) (ys zs : List P) → 1 + length ys + length zs ≤ most_penalties
      → j.join (j.penalty x) (j.join (joined j ys) (joined j zs)) ≡ j.join (joined j ys) (j.join (j.penalty x) (joined j zs))
  first_exchange x ys zs h =
      let swap : j.join (j.penalty x) (joined j ys) ≡ j.join (joined j ys) (j.penalty x) =
      simp (m.single x) at (m.comm (x ∷ []) ys (omega arith)) in
      let after : j.join (j.join (joined j ys) (j.penalty x)) (joined j zs) ≡ j.join (joined j ys) (j.join (j.penalty x) (joined j zs)) =
      simp (m.single x) at (m.assoc ys (x ∷ []) zs (omega arith)) in
      sym (first_assoc x ys zs h) ∙ ap (λ (z : C). j.join z (joined j zs)) swap ∙ after

  -- The empty cost on the right.
  pub identity_right : (xs : List P) → length xs ≤ most_penalties → j.join (joined j xs) j.empty ≡ joined j xs
  identity_right xs h = m.comm xs [] (omega arith) ∙ m.identity xs h

  -- The join of two joins is the join of the lists appended.
  pub append : (xs ys : List P) → length xs + length ys ≤ most_penalties → j.join (joined j xs) (joined j ys) ≡ joined j (xs ++ ys)
  append [] ys h = m.identity ys (omega arith)
  append (x ∷ xs) ys h = first_assoc x xs ys (omega arith) ∙ ap (j.join (j.penalty x)) (append xs ys (omega arith))

  -- One more penalty at the end.
  pub push : (xs : List P) (x : P) → length xs + 1 ≤ most_penalties → j.join (joined j xs) (j.penalty x) ≡ joined j (xs ++ (x ∷ []))
  push xs x h = ap (j.join (joined j xs)) (sym (m.single x)) ∙ append xs (x ∷ []) (omega arith)

  -- A first penalty goes to one part or to the other.
  first_part : (v : Bool) (x : P) (ys zs : List P) → 1 + length ys + length zs ≤ most_penalties
      → j.join (j.penalty x) (j.join (joined j ys) (joined j zs))
      ≡ j.join (joined j (cond v (x ∷ ys) ys)) (joined j (cond (not v) (x ∷ zs) zs))
  first_part true x ys zs h = sym (first_assoc x ys zs h)
  first_part false x ys zs h = first_exchange x ys zs h

  -- What passes a test joined with what fails it is the whole.
  pub part : (f : P → Bool) (xs : List P) → length xs ≤ most_penalties
      → joined j xs ≡ j.join (joined j (filter f xs)) (joined j (filter (λ x. not (f x)) xs))
  part f [] h = sym (m.identity [] h)
  part f (x ∷ xs) h =
      let n : length (filter f xs) + length (filter (λ x. not (f x)) xs) ≡ length xs = length-filter_both f (λ x. not (f x)) (λ x. refl) xs in
      ap (j.join (j.penalty x)) (part f xs (omega arith)) ∙ first_part (f x) x (filter f xs) (filter (λ x. not (f x)) xs) (omega arith)
