-- What is shown first among answers that are looked at one by one, each by its place.
use Rattle.std.proofs.Common.{◌≡◌, ℕ, zero, suc, ◌+◌, ◌<◌, ◌≤◌, List, [], ◌∷◌, length, get_or, Some, None, Option, IfSome, IsSomeAnd, MatchOption, IsTrue, Bool, true, Bor, refl, ap, ◌∙◌, arith}
use Rattle.std.specs.Option.{option_copied, option_map}
use Rattle.std.specs.Fn.{Called}
use denote.Param.Members.{Mut}
use Rattle.std.proofs.lemmas.Option.{none-some, same_Some}
use Rattle.runs.specs.declared.answer.Sight.{Sight}
use Rattle.runs.specs.declared.answer.Answer.{Answer}
use Rattle.runs.specs.Told.{sight_in}
use Rattle.std.specs.Option.{option_or}
use Rattle.reports.specs.Found.{first_sight}

-- none of the answers shows anything
none_there : {V C : Type 0} (answers : List (Answer V C)) → ((k : ℕ) (d : Answer V C) → k < length answers → None ≡ sight_in (get_or answers k d)) → None ≡ first_sight answers
none_there [] none = refl
none_there (a ∷ bs) none = none_there bs (λ k d l. none (suc k) d (omega arith)) ∙ ap (λ o. option_or o (first_sight bs)) (none 0 a (omega arith))

-- the one at place i is the first that shows something
first_there : {V C : Type 0} (answers : List (Answer V C)) (i : ℕ) (s : Sight V C) → i < length answers → ((d : Answer V C) → Some s ≡ sight_in (get_or answers i d))
    → ((k : ℕ) (d : Answer V C) → k < i → None ≡ sight_in (get_or answers k d)) → Some s ≡ first_sight answers
first_there [] i s l here none = absurd (omega (arith, l))
first_there (a ∷ bs) zero s l here none = ap (λ o. option_or o (first_sight bs)) (here a)
first_there (a ∷ bs) (suc i) s l here none =
    first_there bs i s (omega (arith, l)) here (λ k d m. none (suc k) d (omega arith)) ∙ ap (λ o. option_or o (first_sight bs)) (none 0 a (omega arith))

also : {A : Type 0} (o : Option A) (P : A → Type 0) → IsSomeAnd o P → IfSome o P
also None P h = absurd h
also (Some x) P h = h

module _ {V C F : Type 0} (g : Mut F (Bor (Answer V C) × Unit {0}) (Option (Bor (Sight V C)))) (f : F) where
  -- A function stays as it is, and gives what an answer shows.
  abbrev pub Keeps : Type 0
  Keeps = (a : Bor (Answer V C) × Unit {0}) (r : Option (Bor (Sight V C))) (f' : F) → Called g f a r f' → f' ≡ f

  abbrev pub Says : Type 0
  Says = (x : Bor (Answer V C)) (r : Option (Bor (Sight V C))) → Called g f (x, tt) r f → option_copied r ≡ sight_in x.now

  -- What it gives at a place is what the answer there shows.
  given : Says → (o : Option (Bor (Answer V C))) (a : Answer V C) → option_map (λ y. y.now) o ≡ Some a
      → (r : Option (Bor (Sight V C))) → IfSome o (λ x. Called g f (x, tt) r f) → option_copied r ≡ sight_in a
  given says None a e r h = absurd (none-some _ e)
  given says (Some x) a e r h = says x r h ∙ ap sight_in (same_Some _ _ e)

-- It is called at the answers up to some place: at all, of which none shows anything, or up to the first that shows something.
pub first_seen : {V C F : Type 0} {g : Mut F (Bor (Answer V C) × Unit {0}) (Option (Bor (Sight V C)))} {f : F}
    (answers : List (Answer V C)) {len : ℕ} (at : ℕ → Option (Bor (Answer V C)))
    → ((k : ℕ) (d : Answer V C) → k < len → option_map (λ y. y.now) (at k) ≡ Some (get_or answers k d))
    → (r : Option (Bor (Sight V C))) {whole : Bool} → len ≤ length answers → (whole ≡ true → len ≡ length answers) → Keeps g f
    → MatchOption r (IsTrue whole × (Keeps g f → (k : ℕ) → IfSome (at k) (λ x. Called g f (x, tt) None f)))
    (λ y. (i : ℕ) × (i < len) × (len ≡ i + 1)
    × (Keeps g f → IsSomeAnd (at i) (λ x. Called g f (x, tt) (Some y) f) × ((k : ℕ) → k < i → IsSomeAnd (at k) (λ x. Called g f (x, tt) None f))))
    → Says g f → option_copied r ≡ first_sight answers
first_seen {g = g} {f = f} answers {len = len} at looks None within all keeps (is, none) says =
    let long : len ≡ length answers = all is in
    none_there answers (λ k d l. given g f says (at k) (get_or answers k d) (looks k d (omega (arith, l))) None (none keeps k))
first_seen {g = g} {f = f} answers {len = len} at looks (Some y) within all keeps (i, l, last, seen) says =
    first_there answers i y.now (omega (arith, l)) (λ d. given g f says (at i) (get_or answers i d) (looks i d l) (Some y) (also (at i) _ (seen keeps).0))
    (λ k d m. given g f says (at k) (get_or answers k d) (looks k d (omega (arith, m, l))) None (also (at k) _ ((seen keeps).1 k m)))
