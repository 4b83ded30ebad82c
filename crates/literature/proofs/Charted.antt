-- Compositions of directions by points on both axes.
use Rattle.std.proofs.Common.{◌≡◌, ℕ, Bool, refl, ◌<◌, ◌+◌, ◌⊎◌, true, false, Option, None, Some, MatchOption, Decides, List, [], Bor, length, get_or, sym, ◌∙◌, subst, inl, inr}
use Rattle.std.specs.List.{Any}
use Rattle.std.proofs.lemmas.Bool.{both_ways}
use Rattle.std.proofs.lemmas.Bool.Decides.{Decides-like, same_from_decides}
use Rattle.std.proofs.lemmas.Option.{same_Some}
use lib.Bits.{bit_or}
use Rattle.points.specs.Sets.{has}
use Rattle.moments.specs.Moments.{moment_words}
use Rattle.dwellings.specs.Dwellings.{dwellings, dwelling_words}
use Rattle.literature.specs.Letters.{Entered, meant_code}
use Rattle.kinds.specs.Composition.{Composition}
use Rattle.literature.specs.Published.{Composes, ComposesByParts, DirectionIn, DirectionsAgree, PartIn, UncomposedByParts}
use Rattle.literature.specs.Scores.{score_after}
use Rattle.literature.specs.declared.published.Letter.{Letter}
use Rattle.literature.specs.declared.published.Direction.{Direction}
use Rattle.literature.specs.declared.score.Score.{Score}
use Rattle.literature.specs.declared.comparison.Table.{Table}
use Rattle.literature.specs.declared.literature.Chart.{Chart}
use Rattle.literature.proofs.Completed.{AnyBelow, any_cases, any_earlier, any_here, decided_union}
use Rattle.literature.proofs.Agreeing.{same_members}
use Rattle.literature.proofs.Lacking.{Counts, counts_as, counts_one}
use Rattle.literature.proofs.Readings.{entered_decided}

-- where there is no direction
abbrev pub no_direction : Direction
no_direction = record { letter = record { ref_ptr = (0, 0); now = [] }; eastward = record { ref_ptr = (0, 0); now = [] }; northward = record { ref_ptr = (0, 0); now = [] } }

module _ (chart : Chart) where
  -- a part that was read is in no set that lacks it
  pub part_out : (letter : List ℕ) (c set : ℕ) → meant_code moment_words chart.points.letters.0.now letter ≡ Some c → has set c ≡ false → PartIn chart letter set → ⊥
  part_out letter c set is out (c', is', h) =
      let same : c' ≡ c = cc in
      both_ways (has set c) out (subst (λ (n : ℕ). has set n ≡ true) same h)

  module _ (east north n found : ℕ) (d : Direction) (within : n < length chart.directions.now) where
    -- the set has just the directions of the first k
    abbrev pub ChartBelow : ℕ → ℕ → Type 0
    ChartBelow k set = (e : ℕ) → Decides (has set e) (AnyBelow (DirectionIn chart east north e) chart.directions.now k)

    -- a direction whose parts are in both sets
    pub chart_more : (given : ℕ) → PartIn chart (get_or chart.directions.now n d).eastward.now east → PartIn chart (get_or chart.directions.now n d).northward.now north →
        Entered dwelling_words chart.letters.0.now (get_or chart.directions.now n d).letter.now given → ChartBelow n found → ChartBelow (n + 1) (bit_or found given)
    chart_more given p q entered before = decided_union found given before (λ e. (λ h. h, λ h. h)) earlier here cases
      where
        earlier : (e : ℕ) → AnyBelow (DirectionIn chart east north e) chart.directions.now n → AnyBelow (DirectionIn chart east north e) chart.directions.now (n + 1)
        earlier e = any_earlier (DirectionIn chart east north e) chart.directions.now n

        here : (e : ℕ) → has given e ≡ true → AnyBelow (DirectionIn chart east north e) chart.directions.now (n + 1)
        here e h = any_here (DirectionIn chart east north e) chart.directions.now n d within (p, q, given, entered, h)

        last : (e : ℕ) → AnyBelow (DirectionIn chart east north e) chart.directions.now n ⊎ DirectionIn chart east north e (get_or chart.directions.now n d) →
            AnyBelow (DirectionIn chart east north e) chart.directions.now n ⊎ (has given e ≡ true)
        last e (inl any) = inl any
        last e (inr (_, _, given', entered', h)) =
            inr ((entered_decided {P = λ e. has given e ≡ true} dwelling_words chart.letters.0.now (get_or chart.directions.now n d).letter.now given given' entered entered' (λ e. (λ h. h, λ h. h)) e).0 h)

        cases : (e : ℕ) → AnyBelow (DirectionIn chart east north e) chart.directions.now (n + 1) → AnyBelow (DirectionIn chart east north e) chart.directions.now n ⊎ (has given e ≡ true)
        cases e any = last e (any_cases (DirectionIn chart east north e) chart.directions.now n d within any)

    -- a direction of which a part is not
    pub chart_same : (PartIn chart (get_or chart.directions.now n d).eastward.now east → PartIn chart (get_or chart.directions.now n d).northward.now north → ⊥) →
        ChartBelow n found → ChartBelow (n + 1) found
    chart_same out before e = Decides-like (has found e) (any_earlier (DirectionIn chart east north e) chart.directions.now n) (λ any. cases (any_cases (DirectionIn chart east north e) chart.directions.now n d within any)) (before e)
      where
        cases : AnyBelow (DirectionIn chart east north e) chart.directions.now n ⊎ DirectionIn chart east north e (get_or chart.directions.now n d) → AnyBelow (DirectionIn chart east north e) chart.directions.now n
        cases (inl any) = any
        cases (inr (p, q, _, _, _)) = absurd (out p q)

-- an entry stands for one set
entered_same : (words : List (List ℕ)) (letters : List Letter) (entry : List ℕ) (set set' : ℕ) → Entered words letters entry set → Entered words letters entry set' → set ≡ set'
entered_same words letters entry set set' entered entered' =
    same_members set set'
    (λ e. same_from_decides (has set e) (has set' e)
    (entered_decided {P = λ e. has set' e ≡ true} words letters entry set' set entered' entered (λ e. (λ h. h, λ h. h)) e) (λ h. h, λ h. h))

-- two letters have one composition in a table
composed_same : (words : List (List ℕ)) (table : Table) (first second : List ℕ) (set set' : ℕ) → Composes words table first second set → Composes words table first second set' → set ≡ set'
composed_same words table first second set set' (entry, is, entered) (entry', is', entered') =
    let same : entry' ≡ entry = same_Some entry' entry (sym is' ∙ is) in
    entered_same words table.letters.0.now entry.now set set' entered (subst (λ (x : Bor (List ℕ)). Entered words table.letters.0.now x.now set') same entered')

-- two directions have one composition by their parts
by_parts_same : (chart : Chart) (first second : Direction) (set set' : ℕ) → ComposesByParts chart first second set → ComposesByParts chart first second set' → set ≡ set'
by_parts_same chart first second set set' (east, at_east, north, at_north, decided) (east', at_east', north', at_north', decided') =
    let same_east = composed_same moment_words chart.points first.eastward.now second.eastward.now east' east at_east' at_east in
    let same_north = composed_same moment_words chart.points first.northward.now second.northward.now north' north at_north' at_north in
    let by_east : (e : ℕ) → Decides (has set' e) (Any (DirectionIn chart east north' e) chart.directions.now) =
    subst (λ (s : ℕ). (e : ℕ) → Decides (has set' e) (Any (DirectionIn chart s north' e) chart.directions.now)) same_east decided' in
    let by_both : (e : ℕ) → Decides (has set' e) (Any (DirectionIn chart east north e) chart.directions.now) =
    subst (λ (s : ℕ). (e : ℕ) → Decides (has set' e) (Any (DirectionIn chart east s e) chart.directions.now)) same_north by_east in
    same_members set set' (λ e. same_from_decides (has set e) (has set' e) (decided e) (by_both e))

-- a composition of two directions that was read and held is counted in
pub directions_counted : (chart : Chart) (first second : Direction) (r s : ℕ) → meant_code dwelling_words chart.letters.0.now first.letter.now ≡ Some r →
    meant_code dwelling_words chart.letters.0.now second.letter.now ≡ Some s → (old new : Score) (read : Option ℕ) →
    MatchOption read (UncomposedByParts chart first second) (λ set. ComposesByParts chart first second set) → (read ≡ None → ⊥) →
    ((set : ℕ) → read ≡ Some set → (agrees : Bool) × Decides agrees (Composition dwellings r s set) × (new ≡ score_after old agrees)) →
    Counts old.lacking new.lacking (DirectionsAgree chart first second)
directions_counted chart first second r s is_r is_s old new None composed some counted = absurd (some refl)
directions_counted chart first second r s is_r is_s old new (Some set) composed some counted =
    let (agrees, decides, after) = counted set refl in
    counts_as old.lacking new.lacking (λ ours. (r, is_r, s, is_s, set, composed, ours)) back (counts_one old new agrees (Composition dwellings r s set) decides after)
  where
    back : DirectionsAgree chart first second → Composition dwellings r s set
    back (r', is_r', s', is_s', set', composed', ours) =
        let same_r : r' ≡ r = same_Some r' r (sym is_r' ∙ is_r) in
        let same_s : s' ≡ s = same_Some s' s (sym is_s' ∙ is_s) in
        subst (λ (n : ℕ). Composition dwellings r s n) (by_parts_same chart first second set' set composed' composed)
        (subst (λ (n : ℕ). Composition dwellings r n set') same_s (subst (λ (n : ℕ). Composition dwellings n s' set') same_r ours))
