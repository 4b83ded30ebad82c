-- No instance fails exactly if none fails under each name, and each law stands under one.
use Rattle.std.proofs.Common.{List, [], ◌∷◌, arith}
use Rattle.std.specs.List.{All}
use Rattle.literature.specs.Laws.{HoldsOfAll}
use Rattle.literature.specs.Tried.{AllTried, LawTrials}
use Rattle.literature.specs.declared.laws.AlgebraLaw.{AlgebraLaw}
use Rattle.literature.specs.declared.laws.AlgebraLaw.TheVariants.{LeftIdentity, RightIdentity, ConverseOfConverse, ConverseOfComposition, Associativity, Cycle}
use Rattle.literature.proofs.Printing.{appends_more}
use Rattle.literature.proofs.laws.try_laws.Goals as goal

one : (P : AlgebraLaw → Type 0) (law : AlgebraLaw) → All P (law ∷ []) → P law
one P law all = all 0 law (omega arith)

each : (P : AlgebraLaw → Type 0) → All P (LeftIdentity ∷ RightIdentity ∷ []) → All P (ConverseOfConverse ∷ []) → All P (ConverseOfComposition ∷ []) →
    All P (Associativity ∷ []) → All P (Cycle ∷ []) → (law : AlgebraLaw) → P law
each P i c o a y LeftIdentity = i 0 LeftIdentity (omega arith)
each P i c o a y RightIdentity = i 1 RightIdentity (omega arith)
each P i c o a y ConverseOfConverse = one P ConverseOfConverse c
each P i c o a y ConverseOfComposition = one P ConverseOfComposition o
each P i c o a y Associativity = one P Associativity a
each P i c o a y Cycle = one P Cycle y

every : (P : AlgebraLaw → Type 0) → ((law : AlgebraLaw) → P law) → (laws : List AlgebraLaw) → All P laws
every P h laws k d l = h _

pub returns-clause-counted : goal.returns-clause-counted
returns-clause-counted g c =
    let P = HoldsOfAll g.K.Kind.meaning in
    let (identity, of_identity) = c.in_ok-try_named.ensures.counted in
    let (twice, of_twice) = c.in_ok-try_named-2.ensures.counted in
    let (composed, of_composed) = c.in_ok-try_named-3.ensures.counted in
    let (associative, of_associative) = c.in_ok-try_named-4.ensures.counted in
    let (cycles, of_cycles) = c.in_ok-try_named-5.ensures.counted in
    let is = c.total.ensures in (
      λ zero. each P (identity (omega arith)) (twice (omega arith)) (composed (omega arith)) (associative (omega arith)) (cycles (omega arith)),
      λ all.
          omega (arith, is, of_identity (every P all (LeftIdentity ∷ RightIdentity ∷ [])), of_twice (every P all (ConverseOfConverse ∷ [])), of_composed (every P all (ConverseOfComposition ∷ [])), of_associative (every P all (Associativity ∷ [])), of_cycles (every P all (Cycle ∷ []))),
    )

pub returns-clause-printed : goal.returns-clause-printed
returns-clause-printed g c =
    let (identity, of_identity, m1, p1) = c.in_ok-try_named.ensures.printed in
    let (twice, of_twice, m2, p2) = c.in_ok-try_named-2.ensures.printed in
    let (composition, of_composition, m3, p3) = c.in_ok-try_named-3.ensures.printed in
    let (associativity, of_associativity, m4, p4) = c.in_ok-try_named-4.ensures.printed in
    let (cycle, of_cycle, m5, p5) = c.in_ok-try_named-5.ensures.printed in
    let trials : LawTrials = record { identity = identity; twice = twice; composition = composition; associativity = associativity; cycle = cycle } in
    let tried : AllTried g.K.Kind.meaning trials = record { identity = of_identity; twice = of_twice; composition = of_composition; associativity = of_associativity; cycle = of_cycle } in
    (trials, tried, omega (arith, c.total.ensures, m1, m2, m3, m4, m5), appends_more _ _ _ _ _ (appends_more _ _ _ _ _ (appends_more _ _ _ _ _ (appends_more _ _ _ _ _ p1 p2) p3) p4) p5)
