-- Compositions of three base relations, and converses of compositions, as the sets of bits have them.
use Rattle.std.proofs.Common.{◌≡◌, ℕ, ◌<◌, true, Decides, sym, refl, subst, arith}
use Rattle.std.proofs.lemmas.Bool.Decides.{Decides-like}
use Rattle.points.specs.Sets.{has}
use Rattle.kinds.specs.Meaning.{Meaning, Laws, Involutive, Fits}
use Rattle.kinds.specs.Composition.{Composition}
use Rattle.literature.specs.Relations.{Single, Turns, Converses, Reaches, Compositions}

module _ {V : Type 0} (m : Meaning V) (laws : Laws m) where
  -- what holds of lawful values is one of the codes
  is_code : (c : ℕ) (u v : V) → m.lawful u → m.lawful v → m.holds c u v → c < m.codes
  is_code c u v p q h = let one = laws.one u v p q in subst (λ (n : ℕ). n < m.codes) (sym (one.only c h)) one.below

  -- a code is below 64
  below_64 : (c : ℕ) → c < m.codes → c < 64
  below_64 c l = let few = laws.few_codes in omega arith

  -- the converses of a composition
  pub composed_turned : Involutive m → (r s first set : ℕ) → Composition m r s first → Converses m first set →
      (e : ℕ) → Decides (has set e) ((c : ℕ) × Fits m r s c × (e ≡ m.converse c))
  composed_turned both r s first set composed turned e = Decides-like (has set e) forth back (turned e)
    where
      forth : (c : ℕ) × (has first c ≡ true) × Turns m c e → (c : ℕ) × Fits m r s c × (e ≡ m.converse c)
      forth (c, h, is) = (c, (composed c).0 h, is.0)

      back : (c : ℕ) × Fits m r s c × (e ≡ m.converse c) → (c : ℕ) × (has first c ≡ true) × Turns m c e
      back (c, f, is) = (c, (composed c).1 f, (is, below_64 (m.converse c) (both.code c (is_code c f.u f.w f.u_lawful f.w_lawful f.across))))

  -- a composition composed with one base relation
  pub composed_with : (r s t first one set : ℕ) → Composition m r s first → Single t one → Compositions m first one set →
      (e : ℕ) → Decides (has set e) ((c : ℕ) × Fits m r s c × Fits m c t e)
  composed_with r s t first one set composed single all e = Decides-like (has set e) forth back (all e)
    where
      forth : (c : ℕ) × (has first c ≡ true) × Reaches m one c e → (c : ℕ) × Fits m r s c × Fits m c t e
      forth (c, h, (d, k, f)) = (c, (composed c).0 h, subst (λ (n : ℕ). Fits m c n e) ((single d).0 k).0 f)

      back : (c : ℕ) × Fits m r s c × Fits m c t e → (c : ℕ) × (has first c ≡ true) × Reaches m one c e
      back (c, f, g) = (c, (composed c).1 f, (t, (single t).1 (refl, below_64 t (is_code t g.v g.w g.v_lawful g.w_lawful g.second)), g))

  -- one base relation composed with a composition
  pub with_composed : (r s t one second set : ℕ) → Single r one → Composition m s t second → Compositions m one second set →
      (e : ℕ) → Decides (has set e) ((d : ℕ) × Fits m s t d × Fits m r d e)
  with_composed r s t one second set single composed all e = Decides-like (has set e) forth back (all e)
    where
      forth : (c : ℕ) × (has one c ≡ true) × Reaches m second c e → (d : ℕ) × Fits m s t d × Fits m r d e
      forth (c, h, (d, k, f)) = (d, (composed d).0 k, subst (λ (n : ℕ). Fits m n d e) ((single c).0 h).0 f)

      back : (d : ℕ) × Fits m s t d × Fits m r d e → (c : ℕ) × (has one c ≡ true) × Reaches m second c e
      back (d, f, g) = (r, (single r).1 (refl, below_64 r (is_code r g.u g.v g.u_lawful g.v_lawful g.first)), (d, (composed d).1 f, g))
