-- Where the initial ideal has no polynomial of one term, the vector is on the prevariety: else the initial form of a generator has one
-- term.
-- To cite: top_term, free_inside.
use Rattle.std.proofs.Common.{
  ◌≡◌,
  ◌≢◌,
  ◌⊎◌,
  ℕ,
  Bool,
  true,
  false,
  if◌then◌else◌,
  List,
  [],
  ◌∷◌,
  map,
  ℤ,
  pos,
  ◌<ℤ◌,
  ◌≤ℤ◌,
  Contains,
  arith,
  refl,
  sym,
  ap,
  ◌∙◌,
  subst,
  inl,
  inr,
}
use Rattle.std.proofs.lemmas.Int.{ints}
use Rattle.gf_frac.specs.Fraction.{◌+ℚ◌, zero_ℚ}
use Rattle.gf_frac.proofs.FractionLaws.{+ℚ-zero, zero_or_not}
use Rattle.gf_exponents_theory.specs.Exponents.{Exponents, same, whole_weight}
use Rattle.gf_exponents_theory.proofs.ExponentsLaws.{same-refl, same_trans}
use Rattle.gf_exponents_theory.proofs.WholeWeightLaws.{whole_weight-same}
use Rattle.gf_int_theory.proofs.ListLaws.{Contains-here}
use Rattle.gf_poly.specs.declared.Term.{Term}
use Rattle.gf_poly.specs.Polynomial.{Terms, HasVariables, IsDescending, coefficient}
use Rattle.gf_poly.specs.InitialForms.{IsOfGreatestWeight, IsInitialForm}
use Rattle.gf_poly.proofs.CoefficientLaws.{term_coefficient}
use Rattle.gf_poly.proofs.PolynomialLaws.{coefficient-same}
use Rattle.gf_poly.proofs.InitialFormLaws.{occurs}
use Rattle.gf_ideal_theory.specs.Membership.{HasMonomial}
use Rattle.gf_ideal_theory.proofs.ListLaws.{Contains-there, Contains-cases}
use Rattle.gf_ideal_theory.proofs.KeptForms.{term_there}
use Rattle.gf_ideal_theory.proofs.MembershipLaws.{member-generator}
use Rattle.gf_facets_theory.proofs.VectorLaws.{three}
use Rattle.gf_patterns_theory.specs.Patterns.{points, IsOnHypersurface, IsOnPrevariety}
use Rattle.gf_patterns_theory.proofs.FormLaws.{highest_greatest}
use Rattle.gf_patterns_theory.proofs.PointLaws.{from_pos, of_sets}
use Rattle.gf_saturation_theory.specs.Saturations.{IsOfOneTerm}
use Rattle.gf_tropical_basis_test.specs.Tests.{IsMonomialFree, AreKeptNonzero}

-- ---- a term of greatest weight

abbrev IsAbove : List ℤ → Term → Terms → Type 0
IsAbove w t f = (s : Term) → Contains f s → whole_weight w s.mono ≤ℤ whole_weight w t.mono

pub top_term : (w : List ℤ) (t : Term) (f : Terms) → (s : Term) × Contains (t ∷ f) s × IsAbove w s (t ∷ f)
top_term w t [] = (
  t,
  Contains-here t [],
  λ s c. elim (Contains-cases t s [] c) [
    | inl e ↦ subst (λ (u : Term). whole_weight w u.mono ≤ℤ whole_weight w t.mono) e (omega (arith, ints))
    | inr k ↦ absurd (omega (arith, k.1))
  ],
)
top_term w t (u ∷ f) = at (top_term w u f)
  where
    at : ((s : Term) × Contains (u ∷ f) s × IsAbove w s (u ∷ f)) → (s : Term) × Contains (t ∷ u ∷ f) s × IsAbove w s (t ∷ u ∷ f)
    at r = by (three (whole_weight w r.0.mono) (whole_weight w t.mono))
      where
        kept : whole_weight w t.mono ≤ℤ whole_weight w r.0.mono → (s : Term) × Contains (t ∷ u ∷ f) s × IsAbove w s (t ∷ u ∷ f)
        kept l = (
          r.0,
          Contains-there t r.0 (u ∷ f) r.1,
          λ s c. elim (Contains-cases t s (u ∷ f) c) [
            | inl e ↦ subst (λ (z : Term). whole_weight w z.mono ≤ℤ whole_weight w r.0.mono) e l
            | inr k ↦ r.2 s k
          ],
        )

        by : (whole_weight w r.0.mono <ℤ whole_weight w t.mono) ⊎
            ((whole_weight w r.0.mono ≡ whole_weight w t.mono) ⊎ (whole_weight w t.mono <ℤ whole_weight w r.0.mono)) →
            (s : Term) × Contains (t ∷ u ∷ f) s × IsAbove w s (t ∷ u ∷ f)
        by (inl l) = (
          t,
          Contains-here t (u ∷ f),
          λ s c. elim (Contains-cases t s (u ∷ f) c) [
            | inl e ↦ subst (λ (z : Term). whole_weight w z.mono ≤ℤ whole_weight w t.mono) e (omega (arith, ints))
            | inr k ↦ let m = r.2 s k in omega (arith, ints, m, l)
          ],
        )
        by (inr (inl e)) = kept (omega (arith, ints, e))
        by (inr (inr l)) = kept (omega (arith, ints, l))

-- ---- another one of the same weight, or none

record HasAnother (w : List ℤ) (t : Term) (f : Terms) : Type 0 where
  term : Term
  inside : Contains f term
  other : same term.mono t.mono ≡ false
  weight : whole_weight w term.mono ≡ whole_weight w t.mono

abbrev HasNoOther : List ℤ → Term → Terms → Type 0
HasNoOther w t f = (s : Term) → Contains f s → whole_weight w s.mono ≡ whole_weight w t.mono → same s.mono t.mono ≡ true

another_or_not : (w : List ℤ) (t : Term) (f : Terms) → HasAnother w t f ⊎ HasNoOther w t f
another_or_not w t [] = inr (λ s c e. absurd (omega (arith, c.1)))
another_or_not w t (u ∷ f) = at (another_or_not w t f)
  where
    first : HasNoOther w t f → (b : Bool) → same u.mono t.mono ≡ b →
        (whole_weight w u.mono <ℤ whole_weight w t.mono) ⊎
        ((whole_weight w u.mono ≡ whole_weight w t.mono) ⊎ (whole_weight w t.mono <ℤ whole_weight w u.mono)) →
        HasAnother w t (u ∷ f) ⊎ HasNoOther w t (u ∷ f)
    first n true s c = inr (λ v k e. elim (Contains-cases u v f k) [ inl q ↦ subst (λ (z : Term). same z.mono t.mono ≡ true) q s | inr k ↦ n v k e ])
    first n false s (inr (inl e)) = inl (record { term = u; inside = Contains-here u f; other = s; weight = e })
    first n false s (inl l) = inr (λ v k e. elim (Contains-cases u v f k) [
      | inl q ↦
          let m : whole_weight w u.mono ≡ whole_weight w t.mono = subst (λ (z : Term). whole_weight w z.mono ≡ whole_weight w t.mono) (sym q) e in
          absurd (omega (arith, ints, l, m))
      | inr k ↦ n v k e
    ])
    first n false s (inr (inr l)) = inr (λ v k e. elim (Contains-cases u v f k) [
      | inl q ↦
          let m : whole_weight w u.mono ≡ whole_weight w t.mono = subst (λ (z : Term). whole_weight w z.mono ≡ whole_weight w t.mono) (sym q) e in
          absurd (omega (arith, ints, l, m))
      | inr k ↦ n v k e
    ])

    at : HasAnother w t f ⊎ HasNoOther w t f → HasAnother w t (u ∷ f) ⊎ HasNoOther w t (u ∷ f)
    at (inl h) = inl (record { term = h.term; inside = Contains-there u h.term f h.inside; other = h.other; weight = h.weight })
    at (inr n) = first n (same u.mono t.mono) refl (three (whole_weight w u.mono) (whole_weight w t.mono))

-- ---- the initial form of one term

abbrev alone : Term → Terms
alone t = t ∷ []

at_alone : (t : Term) (x : Exponents) → same x t.mono ≡ true → coefficient (alone t) x ≡ t.coef
at_alone t x s = ap (λ b. (if b then t.coef else zero_ℚ) +ℚ zero_ℚ) s ∙ +ℚ-zero t.coef

off_alone : (t : Term) (x : Exponents) → same x t.mono ≡ false → coefficient (alone t) x ≡ zero_ℚ
off_alone t x s = ap (λ b. (if b then t.coef else zero_ℚ) +ℚ zero_ℚ) s ∙ +ℚ-zero zero_ℚ

form_alone : (n : ℕ) (w : List ℤ) (f : Terms) (t : Term) → HasVariables n f → IsDescending f → Contains f t → IsAbove w t f → HasNoOther w t f →
    IsInitialForm w f (alone t)
form_alone n w f t v d c top single = record { heaviest = λ x g. at x g (same x t.mono) refl; lighter = λ x y m l. below x y m l (same x t.mono) refl }
  where
    at : (x : Exponents) → IsOfGreatestWeight w f x → (b : Bool) → same x t.mono ≡ b → coefficient (alone t) x ≡ coefficient f x
    at x g true s = at_alone t x s ∙ sym (term_coefficient n f t v d c) ∙ sym (coefficient-same f x t.mono s)
    at x g false s = off_alone t x s ∙ sym (none (zero_or_not (coefficient f x)))
      where
        none : (coefficient f x ≡ zero_ℚ) ⊎ (coefficient f x ≢ zero_ℚ) → coefficient f x ≡ zero_ℚ
        none (inl z) = z
        none (inr m) =
            let o = occurs f x m in
            let p = g t.mono (term_there n f t v d c) in
            let q = top o.0 o.1 in
            let e : whole_weight w x ≡ whole_weight w o.0.mono = whole_weight-same w x o.0.mono o.2 in
            let r : same x t.mono ≡ true = same_trans x o.0.mono t.mono o.2 (single o.0 o.1 (omega (arith, ints, p, q, e))) in
            absurd (cc)

    below : (x y : Exponents) → coefficient f y ≢ zero_ℚ → whole_weight w x <ℤ whole_weight w y → (b : Bool) → same x t.mono ≡ b →
        coefficient (alone t) x ≡ zero_ℚ
    below x y m l false s = off_alone t x s
    below x y m l true s =
        let o = occurs f y m in
        let q = top o.0 o.1 in
        let e : whole_weight w y ≡ whole_weight w o.0.mono = whole_weight-same w y o.0.mono o.2 in
        let r : whole_weight w x ≡ whole_weight w t.mono = whole_weight-same w x t.mono s in
        absurd (omega (arith, ints, l, q, e, r))

one_term : (t : Term) → t.coef ≢ zero_ℚ → IsOfOneTerm (alone t) t.mono
one_term t n = record { there = λ z. n (sym (at_alone t t.mono (same-refl t.mono)) ∙ z); alone = λ y m. at y m (same y t.mono) refl }
  where
    at : (y : Exponents) → HasMonomial (alone t) y → (b : Bool) → same y t.mono ≡ b → same y t.mono ≡ true
    at y m true s = s
    at y m false s = absurd (m (off_alone t y s))

-- ---- on the prevariety

pub free_inside : (n : ℕ) (fs : List Terms) (w : List ℤ) → AreKeptNonzero n fs → IsMonomialFree n fs w → IsOnPrevariety (map points fs) w
free_inside n fs w kept free A c = at (of_sets fs A c)
  where
    on : (f : Terms) → Contains fs f → HasVariables n f → IsDescending f → f ≢ [] → IsOnHypersurface (points f) w
    on [] k v d z = absurd (z refl)
    on (u ∷ g) k v d z = by (top_term w u g)
      where
        f : Terms
        f = u ∷ g

        by : ((t : Term) × Contains f t × IsAbove w t f) → IsOnHypersurface (points f) w
        by t = found (another_or_not w t.0 f)
          where
            highest : IsOfGreatestWeight w f t.0.mono
            highest y m =
                let o = occurs f y m in
                let q = t.2 o.0 o.1 in
                let e : whole_weight w y ≡ whole_weight w o.0.mono = whole_weight-same w y o.0.mono o.2 in
                omega (arith, ints, q, e)

            found : HasAnother w t.0 f ⊎ HasNoOther w t.0 f → IsOnHypersurface (points f) w
            found (inl h) = record {
              one = map pos t.0.mono;
              two = map pos h.term.mono;
              other = λ e.
                  let s : same h.term.mono t.0.mono ≡ true = ap (λ x. same x t.0.mono) (sym (from_pos t.0.mono h.term.mono e)) ∙ same-refl t.0.mono in
                  let o : same h.term.mono t.0.mono ≡ false = h.other in
                  absurd (cc);
              first = (highest_greatest n w f t.0 v d t.1).1 highest;
              second = (highest_greatest n w f h.term v d h.inside).1 (λ y m. let q = highest y m in let e = h.weight in omega (arith, ints, q, e));
            }
            found (inr single) = absurd (free (alone t.0) t.0.mono
                (record {
                  forms = alone t.0 ∷ [];
                  initial = ((f, member-generator n fs f k, form_alone n w f t.0 v d t.1 t.2 single), tt);
                  member = member-generator n (alone t.0 ∷ []) (alone t.0) (Contains-here (alone t.0) []);
                })
                (one_term t.0 (λ e. term_there n f t.0 v d t.1 (term_coefficient n f t.0 v d t.1 ∙ e))))

    at : ((f : Terms) × (Contains fs f × (A ≡ points f))) → IsOnHypersurface A w
    at f = let k = kept.each f.0 f.1.0 in subst (λ (B : List (List ℤ)). IsOnHypersurface B w) (sym f.1.1) (on f.0 f.1.0 k.0 k.1 k.2)
