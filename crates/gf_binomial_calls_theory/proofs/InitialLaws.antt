-- Initial forms of differences of two monomials, by whole weights of any sign: such differences again.
-- To cite: initial_binomial, initial_monomial, forms_at_binomials, forms_at_variables. The rest are steps.
use Rattle.std.proofs.Common.{◌≡◌, ◌⊎◌, ℕ, true, List, Contains, ℤ, ◌<ℤ◌, ◌≤ℤ◌, Option, Some, None, arith, refl, sym, ap, subst, inl, inr, if◌then◌else◌, ◌∙◌}
use Rattle.std.proofs.lemmas.Int.{ints}
use Rattle.gf_frac.specs.Fraction.{◌+ℚ◌, neg_ℚ, zero_ℚ, one_ℚ}
use Rattle.gf_frac.proofs.FractionLaws.{zero_or_not}
use Rattle.gf_exponents_theory.specs.Exponents.{Exponents, same, whole_weight}
use Rattle.gf_exponents_theory.proofs.WholeWeightLaws.{whole_weight-same}
use Rattle.gf_int_theory.proofs.SignLaws.{equal_or_not}
use Rattle.gf_poly.specs.Polynomial.{Terms, coefficient}
use Rattle.gf_poly.specs.Marking.{MarkedPolynomial}
use Rattle.gf_poly.specs.InitialForms.{IsInitialForm}
use Rattle.gf_poly.proofs.PolynomialLaws.{coefficient-same}
use Rattle.gf_poly.proofs.InitialFormLaws.{same_or_not}
use Rattle.gf_ideal_theory.specs.Membership.{HasMonomial, IsInVariables, AreInVariables}
use Rattle.gf_ideal_theory.proofs.PieceLaws.{Contains-marked}
use Rattle.gf_facets_theory.proofs.VectorLaws.{three}
use Rattle.gf_initial_theory.specs.Parts.{IsInitialPart}
use Rattle.gf_initial_theory.proofs.MatchingLaws.{matched-from}
use Rattle.gf_initial_monomials.specs.Outcomes.{AreFormsAt}
use Rattle.gf_binomial_bases_theory.proofs.BinomialParts.{off_monomial, none_left}
use Rattle.gf_binomials_theory.specs.Binomials.{indicator, IsBinomialOf, IsBinomial, AreBinomials}

-- ---- a monomial that may be missing

-- e is the monomial
abbrev IsAt : Option Exponents → Exponents → Type 0
IsAt None e = ⊥
IsAt (Some x) e = same e x ≡ true

at_or_off : (p : Option Exponents) (e : Exponents) → IsAt p e ⊎ (indicator p e ≡ zero_ℚ)
at_or_off None e = inr refl
at_or_off (Some x) e = elim (same_or_not e x) [ inl s ↦ inl s | inr n ↦ inr (ap (λ b. if b then one_ℚ else zero_ℚ) n) ]

-- each monomial of a difference is one of the two
one_of : (p q : Option Exponents) (f : Terms) (e : Exponents) → IsBinomialOf p q f → HasMonomial f e → IsAt p e ⊎ IsAt q e
one_of p q f e h n = elim (at_or_off p e) [
  | inl s ↦ inl s
  | inr a ↦ elim (at_or_off q e) [ inl s ↦ inr s | inr b ↦ absurd (n (h.equation e ∙ none_left p q e a b)) ]
]

-- f has it, or no monomial of f is it
abbrev IsOf : Option Exponents → Terms → Type 0
IsOf p f = ((x : Exponents) × (p ≡ Some x) × HasMonomial f x) ⊎ ((e : Exponents) → HasMonomial f e → IsAt p e → ⊥)

of_or_not : (p : Option Exponents) (f : Terms) → IsOf p f
of_or_not None f = inr (λ e h s. s)
of_or_not (Some x) f = elim (zero_or_not (coefficient f x)) [
  | inl z ↦ inr (λ e h s. h (coefficient-same f e x s ∙ z))
  | inr n ↦ inl (x, refl, n)
]

at_weight : (w : List ℤ) (p : Option Exponents) (x e : Exponents) → p ≡ Some x → IsAt p e → whole_weight w e ≡ whole_weight w x
at_weight w None x e q s = absurd s
at_weight w (Some y) x e q s = let k : y ≡ x = cc in whole_weight-same w e y s ∙ ap (whole_weight w) k

-- ---- the greatest weight

-- d is the greatest weight of a monomial of f
record IsTop (w : List ℤ) (f : Terms) (d : ℤ) : Type 0 where
  at : Exponents
  there : HasMonomial f at
  weight : whole_weight w at ≡ d
  under : (e : Exponents) → HasMonomial f e → whole_weight w e ≤ℤ d

-- f has no monomial, or one of greatest weight
top_or_none : (w : List ℤ) (p q : Option Exponents) (f : Terms) → IsBinomialOf p q f → ((e : Exponents) → HasMonomial f e → ⊥) ⊎ ((d : ℤ) × IsTop w f d)
top_or_none w p q f h = at (of_or_not p f) (of_or_not q f)
  where
    two : (x y : Exponents) → p ≡ Some x → q ≡ Some y → HasMonomial f x → HasMonomial f y →
        (whole_weight w x <ℤ whole_weight w y) ⊎ ((whole_weight w x ≡ whole_weight w y) ⊎ (whole_weight w y <ℤ whole_weight w x)) → (d : ℤ) × IsTop w f d
    two x y a b m n (inl l) = (
      whole_weight w y,
      record {
        at = y;
        there = n;
        weight = refl;
        under = λ e k. elim (one_of p q f e h k) [ inl s ↦ omega (arith, ints, at_weight w p x e a s, l) | inr s ↦ omega (arith, ints, at_weight w q y e b s) ];
      },
    )
    two x y a b m n (inr (inl l)) = (
      whole_weight w x,
      record {
        at = x;
        there = m;
        weight = refl;
        under = λ e k. elim (one_of p q f e h k) [ inl s ↦ omega (arith, ints, at_weight w p x e a s) | inr s ↦ omega (arith, ints, at_weight w q y e b s, l) ];
      },
    )
    two x y a b m n (inr (inr l)) = (
      whole_weight w x,
      record {
        at = x;
        there = m;
        weight = refl;
        under = λ e k. elim (one_of p q f e h k) [ inl s ↦ omega (arith, ints, at_weight w p x e a s) | inr s ↦ omega (arith, ints, at_weight w q y e b s, l) ];
      },
    )

    at : IsOf p f → IsOf q f → ((e : Exponents) → HasMonomial f e → ⊥) ⊎ ((d : ℤ) × IsTop w f d)
    at (inl x) (inl y) = inr (two x.0 y.0 x.1 y.1 x.2 y.2 (three (whole_weight w x.0) (whole_weight w y.0)))
    at (inl x) (inr n) = inr (
      whole_weight w x.0,
      record {
        at = x.0;
        there = x.2;
        weight = refl;
        under = λ e k. elim (one_of p q f e h k) [ inl s ↦ omega (arith, ints, at_weight w p x.0 e x.1 s) | inr s ↦ absurd (n e k s) ];
      },
    )
    at (inr n) (inl y) = inr (
      whole_weight w y.0,
      record {
        at = y.0;
        there = y.2;
        weight = refl;
        under = λ e k. elim (one_of p q f e h k) [ inl s ↦ absurd (n e k s) | inr s ↦ omega (arith, ints, at_weight w q y.0 e y.1 s) ];
      },
    )
    at (inr n) (inr m) = inl (λ e k. elim (one_of p q f e h k) [ inl s ↦ n e k s | inr s ↦ m e k s ])

-- ---- the terms of one weight

-- p where it has the weight d, else nothing
record IsKept (w : List ℤ) (d : ℤ) (p : Option Exponents) : Type 0 where
  left : Option Exponents
  on : (e : Exponents) → whole_weight w e ≡ d → indicator left e ≡ indicator p e
  off : (e : Exponents) → (whole_weight w e ≡ d → ⊥) → indicator left e ≡ zero_ℚ

kept : (w : List ℤ) (d : ℤ) (p : Option Exponents) → IsKept w d p
kept w d None = record { left = None; on = λ e l. refl; off = λ e n. refl }
kept w d (Some x) = elim (equal_or_not (whole_weight w x) d) [
  | inl l ↦ record { left = Some x; on = λ e k. refl; off = λ e n. off_monomial x e (λ s. n (whole_weight-same w e x s ∙ l)) }
  | inr n ↦ record { left = None; on = λ e k. sym (off_monomial x e (λ s. n (sym (whole_weight-same w e x s) ∙ k))); off = λ e m. refl }
]

-- g has the terms of f of weight d
level_binomial : (w : List ℤ) (d : ℤ) (f g : Terms) → IsBinomial f → ((e : Exponents) → whole_weight w e ≡ d → coefficient g e ≡ coefficient f e) →
    ((e : Exponents) → (whole_weight w e ≡ d → ⊥) → coefficient g e ≡ zero_ℚ) → IsBinomial g
level_binomial w d f g h on off = record {
  first = p.left;
  second = q.left;
  binomial = record {
    equation = λ e. elim (equal_or_not (whole_weight w e) d) [
      | inl l ↦ on e l ∙ h.binomial.equation e ∙ ap (λ z. z +ℚ neg_ℚ (indicator h.second e)) (sym (p.on e l))
          ∙ ap (λ z. indicator p.left e +ℚ neg_ℚ z) (sym (q.on e l))
      | inr n ↦ off e n ∙ sym (none_left p.left q.left e (p.off e n) (q.off e n))
    ];
  };
}
  where
    p : IsKept w d h.first
    p = kept w d h.first

    q : IsKept w d h.second
    q = kept w d h.second

-- ---- initial forms

module _ (w : List ℤ) (f g : Terms) (i : IsInitialForm w f g) where
  on_top : (d : ℤ) → IsTop w f d → (e : Exponents) → whole_weight w e ≡ d → coefficient g e ≡ coefficient f e
  on_top d t e l = i.heaviest e (λ y n. omega (arith, ints, t.under y n, l))

  off_top : (d : ℤ) → IsTop w f d → (e : Exponents) → (whole_weight w e ≡ d → ⊥) → coefficient g e ≡ zero_ℚ
  off_top d t e n = at (three (whole_weight w e) d)
    where
      at : (whole_weight w e <ℤ d) ⊎ ((whole_weight w e ≡ d) ⊎ (d <ℤ whole_weight w e)) → coefficient g e ≡ zero_ℚ
      at (inl l) = i.lighter e t.at t.there (omega (arith, ints, t.weight, l))
      at (inr (inl l)) = absurd (n l)
      at (inr (inr l)) = i.heaviest e (λ y k. omega (arith, ints, t.under y k, l)) ∙ elim (zero_or_not (coefficient f e)) [
        | inl z ↦ z
        | inr k ↦ absurd (omega (arith, ints, t.under e k, l))
      ]

  pub initial_binomial : IsBinomial f → IsBinomial g
  initial_binomial h = elim (top_or_none w h.first h.second f h.binomial) [
    | inl none ↦ record {
      first = h.first;
      second = h.second;
      binomial = record { equation = λ e. i.heaviest e (λ y n. absurd (none y n)) ∙ h.binomial.equation e };
    }
    | inr t ↦ level_binomial w t.0 f g h (on_top t.0 t.1) (off_top t.0 t.1)
  ]

  -- its monomials are some of those of f
  pub initial_monomial : IsBinomial f → (e : Exponents) → HasMonomial g e → HasMonomial f e
  initial_monomial h e n = elim (top_or_none w h.first h.second f h.binomial) [
    | inl none ↦ (λ z. n (i.heaviest e (λ y k. absurd (none y k)) ∙ z))
    | inr t ↦ elim (equal_or_not (whole_weight w e) t.0) [ inl l ↦ (λ z. n (on_top t.0 t.1 e l ∙ z)) | inr k ↦ absurd (n (off_top t.0 t.1 e k)) ]
  ]

-- ---- those of the members of a basis

module _ (v : List ℤ) (bs : List MarkedPolynomial) (fs : List Terms) (a : AreFormsAt v bs fs)
    (two : (b : MarkedPolynomial) → Contains bs b → IsBinomial b.poly) where
  of_member : (f : Terms) → Contains fs f → (b : MarkedPolynomial) × Contains bs b × IsInitialForm v b.poly f
  of_member f c = at (Contains-marked a.parts f (subst (λ (z : List Terms). Contains z f) (sym a.polys_are) c))
    where
      at : ((p : MarkedPolynomial) × Contains a.parts p × (p.poly ≡ f)) → (b : MarkedPolynomial) × Contains bs b × IsInitialForm v b.poly f
      at p = let b = matched-from (IsInitialPart v) bs a.parts a.are_parts p.0 p.1 in (b.0, b.1, subst (λ (z : Terms). IsInitialForm v b.0.poly z) p.2 b.2.form)

  pub forms_at_binomials : AreBinomials fs
  forms_at_binomials f c = let b = of_member f c in initial_binomial v b.0.poly f b.2 (two b.0 b.1)

  pub forms_at_variables : (n : ℕ) → ((b : MarkedPolynomial) → Contains bs b → IsInVariables n b.poly) → AreInVariables n fs
  forms_at_variables n inside f c x m = let b = of_member f c in inside b.0 b.1 x (initial_monomial v b.0.poly f b.2 (two b.0 b.1) x m)
