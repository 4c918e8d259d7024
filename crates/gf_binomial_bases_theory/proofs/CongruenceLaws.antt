-- Monomials whose difference is in the ideal: where the ideal is decided, they are classes that products keep.
-- To cite: monomial_terms, binomial, binomial-is, binomials_same, AreCongruent, congruence-grading, IsDecided, generators_congruent.
use Rattle.std.proofs.Common.{◌≡◌, ◌⊎◌, ℕ, ◌≤◌, true, false, if◌then◌else◌, List, [], ◌∷◌, ◌++◌, Contains, Option, Some, None, arith, refl, ap, sym, ◌∙◌, inl}
use Rattle.std.proofs.Common.{inr}
use Rattle.gf_frac.specs.Fraction.{◌+ℚ◌, ◌*ℚ◌, neg_ℚ, zero_ℚ, one_ℚ}
use Rattle.gf_frac.proofs.FractionLaws.{+ℚ-zero, +ℚ-neg_ℚ, one-*ℚ}
use Rattle.gf_exponents_theory.specs.Exponents.{Exponents, entry, same, plus, IsInRing}
use Rattle.gf_exponents_theory.proofs.ExponentsLaws.{entry-plus, entries_same, same_flip}
use Rattle.gf_poly.specs.Polynomial.{Terms, coefficient, SamePolynomial, times}
use Rattle.gf_poly.proofs.PolynomialLaws.{coefficient-++, coefficient-times, coefficient-factor, times-plain}
use Rattle.gf_ideal_theory.specs.Membership.{HasMonomial, IsInVariables, AreInVariables, IsMember}
use Rattle.gf_ideal_theory.proofs.Identities.{neg_one, one_not_zero}
use Rattle.gf_ideal_theory.proofs.RingLaws.{beyond, ring-along}
use Rattle.gf_ideal_theory.proofs.MembershipLaws.{member-equal, member-zero, member-generator, member-++, member-times}
use Rattle.gf_ideal_theory.proofs.OrderWeights.{IsGrading}
use Rattle.gf_binomials_theory.specs.Binomials.{indicator, IsBinomialOf, IsBinomial, AreBinomials}
use Rattle.gf_binomials_theory.proofs.MonomialLaws.{at_like, IsTheMonomial, IsFirst, one_of_two, multiple_of_binomial, second_replaced, turned_round}
use Rattle.gf_binomial_bases_theory.proofs.CutLaws.{cut, cut-ring, cut-same, cut-along, cut-plus}
use Rattle.gf_poly.proofs.InitialFormLaws.{same_or_not}

-- ---- differences as polynomials

abbrev pub monomial_terms : Option Exponents → Terms
monomial_terms None = []
monomial_terms (Some x) = record { coef = one_ℚ; mono = x } ∷ []

pub monomial_terms-is : (s : Option Exponents) (e : Exponents) → coefficient (monomial_terms s) e ≡ indicator s e
monomial_terms-is None e = refl
monomial_terms-is (Some x) e = +ℚ-zero _

-- the one less the other
abbrev pub binomial : Option Exponents → Option Exponents → Terms
binomial p q = monomial_terms p ++ times (neg_ℚ one_ℚ) [] (monomial_terms q)

pub binomial-is : (p q : Option Exponents) → IsBinomialOf p q (binomial p q)
binomial-is p q = record {
  equation = λ e. coefficient-++ (monomial_terms p) (times (neg_ℚ one_ℚ) [] (monomial_terms q)) e
      ∙ ap (λ z. z +ℚ coefficient (times (neg_ℚ one_ℚ) [] (monomial_terms q)) e) (monomial_terms-is p e)
      ∙ ap (λ z. indicator p e +ℚ z) (coefficient-factor (neg_ℚ one_ℚ) [] (monomial_terms q) e ∙ ap (λ h. neg_ℚ one_ℚ *ℚ coefficient h e)
      (times-plain (monomial_terms q)) ∙ neg_one _ ∙ ap neg_ℚ (monomial_terms-is q e));
}

-- it is told by the two coefficients
pub binomials_same : (p q r s : Option Exponents) (f g : Terms) → IsBinomialOf p q f → IsBinomialOf r s g → ((e : Exponents) → indicator p e ≡ indicator r e) →
    ((e : Exponents) → indicator q e ≡ indicator s e) → SamePolynomial f g
binomials_same p q r s f g h k a b e = h.equation e ∙ ap (λ z. z +ℚ neg_ℚ (indicator q e)) (a e) ∙ ap (λ z. indicator r e +ℚ neg_ℚ z) (b e) ∙ sym (k.equation e)

-- ---- classes

-- a polynomial of n variables is in the ideal, or it isn't
abbrev pub IsDecided : ℕ → List Terms → Type 0
IsDecided n fs = (f : Terms) → IsInVariables n f → IsMember n fs f ⊎ (IsMember n fs f → ⊥)

-- x and y agree past the first n variables, and the rest of x less that of y is in the ideal
pub record AreCongruent (n : ℕ) (fs : List Terms) (x y : Exponents) : Type 0 where
  pub agree : (i : ℕ) → n ≤ i → entry x i ≡ entry y i
  pub member : IsMember n fs (binomial (Some (cut n x)) (Some (cut n y)))

pub at_other : (x y : Exponents) → same y x ≡ false → indicator (Some x) y ≡ zero_ℚ
at_other x y h = ap (λ b. if b then one_ℚ else zero_ℚ) h

-- both at one index
pub monomials_same : (s : Option Exponents) (x y : Exponents) → IsTheMonomial s x → IsTheMonomial s y → same x y ≡ true
monomials_same s x y h k = elim (same_or_not x y) [ inl t ↦ t | inr f ↦ absurd (one_not_zero (sym h.one ∙ k.like x ∙ at_other y x f)) ]

variables_of_binomial : (n : ℕ) (x y : Exponents) → IsInRing n x → IsInRing n y → IsInVariables n (binomial (Some x) (Some y))
variables_of_binomial n x y h k e m = at (one_of_two (Some x) (Some y) (binomial (Some x) (Some y)) e (binomial-is (Some x) (Some y)) m)
  where
    is : (z : Exponents) → IsInRing n z → IsTheMonomial (Some z) e → IsInRing n e
    is z r s = elim (same_or_not e z) [ inl t ↦ ring-along n z e (same_flip e z t) r | inr f ↦ absurd (one_not_zero (sym s.one ∙ at_other z e f)) ]

    at : IsFirst (Some x) (Some y) e ⊎ IsFirst (Some y) (Some x) e → IsInRing n e
    at (inl f) = is x h f.there
    at (inr f) = is y k f.there

pub congruent_along : (n : ℕ) (fs : List Terms) (x y : Exponents) → same x y ≡ true → AreCongruent n fs x y
congruent_along n fs x y s = record {
  agree = λ i l. entries_same x y s i;
  member = member-equal n fs [] (binomial (Some (cut n x)) (Some (cut n y))) (λ e. sym ((binomial-is (Some (cut n x)) (Some (cut n y))).equation e
      ∙ ap (λ z. z +ℚ neg_ℚ (indicator (Some (cut n y)) e)) (at_like (cut n x) (cut n y) e (cut-along n x y s)) ∙ +ℚ-neg_ℚ _)) (member-zero n fs);
}

pub congruent_symmetric : (n : ℕ) (fs : List Terms) (x y : Exponents) → AreCongruent n fs x y → AreCongruent n fs y x
congruent_symmetric n fs x y h = record {
  agree = λ i l. sym (h.agree i l);
  member = member-equal n fs (times (neg_ℚ one_ℚ) [] f) (binomial b a)
      (λ e. coefficient-times (neg_ℚ one_ℚ) [] f e ∙ neg_one _ ∙ ap neg_ℚ ((binomial-is a b).equation e) ∙ turned_round (indicator a e) (indicator b e) ∙
      sym ((binomial-is b a).equation e))
      (member-times n fs f (neg_ℚ one_ℚ) [] (λ i l. refl) h.member);
}
  where
    a : Option Exponents
    a = Some (cut n x)

    b : Option Exponents
    b = Some (cut n y)

    f : Terms
    f = binomial a b

pub congruent_transitive : (n : ℕ) (fs : List Terms) (x y z : Exponents) → AreCongruent n fs x y → AreCongruent n fs y z → AreCongruent n fs x z
congruent_transitive n fs x y z h k = record {
  agree = λ i l. h.agree i l ∙ k.agree i l;
  member = member-equal n fs (binomial a b ++ binomial b c) (binomial a c)
      (λ e. coefficient-++ (binomial a b) (binomial b c) e ∙ ap (λ w. w +ℚ coefficient (binomial b c) e) ((binomial-is a b).equation e) ∙
      ap (λ w. (indicator a e +ℚ neg_ℚ (indicator b e)) +ℚ w) ((binomial-is b c).equation e)
      ∙ second_replaced (indicator a e) (indicator b e) (indicator c e) ∙ sym ((binomial-is a c).equation e))
      (member-++ n fs (binomial a b) (binomial b c) h.member k.member);
}
  where
    a : Option Exponents
    a = Some (cut n x)

    b : Option Exponents
    b = Some (cut n y)

    c : Option Exponents
    c = Some (cut n z)

pub congruent_invariant : (n : ℕ) (fs : List Terms) (z x y : Exponents) → AreCongruent n fs x y → AreCongruent n fs (plus z x) (plus z y)
congruent_invariant n fs z x y h = record {
  agree = λ i l. omega (arith, h.agree i l, entry-plus z x i, entry-plus z y i);
  member = member-equal n fs (times one_ℚ (cut n z) (binomial (Some (cut n x)) (Some (cut n y)))) (binomial (Some (cut n (plus z x))) (Some (cut n (plus z y))))
      (λ e. multiple_of_binomial one_ℚ (cut n z) (Some (cut n x)) (Some (cut n y)) (binomial (Some (cut n x)) (Some (cut n y)))
      (binomial-is (Some (cut n x)) (Some (cut n y))) e ∙ one-*ℚ _
      ∙ ap (λ w. w +ℚ neg_ℚ (indicator (Some (plus (cut n z) (cut n y))) e)) (at_like (plus (cut n z) (cut n x)) (cut n (plus z x)) e (cut-plus n z x))
      ∙ ap (λ w. indicator (Some (cut n (plus z x))) e +ℚ neg_ℚ w) (at_like (plus (cut n z) (cut n y)) (cut n (plus z y)) e (cut-plus n z y))
      ∙ sym ((binomial-is (Some (cut n (plus z x))) (Some (cut n (plus z y)))).equation e))
      (member-times n fs (binomial (Some (cut n x)) (Some (cut n y))) one_ℚ (cut n z) (cut-ring n z) h.member);
}

pub congruent_decided : (n : ℕ) (fs : List Terms) → IsDecided n fs → (x y : Exponents) → AreCongruent n fs x y ⊎ (AreCongruent n fs x y → ⊥)
congruent_decided n fs d x y = elim (beyond n x y) [
  | inr o ↦ inr (λ h. o h.agree)
  | inl a ↦ elim (d (binomial (Some (cut n x)) (Some (cut n y))) (variables_of_binomial n (cut n x) (cut n y) (cut-ring n x) (cut-ring n y))) [
    | inl m ↦ inl (record { agree = a; member = m })
    | inr o ↦ inr (λ h. o h.member)
  ]
]

pub congruence-grading : (n : ℕ) (fs : List Terms) → IsDecided n fs → IsGrading (AreCongruent n fs)
congruence-grading n fs d = record {
  decide = congruent_decided n fs d;
  along = congruent_along n fs;
  symmetric = congruent_symmetric n fs;
  transitive = congruent_transitive n fs;
  invariant = congruent_invariant n fs;
}

-- ---- in the ring

-- monomials of the ring are congruent where their difference is in the ideal
pub congruent_of_member : (n : ℕ) (fs : List Terms) (p q : Option Exponents) (f : Terms) (x y : Exponents) → IsInRing n x → IsInRing n y → IsBinomialOf p q f →
    IsTheMonomial p x → IsTheMonomial q y → IsMember n fs f → AreCongruent n fs x y
congruent_of_member n fs p q f x y rx ry h px qy m = record {
  agree = λ i l. rx i l ∙ sym (ry i l);
  member = member-equal n fs f (binomial (Some (cut n x)) (Some (cut n y))) (binomials_same p q (Some (cut n x)) (Some (cut n y)) f
      (binomial (Some (cut n x)) (Some (cut n y))) h (binomial-is (Some (cut n x)) (Some (cut n y)))
      (λ e. px.like e ∙ sym (at_like (cut n x) x e (cut-same n x rx))) (λ e. qy.like e ∙ sym (at_like (cut n y) y e (cut-same n y ry)))) m;
}

-- and back
pub member_of_congruent : (n : ℕ) (fs : List Terms) (x y : Exponents) → IsInRing n x → IsInRing n y → AreCongruent n fs x y →
    IsMember n fs (binomial (Some x) (Some y))
member_of_congruent n fs x y rx ry h = member-equal n fs (binomial (Some (cut n x)) (Some (cut n y))) (binomial (Some x) (Some y))
    (binomials_same (Some (cut n x)) (Some (cut n y)) (Some x) (Some y) (binomial (Some (cut n x)) (Some (cut n y))) (binomial (Some x) (Some y))
    (binomial-is (Some (cut n x)) (Some (cut n y))) (binomial-is (Some x) (Some y))
    (λ e. at_like (cut n x) x e (cut-same n x rx)) (λ e. at_like (cut n y) y e (cut-same n y ry))) h.member

-- all monomials of a generator are congruent
pub generators_congruent : (n : ℕ) (fs : List Terms) → AreInVariables n fs → AreBinomials fs → (f : Terms) → Contains fs f → (x y : Exponents) →
    HasMonomial f x → HasMonomial f y → AreCongruent n fs x y
generators_congruent n fs v b f c x y hx hy = at (one_of_two h.first h.second f x h.binomial hx) (one_of_two h.first h.second f y h.binomial hy)
  where
    h : IsBinomial f
    h = b f c

    m : IsMember n fs f
    m = member-generator n fs f c

    at : IsFirst h.first h.second x ⊎ IsFirst h.second h.first x → IsFirst h.first h.second y ⊎ IsFirst h.second h.first y → AreCongruent n fs x y
    at (inl k) (inl l) = congruent_along n fs x y (monomials_same h.first x y k.there l.there)
    at (inr k) (inr l) = congruent_along n fs x y (monomials_same h.second x y k.there l.there)
    at (inl k) (inr l) = congruent_of_member n fs h.first h.second f x y (v f c x hx) (v f c y hy) h.binomial k.there l.there m
    at (inr k) (inl l) = congruent_symmetric n fs y x (congruent_of_member n fs h.first h.second f y x (v f c y hy) (v f c x hx) h.binomial l.there k.there m)
