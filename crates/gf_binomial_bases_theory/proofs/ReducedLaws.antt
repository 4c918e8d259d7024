-- The reduced bases of an ideal that differences of two monomials generate are such differences.
-- To cite: reduced_binomials.
use Rattle.std.proofs.Common.{◌≡◌, ◌⊎◌, ℕ, Bool, true, false, if◌then◌else◌, List, [], ◌++◌, Contains, Option, Some, None, refl, ap, sym, ◌∙◌, inl, inr}
use Rattle.gf_frac.specs.Fraction.{◌+ℚ◌, neg_ℚ, zero_ℚ, one_ℚ}
use Rattle.gf_frac.proofs.FractionLaws.{+ℚ-neg_ℚ}
use Rattle.gf_exponents_theory.specs.Exponents.{Exponents, same, plus}
use Rattle.gf_exponents_theory.proofs.ExponentsLaws.{same_flip, same_trans}
use Rattle.gf_poly.specs.Polynomial.{Terms, coefficient, SamePolynomial, times}
use Rattle.gf_poly.specs.Marking.{MarkedPolynomial}
use Rattle.gf_poly.proofs.PolynomialLaws.{coefficient-same}
use Rattle.gf_ideal_theory.specs.Membership.{HasMonomial, IsInVariables, AreInVariables, IsMember}
use Rattle.gf_ideal_theory.specs.Reduction.{IsIrreducible}
use Rattle.gf_ideal_theory.specs.Bases.{HasReducedTails, IsHeaviest}
use Rattle.gf_ideal_theory.proofs.Identities.{one_not_zero}
use Rattle.gf_ideal_theory.proofs.MembershipLaws.{variables_of_member, member-difference}
use Rattle.gf_ideal_theory.proofs.LeadingLaws.{top_heaviest}
use Rattle.gf_bases_theory.proofs.DifferenceLaws.{difference, less_zero}
use Rattle.gf_bases_theory.proofs.GradedBasisLaws.{basis-graded}
use Rattle.gf_binomials_theory.specs.Binomials.{indicator, AreBinomials, IsMarkedBinomial, AreMarkedBinomials}
use Rattle.gf_binomial_bases_theory.proofs.CongruenceLaws.{monomial_terms, monomial_terms-is, binomial, binomial-is, IsDecided, AreCongruent}
use Rattle.gf_binomial_bases_theory.proofs.CongruenceLaws.{congruence-grading, congruent_symmetric, member_of_congruent, generators_congruent, at_other}
use Rattle.gf_ideal_theory.proofs.UniquenessLaws.{equal_if}

at_itself : (x y : Exponents) → same y x ≡ true → indicator (Some x) y ≡ one_ℚ
at_itself x y h = ap (λ b. if b then one_ℚ else zero_ℚ) h

-- ---- one member

-- b has a monomial y beside its mark, and its mark less y is in the ideal
record HasOther (n : ℕ) (fs : List Terms) (b : MarkedPolynomial) (y : Exponents) : Type 0 where
  there : HasMonomial b.poly y
  beside : same y b.head ≡ false
  member : IsMember n fs (binomial (Some b.head) (Some y))

-- then b is that difference
with_other : (n : ℕ) (fs : List Terms) (bs : List MarkedPolynomial) (b : MarkedPolynomial) (y : Exponents) → IsMember n fs b.poly →
    ((f : Terms) → IsMember n fs f → IsIrreducible (Contains bs) f → SamePolynomial f []) → HasReducedTails bs → Contains bs b →
    coefficient b.poly b.head ≡ one_ℚ → HasOther n fs b y → IsMarkedBinomial b
with_other n fs bs b y inside decides tails c monic o = record {
  tail = t;
  binomial = record { equation = λ e. equal_if (coefficient b.poly e) (coefficient g e) (sym (difference b.poly g e) ∙ zero e) ∙ (binomial-is h t).equation e };
}
  where
    h : Option Exponents
    h = Some b.head

    t : Option Exponents
    t = Some y

    g : Terms
    g = binomial h t

    d : Terms
    d = b.poly ++ times (neg_ℚ one_ℚ) [] g

    -- d at a monomial
    at_d : (e : Exponents) → coefficient d e ≡ coefficient b.poly e +ℚ neg_ℚ (indicator h e +ℚ neg_ℚ (indicator t e))
    at_d e = difference b.poly g e ∙ ap (λ z. coefficient b.poly e +ℚ neg_ℚ z) ((binomial-is h t).equation e)

    -- nothing is left at the mark
    at_mark : (e : Exponents) → same e b.head ≡ true → same e y ≡ false → coefficient d e ≡ zero_ℚ
    at_mark e s f = at_d e ∙ ap (λ z. z +ℚ neg_ℚ (indicator h e +ℚ neg_ℚ (indicator t e))) (coefficient-same b.poly e b.head s ∙ monic)
        ∙ ap (λ z. one_ℚ +ℚ neg_ℚ (z +ℚ neg_ℚ (indicator t e))) (at_itself b.head e s) ∙ ap (λ z. one_ℚ +ℚ neg_ℚ (one_ℚ +ℚ neg_ℚ z)) (at_other y e f)
        ∙ ap (λ z. one_ℚ +ℚ neg_ℚ z) (less_zero one_ℚ) ∙ +ℚ-neg_ℚ one_ℚ

    -- beside both it is b
    beside : (e : Exponents) → same e b.head ≡ false → same e y ≡ false → coefficient d e ≡ coefficient b.poly e
    beside e s f = at_d e ∙ ap (λ z. coefficient b.poly e +ℚ neg_ℚ (z +ℚ neg_ℚ (indicator t e))) (at_other b.head e s) ∙
        ap (λ z. coefficient b.poly e +ℚ neg_ℚ (zero_ℚ +ℚ neg_ℚ z)) (at_other y e f)
        ∙ ap (λ z. coefficient b.poly e +ℚ neg_ℚ z) (+ℚ-neg_ℚ zero_ℚ) ∙ less_zero _

    no : (x y : Exponents) → same x y ≡ true → same x y ≡ false → ⊥
    no x y s f = absurd (cc)

    irreducible : IsIrreducible (Contains bs) d
    irreducible e m div = by (same e y) refl (same e b.head) refl
      where
        by : (p : Bool) → same e y ≡ p → (q : Bool) → same e b.head ≡ q → ⊥
        by true s q k = no y b.head (tails b c y o.there (record {
          member = div.member;
          contained = div.contained;
          rest = div.rest;
          divides = same_trans y e (plus div.rest div.member.head) (same_flip e y s) div.divides;
        })) o.beside
        by false s true k = m (at_mark e k s)
        by false s false k = no e b.head (tails b c e (λ z. m (beside e k s ∙ z)) div) k

    zero : SamePolynomial d []
    zero = decides d (member-difference n fs b.poly g inside o.member) irreducible

-- ---- all of them

pub reduced_binomials : (n : ℕ) (fs : List Terms) (bs : List MarkedPolynomial) → AreInVariables n fs → AreBinomials fs → IsDecided n fs →
    ((b : MarkedPolynomial) → Contains bs b → IsMember n fs b.poly) →
    ((f : Terms) → IsMember n fs f → IsIrreducible (Contains bs) f → SamePolynomial f []) → HasReducedTails bs →
    ((b : MarkedPolynomial) → Contains bs b → coefficient b.poly b.head ≡ one_ℚ) → AreMarkedBinomials (Contains bs)
reduced_binomials n fs bs v two dec inside decides tails monic b c = at ((top_heaviest []).some rest)
  where
    h : Terms
    h = monomial_terms (Some b.head)

    -- b without its mark
    rest : Terms
    rest = b.poly ++ times (neg_ℚ one_ℚ) [] h

    at_rest : (e : Exponents) → coefficient rest e ≡ coefficient b.poly e +ℚ neg_ℚ (indicator (Some b.head) e)
    at_rest e = difference b.poly h e ∙ ap (λ z. coefficient b.poly e +ℚ neg_ℚ z) (monomial_terms-is (Some b.head) e)

    at_mark : (e : Exponents) → same e b.head ≡ true → coefficient rest e ≡ zero_ℚ
    at_mark e s = at_rest e ∙ ap (λ z. z +ℚ neg_ℚ (indicator (Some b.head) e)) (coefficient-same b.poly e b.head s ∙ monic b c) ∙ ap (λ z. one_ℚ +ℚ neg_ℚ z)
        (at_itself b.head e s) ∙ +ℚ-neg_ℚ one_ℚ

    beside : (e : Exponents) → same e b.head ≡ false → coefficient rest e ≡ coefficient b.poly e
    beside e s = at_rest e ∙ ap (λ z. coefficient b.poly e +ℚ neg_ℚ z) (at_other b.head e s) ∙ less_zero _

    in_ring : IsInVariables n b.poly
    in_ring = variables_of_member n fs b.poly v (inside b c)

    head_there : HasMonomial b.poly b.head
    head_there z = one_not_zero (sym (monic b c) ∙ z)

    at : SamePolynomial rest [] ⊎ ((x : Exponents) × IsHeaviest [] rest x) → IsMarkedBinomial b
    at (inl z) = record {
      tail = None;
      binomial = record { equation = λ e. equal_if (coefficient b.poly e) (indicator (Some b.head) e) (sym (at_rest e) ∙ z e) ∙ sym (less_zero _) };
    }
    at (inr x) = by (same x.0 b.head) refl
      where
        by : (p : Bool) → same x.0 b.head ≡ p → IsMarkedBinomial b
        by true s = absurd (x.1.there (at_mark x.0 s))
        by false s = with_other n fs bs b x.0 (inside b c) decides tails c (monic b c)
            (record {
              there = y;
              beside = s;
              member = member_of_congruent n fs b.head x.0 (in_ring b.head head_there) (in_ring x.0 y) (congruent_symmetric n fs x.0 b.head congruent);
            })
          where
            y : HasMonomial b.poly x.0
            y z = x.1.there (beside x.0 s ∙ z)

            congruent : AreCongruent n fs x.0 b.head
            congruent = basis-graded n fs (AreCongruent n fs) bs b (congruence-grading n fs dec) v (generators_congruent n fs v two)
                inside decides tails c x.0 y
