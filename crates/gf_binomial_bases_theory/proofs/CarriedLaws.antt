-- What steps of a basis of differences make of a difference of two monomials, modulo the parts of the basis: as long as
-- neither of the two is spanned by the parts, both are carried on to monomials that are the same modulo the parts.
-- To cite: spans_binomial, spans_chain, spans_turned, IsCarried, carried_reached, alone_reached.
use Rattle.std.proofs.Common.{◌≡◌, List, [], ◌++◌, Contains, ℤ, Option, Some, None, ap, sym, ◌∙◌, subst}
use Rattle.gf_frac.specs.Fraction.{◌+ℚ◌, neg_ℚ, one_ℚ}
use Rattle.gf_frac.proofs.FractionLaws.{one-*ℚ, zero-not-one}
use Rattle.gf_exponents_theory.specs.Exponents.{Exponents, plus}
use Rattle.gf_poly.specs.Polynomial.{Terms, coefficient, times}
use Rattle.gf_poly.specs.Marking.{MarkedPolynomial, polys}
use Rattle.gf_poly.proofs.PolynomialLaws.{coefficient-++, coefficient-times}
use Rattle.gf_ideal_theory.specs.Membership.{Spans}
use Rattle.gf_ideal_theory.specs.Reduction.{IsStep, Reached}
use Rattle.gf_ideal_theory.proofs.Identities.{neg_one}
use Rattle.gf_ideal_theory.proofs.SpanLaws.{Spans-equal, Spans-generator, Spans-++, Spans-times}
use Rattle.gf_ideal_theory.proofs.PieceLaws.{Contains-polys}
use Rattle.gf_initial_theory.specs.Parts.{Matching}
use Rattle.gf_initial_theory.proofs.MatchingLaws.{matched-to}
use Rattle.gf_initial_theory.proofs.PartLaws.{IsLevelPart}
use Rattle.gf_binomials_theory.specs.Binomials.{indicator, IsBinomialOf, IsMarkedBinomial, AreMarkedBinomials}
use Rattle.gf_binomials_theory.proofs.MonomialLaws.{at_like, IsTheMonomial, binomial_of-equal, shifted, multiple_of_binomial, second_replaced, turned_round}
use Rattle.gf_binomials_theory.proofs.BinomialLaws.{Stepped, stepped}
use Rattle.gf_binomial_bases_theory.proofs.CongruenceLaws.{binomial, binomial-is}
use Rattle.gf_binomial_bases_theory.proofs.BinomialParts.{IsPartOf, part_of}

-- ---- spanned differences

pub spans_binomial : (fs : List Terms) (p q : Option Exponents) (f : Terms) → IsBinomialOf p q f → Spans fs f → Spans fs (binomial p q)
spans_binomial fs p q f h s = Spans-equal fs f (binomial p q) (λ e. h.equation e ∙ sym ((binomial-is p q).equation e)) s

pub spans_chain : (fs : List Terms) (p q r : Option Exponents) → Spans fs (binomial p q) → Spans fs (binomial q r) → Spans fs (binomial p r)
spans_chain fs p q r h k = Spans-equal fs (binomial p q ++ binomial q r) (binomial p r)
    (λ e. coefficient-++ (binomial p q) (binomial q r) e ∙ ap (λ w. w +ℚ coefficient (binomial q r) e) ((binomial-is p q).equation e) ∙
    ap (λ w. (indicator p e +ℚ neg_ℚ (indicator q e)) +ℚ w) ((binomial-is q r).equation e)
    ∙ second_replaced (indicator p e) (indicator q e) (indicator r e) ∙ sym ((binomial-is p r).equation e))
    (Spans-++ fs (binomial p q) (binomial q r) h k)

pub spans_turned : (fs : List Terms) (p q : Option Exponents) → Spans fs (binomial p q) → Spans fs (binomial q p)
spans_turned fs p q h = Spans-equal fs (times (neg_ℚ one_ℚ) [] (binomial p q)) (binomial q p)
    (λ e. coefficient-times (neg_ℚ one_ℚ) [] (binomial p q) e ∙ neg_one _ ∙ ap neg_ℚ ((binomial-is p q).equation e) ∙ turned_round (indicator p e)
    (indicator q e) ∙ sym ((binomial-is q p).equation e))
    (Spans-times fs (binomial p q) (neg_ℚ one_ℚ) [] h)

-- ---- one step

-- a monomial that a step takes away is the same as what comes for it, or it is spanned
data Moved (fs : List Terms) (x : Exponents) (t : Option Exponents) : Type 0 where
  on : (y : Exponents) → t ≡ Some y → Spans fs (binomial (Some x) (Some y)) → Moved fs x t
  spanned : Spans fs (binomial (Some x) None) → Moved fs x t

moved : (v : List ℤ) (bs ps : List MarkedPolynomial) (f g : Terms) (x : Exponents) → Matching (IsLevelPart v) bs ps → (s : IsStep (Contains bs) f g) →
    (m : IsMarkedBinomial s.member) → IsTheMonomial (Some x) s.at → Moved (polys ps) x (shifted s.rest m.tail)
moved v bs ps f g x h s m k = at (matched-to (IsLevelPart v) bs ps h s.member s.contained)
  where
    u : Exponents
    u = plus s.rest s.member.head

    -- x is where the member is raised to
    like : (e : Exponents) → indicator (Some u) e ≡ indicator (Some x) e
    like e = sym (k.like e ∙ at_like s.at u e s.divides)

    raised : (p : Terms) (t : Option Exponents) → Contains (polys ps) p → IsBinomialOf (Some s.member.head) t p →
        Spans (polys ps) (binomial (Some x) (shifted s.rest t))
    raised p t c l = spans_binomial (polys ps) (Some x) (shifted s.rest t) (times one_ℚ s.rest p)
        (record {
          equation = λ e. multiple_of_binomial one_ℚ s.rest (Some s.member.head) t p l e ∙ one-*ℚ _ ∙ ap (λ z. z +ℚ neg_ℚ (indicator (shifted s.rest t) e))
              (like e);
        })
        (Spans-times (polys ps) p one_ℚ s.rest (Spans-generator (polys ps) p c))

    at : ((p : MarkedPolynomial) × Contains ps p × IsLevelPart v s.member p) → Moved (polys ps) x (shifted s.rest m.tail)
    at p = by (part_of v s.member p.0 m p.2)
      where
        by : IsPartOf s.member.head m.tail p.0.poly → Moved (polys ps) x (shifted s.rest m.tail)
        by (IsPartOf.whole y e l) = Moved.on (plus s.rest y) (ap (shifted s.rest) e) (raised p.0.poly (Some y) (Contains-polys ps p.0 p.1) l)
        by (IsPartOf.mark l) = Moved.spanned (raised p.0.poly None (Contains-polys ps p.0 p.1) l)

-- ---- a difference that is carried on

-- f is the difference of two monomials that are those two modulo fs
pub record IsCarried (fs : List Terms) (p q : Option Exponents) (f : Terms) : Type 0 where
  pub first : Exponents
  pub second : Exponents
  pub is_binomial : IsBinomialOf (Some first) (Some second) f
  pub of_first : Spans fs (binomial p (Some first))
  pub of_second : Spans fs (binomial q (Some second))

carried_step : (v : List ℤ) (bs ps : List MarkedPolynomial) (p q : Option Exponents) (f g : Terms) → AreMarkedBinomials (Contains bs) →
    Matching (IsLevelPart v) bs ps → (Spans (polys ps) (binomial p None) → ⊥) → (Spans (polys ps) (binomial q None) → ⊥) → IsCarried (polys ps) p q f →
    IsStep (Contains bs) f g → IsCarried (polys ps) p q g
carried_step v bs ps p q f g two h np nq c s = at (stepped (Contains bs) (Some c.first) (Some c.second) f g s m c.is_binomial)
  where
    m : IsMarkedBinomial s.member
    m = two s.member s.contained

    at : Stepped (Some c.first) (Some c.second) s.at (shifted s.rest m.tail) g → IsCarried (polys ps) p q g
    at (Stepped.first k l) = by (moved v bs ps f g c.first h s m k)
      where
        by : Moved (polys ps) c.first (shifted s.rest m.tail) → IsCarried (polys ps) p q g
        by (Moved.on y e r) = record {
          first = y;
          second = c.second;
          is_binomial = subst (λ t. IsBinomialOf t (Some c.second) g) e l;
          of_first = spans_chain (polys ps) p (Some c.first) (Some y) c.of_first r;
          of_second = c.of_second;
        }
        by (Moved.spanned r) = absurd (np (spans_chain (polys ps) p (Some c.first) None c.of_first r))
    at (Stepped.second k l) = by (moved v bs ps f g c.second h s m k)
      where
        by : Moved (polys ps) c.second (shifted s.rest m.tail) → IsCarried (polys ps) p q g
        by (Moved.on y e r) = record {
          first = c.first;
          second = y;
          is_binomial = subst (λ t. IsBinomialOf (Some c.first) t g) e l;
          of_first = c.of_first;
          of_second = spans_chain (polys ps) q (Some c.second) (Some y) c.of_second r;
        }
        by (Moved.spanned r) = absurd (nq (spans_chain (polys ps) q (Some c.second) None c.of_second r))

pub carried_reached : (v : List ℤ) (bs ps : List MarkedPolynomial) (p q : Option Exponents) (f g : Terms) → AreMarkedBinomials (Contains bs) →
    Matching (IsLevelPart v) bs ps → (Spans (polys ps) (binomial p None) → ⊥) → (Spans (polys ps) (binomial q None) → ⊥) → IsCarried (polys ps) p q f →
    Reached (Contains bs) f g → IsCarried (polys ps) p q g
carried_reached v bs ps p q f g two h np nq c (Reached.here k e) = record {
  first = c.first;
  second = c.second;
  is_binomial = binomial_of-equal (Some c.first) (Some c.second) f g e c.is_binomial;
  of_first = c.of_first;
  of_second = c.of_second;
}
carried_reached v bs ps p q f g two h np nq c (Reached.next k l r s) =
    carried_step v bs ps p q k g two h np nq (carried_reached v bs ps p q f k two h np nq c r) s

-- ---- one monomial alone

pub record IsAlone (f : Terms) : Type 0 where
  pub monomial : Option Exponents
  pub is_binomial : IsBinomialOf monomial None f

pub alone_reached : (by : MarkedPolynomial → Type 0) (f g : Terms) → AreMarkedBinomials by → IsAlone f → Reached by f g → IsAlone g
alone_reached by f g two c (Reached.here k e) = record { monomial = c.monomial; is_binomial = binomial_of-equal c.monomial None f g e c.is_binomial }
alone_reached by f g two c (Reached.next k l r s) = one (alone_reached by f k two c r)
  where
    one : IsAlone k → IsAlone g
    one d = at (stepped by d.monomial None k g s (two s.member s.contained) d.is_binomial)
      where
        at : Stepped d.monomial None s.at (shifted s.rest (two s.member s.contained).tail) g → IsAlone g
        at (Stepped.first j i) = record { monomial = shifted s.rest (two s.member s.contained).tail; is_binomial = i }
        at (Stepped.second j i) = absurd (zero-not-one j.one)
