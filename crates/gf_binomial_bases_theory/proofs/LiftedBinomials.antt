-- Lifts of the reduced basis of the parts of a basis of differences are differences: where a member has two terms, its
-- remainder is zero, and where it has one, its remainder is a monomial or zero.
-- To cite: lift-binomial, basis_of_parts-binomials.
use Rattle.std.proofs.Common.{◌≡◌, ◌≢◌, ℕ, Bool, true, false, if◌then◌else◌, List, [], ◌++◌, Contains, ℤ, Option, Some, None, refl, ap, sym, ◌∙◌}
use Rattle.gf_frac.specs.Fraction.{Fraction, ◌+ℚ◌, neg_ℚ, zero_ℚ, one_ℚ}
use Rattle.gf_frac.proofs.FractionLaws.{+ℚ-neg_ℚ}
use Rattle.gf_exponents_theory.specs.Exponents.{Exponents, same, plus, IsInRing}
use Rattle.gf_exponents_theory.proofs.ExponentsLaws.{same-refl, same_flip, same_trans}
use Rattle.gf_poly.specs.Polynomial.{Terms, coefficient, SamePolynomial, times}
use Rattle.gf_poly.specs.Marking.{MarkedPolynomial, polys}
use Rattle.gf_ideal_theory.specs.Membership.{HasMonomial, IsInVariables, AreInVariables, IsMember, Spans}
use Rattle.gf_ideal_theory.specs.Reduction.{IsDivisible, IsIrreducible, Reached}
use Rattle.gf_ideal_theory.specs.Bases.{HasReducedTails}
use Rattle.gf_ideal_theory.proofs.Identities.{one_not_zero}
use Rattle.gf_ideal_theory.proofs.RingLaws.{ring-along}
use Rattle.gf_ideal_theory.proofs.SpanLaws.{Spans-equal, Spans-zero}
use Rattle.gf_ideal_theory.proofs.MembershipLaws.{variables_of_member, spans_of_member, member_of_spans}
use Rattle.gf_ideal_theory.proofs.StepLaws.{variables-reached}
use Rattle.gf_bases_theory.proofs.DifferenceLaws.{difference, less_zero}
use Rattle.gf_initial_theory.proofs.PartLaws.{parts-variables, parts_decide}
use Rattle.gf_initial_theory.proofs.SideLaws.{side-weak}
use Rattle.gf_initial_theory.proofs.FlipLaws.{ArePartFacts}
use Rattle.gf_facets_theory.specs.Rows.{negated}
use Rattle.gf_binomials_theory.specs.Binomials.{indicator, IsBinomialOf, IsMarkedBinomial, AreMarkedBinomials}
use Rattle.gf_binomials_theory.proofs.WholeLaws.{neg_one-not_zero}
use Rattle.gf_binomials_theory.proofs.MonomialLaws.{second_alone, both_there}
use Rattle.gf_binomial_bases_theory.proofs.CongruenceLaws.{binomial, binomial-is}
use Rattle.gf_binomial_bases_theory.proofs.DecidedLaws.{decided_by_basis}
use Rattle.gf_binomial_bases_theory.proofs.ReducedLaws.{reduced_binomials}
use Rattle.gf_binomial_bases_theory.proofs.BinomialParts.{parts_binomials}
use Rattle.gf_binomial_bases_theory.proofs.CarriedLaws.{spans_binomial, spans_chain, spans_turned, IsCarried, carried_reached, IsAlone, alone_reached}

-- ---- one monomial

itself : (x : Exponents) → indicator (Some x) x ≡ one_ℚ
itself x = ap (λ b. if b then one_ℚ else zero_ℚ) (same-refl x)

-- a monomial of a polynomial that is one monomial is that one
only : (x e : Exponents) → coefficient (binomial (Some x) None) e ≢ zero_ℚ → same e x ≡ true
only x e n = at (same e x) refl
  where
    at : (b : Bool) → same e x ≡ b → same e x ≡ true
    at true h = h
    at false h = absurd (n (both_there (Some x) None (binomial (Some x) None) e (binomial-is (Some x) None) (ap (λ b. if b then one_ℚ else zero_ℚ) h)))

-- a tail that is apart from the mark, and divided by no mark of a basis, isn't in the ideal
tail_outside : (n : ℕ) (fs : List Terms) (hs : List MarkedPolynomial) (y : Exponents) → AreInVariables n fs → IsInRing n y →
    ((f : Terms) → IsMember n fs f → IsIrreducible (Contains hs) f → SamePolynomial f []) → (IsDivisible (Contains hs) y → ⊥) →
    Spans fs (binomial (Some y) None) → ⊥
tail_outside n fs hs y v r decides free s = one_not_zero (sym (itself y) ∙ sym (less_zero _) ∙ sym ((binomial-is (Some y) None).equation y) ∙ zero y)
  where
    f : Terms
    f = binomial (Some y) None

    zero : SamePolynomial f []
    zero = decides f (member_of_spans n fs f v (λ e m. ring-along n y e (same_flip e y (only y e m)) r) s)
        (λ e m d. free (record {
          member = d.member;
          contained = d.contained;
          rest = d.rest;
          divides = same_trans y e (plus d.rest d.member.head) (same_flip e y (only y e m)) d.divides;
        }))

-- ---- a basis of the parts

part_variables : (n : ℕ) (gs : List Terms) (bs ps hs : List MarkedPolynomial) (a v : List ℤ) → AreInVariables n gs → ArePartFacts n gs bs ps hs a v →
    AreInVariables n (polys ps)
part_variables n gs bs ps hs a v vars q = parts-variables n bs ps v (λ d c. variables_of_member n gs d.poly vars (q.side.reduced.basis.members d c)) q.levels

pub basis_of_parts-binomials : (n : ℕ) (gs : List Terms) (bs ps hs : List MarkedPolynomial) (a v : List ℤ) → AreInVariables n gs →
    AreMarkedBinomials (Contains bs) → ArePartFacts n gs bs ps hs a v → HasReducedTails hs → AreMarkedBinomials (Contains hs)
basis_of_parts-binomials n gs bs ps hs a v vars two q tails =
    let w = part_variables n gs bs ps hs a v vars q in
    reduced_binomials n (polys ps) hs w (parts_binomials v bs ps two q.levels) (decided_by_basis n (polys ps) hs w q.basis) q.basis.members q.basis.decides
    tails (λ h c. (q.further h c).monic)

-- ---- a lift

twice_none : (a b : Fraction) → (a +ℚ neg_ℚ zero_ℚ) +ℚ neg_ℚ (b +ℚ neg_ℚ zero_ℚ) ≡ a +ℚ neg_ℚ b
twice_none a b = ap (λ z. z +ℚ neg_ℚ (b +ℚ neg_ℚ zero_ℚ)) (less_zero a) ∙ ap (λ z. a +ℚ neg_ℚ z) (less_zero b)

-- the mark less a monomial or nothing
marked_by_tail : (h l : MarkedPolynomial) (t : Option Exponents) → l.head ≡ h.head →
    ((e : Exponents) → coefficient l.poly e ≡ indicator (Some h.head) e +ℚ neg_ℚ (indicator t e)) → IsMarkedBinomial l
marked_by_tail h l t k q = record { tail = t; binomial = record { equation = λ e. q e ∙ ap (λ z. indicator (Some z) e +ℚ neg_ℚ (indicator t e)) (sym k) } }

pub lift-binomial : (n : ℕ) (gs : List Terms) (bs ps hs : List MarkedPolynomial) (a v : List ℤ) → AreInVariables n gs → AreMarkedBinomials (Contains bs) →
    ArePartFacts n gs bs ps hs a v → HasReducedTails hs → (h l : MarkedPolynomial) (r : Terms) → Contains hs h → IsMarkedBinomial h →
    Reached (Contains bs) h.poly r → IsIrreducible (Contains bs) r → l.head ≡ h.head → SamePolynomial l.poly (h.poly ++ times (neg_ℚ one_ℚ) [] r) →
    IsMarkedBinomial l
lift-binomial n gs bs ps hs a v vars two q tails h l r c hb reached free k eq = at hb.tail hb.binomial
  where
    P : List Terms
    P = polys ps

    w : AreInVariables n P
    w = part_variables n gs bs ps hs a v vars q

    monic : coefficient h.poly h.head ≡ one_ℚ
    monic = (q.further h c).monic

    member : IsMember n P h.poly
    member = q.basis.members h c

    ring : IsInVariables n h.poly
    ring = variables_of_member n P h.poly w member

    top : Option Exponents
    top = Some h.head

    at_l : (e : Exponents) → coefficient l.poly e ≡ coefficient h.poly e +ℚ neg_ℚ (coefficient r e)
    at_l e = eq e ∙ difference h.poly r e

    at : (t : Option Exponents) → IsBinomialOf top t h.poly → IsMarkedBinomial l
    at None i = one (alone_reached (Contains bs) h.poly r two (record { monomial = top; is_binomial = i }) reached)
      where
        one : IsAlone r → IsMarkedBinomial l
        one d = marked_by_tail h l d.monomial k (λ e. at_l e ∙ ap (λ z. z +ℚ neg_ℚ (coefficient r e)) (i.equation e) ∙
            ap (λ z. (indicator top e +ℚ neg_ℚ zero_ℚ) +ℚ neg_ℚ z) (d.is_binomial.equation e) ∙ twice_none (indicator top e) (indicator d.monomial e))
    at (Some y) i = marked_by_tail h l t k (λ e. at_l e ∙ ap (λ z. coefficient h.poly e +ℚ neg_ℚ z) (rest_zero e) ∙ less_zero _ ∙ i.equation e)
      where
        t : Option Exponents
        t = Some y

        -- y isn't the mark
        beside : same y h.head ≡ false
        beside = by (same y h.head) refl
          where
            by : (b : Bool) → same y h.head ≡ b → same y h.head ≡ false
            by false s = s
            by true s = absurd (one_not_zero (sym monic ∙ both_there top t h.poly h.head i
                (itself h.head ∙ sym (ap (λ b. if b then one_ℚ else zero_ℚ) (same_flip y h.head s)))))

        there : HasMonomial h.poly y
        there z = neg_one-not_zero (sym (second_alone top t h.poly y i (ap (λ b. if b then one_ℚ else zero_ℚ) beside) (itself y)) ∙ z)

        no : same y h.head ≡ true → ⊥
        no s = let f = beside in absurd (cc)

        tail_free : Spans P (binomial t None) → ⊥
        tail_free = tail_outside n P hs y w (ring y there) q.basis.decides (λ d. no (tails h c y there d))

        both : Spans P (binomial top t)
        both = spans_binomial P top t h.poly i (spans_of_member n P h.poly member)

        mark_free : Spans P (binomial top None) → ⊥
        mark_free s = tail_free (spans_chain P t top None (spans_turned P top t both) s)

        own : (p : Option Exponents) → Spans P (binomial p p)
        own p = Spans-equal P [] (binomial p p) (λ e. sym ((binomial-is p p).equation e ∙ +ℚ-neg_ℚ _)) (Spans-zero P)

        carried : IsCarried P top t r
        carried = carried_reached v bs ps top t h.poly r two q.levels mark_free tail_free (record {
          first = h.head;
          second = y;
          is_binomial = i;
          of_first = own top;
          of_second = own t;
        }) reached

        spanned : Spans P r
        spanned = Spans-equal P (binomial (Some carried.first) (Some carried.second)) r
            (λ e. (binomial-is (Some carried.first) (Some carried.second)).equation e ∙ sym (carried.is_binomial.equation e))
            (spans_chain P (Some carried.first) top (Some carried.second) (spans_turned P top (Some carried.first) carried.of_first)
            (spans_chain P top t (Some carried.second) both carried.of_second))

        rest_ring : IsInVariables n r
        rest_ring = variables-reached n (Contains bs) h.poly r (λ d j. variables_of_member n gs d.poly vars (q.side.reduced.basis.members d j)) ring reached

        rest_zero : SamePolynomial r []
        rest_zero = parts_decide n gs bs ps v r vars q.side.reduced.basis (side-weak n gs v (negated a) bs q.side) q.levels
            (member_of_spans n P r w rest_ring spanned) free
