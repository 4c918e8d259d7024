-- The initial ideal is the ideal of the parts; and what is left of a member of it that the basis reduces is lower.
-- To cite: greatest-weight, initial_member, into_initial, from_initial, remainder_below.
use Rattle.std.proofs.Common.{◌≡◌, ◌⊎◌, ◌≢◌, ℕ, true, List, [], ◌++◌, Contains, ℤ, ◌<ℤ◌, ◌≤ℤ◌, arith, sym, ap, ◌∙◌, subst, inl, inr}
use Rattle.std.proofs.lemmas.Int.{ints}
use Rattle.gf_frac.specs.Fraction.{◌+ℚ◌, neg_ℚ, zero_ℚ, one_ℚ}
use Rattle.gf_frac.proofs.FractionLaws.{zero_or_not}
use Rattle.gf_exponents_theory.specs.Exponents.{Exponents, same, whole_weight}
use Rattle.gf_exponents_theory.proofs.WholeWeightLaws.{whole_weight-same}
use Rattle.gf_poly.specs.Polynomial.{Terms, coefficient, SamePolynomial, times}
use Rattle.gf_poly.specs.Marking.{MarkedPolynomial, polys}
use Rattle.gf_poly.specs.InitialForms.{IsInitialForm}
use Rattle.gf_ideal_theory.specs.Membership.{HasMonomial, AreInVariables, IsMember}
use Rattle.gf_ideal_theory.specs.Marks.{value}
use Rattle.gf_ideal_theory.specs.Reduction.{IsIrreducible}
use Rattle.gf_ideal_theory.specs.Bases.{IsBasis, IsGreatest}
use Rattle.gf_ideal_theory.proofs.ListLaws.{each_contained, contained_each}
use Rattle.gf_ideal_theory.proofs.MembershipLaws.{member-zero, member-equal, member-difference, member-trans, variables_of_member}
use Rattle.gf_ideal_theory.proofs.PieceLaws.{Contains-marked}
use Rattle.gf_ideal_theory.proofs.StepLaws.{AreTaken}
use Rattle.gf_ideal_theory.proofs.LeadingLaws.{top_greatest}
use Rattle.gf_ideal_theory.proofs.MarkWeights.{mark-there}
use Rattle.gf_exponents_theory.specs.Orders.{lighter}
use Rattle.gf_initial_theory.specs.Parts.{Matching, IsInitialPart, AreInitialParts}
use Rattle.gf_facets_theory.specs.Facets.{IsInClosedCone}
use Rattle.gf_facets_theory.specs.InitialIdeals.{IsFormOfMember, IsInInitialIdeal}
use Rattle.gf_facets_theory.proofs.VectorLaws.{three}
use Rattle.gf_facets_theory.proofs.WholeLaws.{IsTilted, tilted-order}
use Rattle.gf_bases_theory.proofs.DifferenceLaws.{difference, less_summand, less_zero}
use Rattle.gf_initial_theory.proofs.MatchingLaws.{matched-from, matched-map}
use Rattle.gf_initial_theory.proofs.PartLaws.{IsLevelPart, level_of_initial, parts-variables, parts_decide, IsTopPart, IsUnder, top_of_pieces, top_part}

-- nothing weighs more than the greatest monomial
pub greatest-weight : (w : List ℤ) (u : List ℕ) (f : Terms) (x y : Exponents) → IsGreatest (IsTilted w u) f x →
    HasMonomial f y → whole_weight w y ≤ℤ whole_weight w x
greatest-weight w u f x y g n = at (g.greatest y n)
  where
    at : (same y x ≡ true) ⊎ IsTilted w u y x → whole_weight w y ≤ℤ whole_weight w x
    at (inl s) = omega (arith, ints, whole_weight-same w y x s)
    at (inr (inl l)) = omega (arith, ints, l)
    at (inr (inr e)) = omega (arith, ints, e.0)

-- ---- the initial ideal

-- the initial form of a member is in the ideal of the parts
pub initial_member : (n : ℕ) (fs : List Terms) (bs ps : List MarkedPolynomial) (w : List ℤ) (f g : Terms) →
    AreInVariables n fs → IsBasis n fs bs → IsInClosedCone w bs → Matching (IsLevelPart w) bs ps → IsMember n fs f →
    IsInitialForm w f g → IsMember n (polys ps) g
initial_member n fs bs ps w f g v basis k h m i = at ((top_greatest (IsTilted w []) (tilted-order w [])).some f)
  where
    at : SamePolynomial f [] ⊎ ((x : Exponents) × IsGreatest (IsTilted w []) f x) → IsMember n (polys ps) g
    at (inl z) = member-equal n (polys ps) [] g (λ x. sym (i.heaviest x (λ y n'. absurd (n' (z y))) ∙ z x)) (member-zero n (polys ps))
    at (inr t) = member-equal n (polys ps) r.poly g (λ y. same_at y (three (whole_weight w y) (whole_weight w t.0))) r.member
      where
        d : ℤ
        d = whole_weight w t.0

        under : (y : Exponents) → HasMonomial f y → whole_weight w y ≤ℤ whole_weight w t.0
        under y n' = greatest-weight w [] f t.0 y t.1 n'

        r : IsTopPart n (polys ps) w (whole_weight w t.0) f
        r = top_part n fs bs ps w d f v basis k h m under

        same_at : (y : Exponents) →
            (whole_weight w y <ℤ whole_weight w t.0) ⊎ ((whole_weight w y ≡ whole_weight w t.0) ⊎ (whole_weight w t.0 <ℤ whole_weight w y)) →
            coefficient r.poly y ≡ coefficient g y
        same_at y (inl l) = r.off y (λ e. absurd (omega (arith, ints, l, e))) ∙ sym (i.lighter y t.0 t.1.there l)
        same_at y (inr (inl e)) = r.level y e ∙ sym (i.heaviest y (λ z n'. omega (arith, ints, under z n', e)))
        same_at y (inr (inr l)) = r.off y (λ e. absurd (omega (arith, ints, l, e))) ∙ sym (i.heaviest y (λ z n'. omega (arith, ints, under z n', l)) ∙
            none (zero_or_not (coefficient f y)))
          where
            none : (coefficient f y ≡ zero_ℚ) ⊎ (coefficient f y ≢ zero_ℚ) → coefficient f y ≡ zero_ℚ
            none (inl z) = z
            none (inr n') = absurd (omega (arith, ints, under y n', l))

-- the initial forms of a marked list, as parts of one weight
pub levels : (n : ℕ) (fs : List Terms) (bs ps : List MarkedPolynomial) (w : List ℤ) → IsBasis n fs bs →
    IsInClosedCone w bs → AreInitialParts w bs ps → Matching (IsLevelPart w) bs ps
levels n fs bs ps w basis k h = matched-map (IsInitialPart w) (IsLevelPart w) bs ps
    (λ b p c i. level_of_initial w b p (k b c) (mark-there (lighter basis.marked.0) b (basis.marked.2 b c)) i) h

-- what initial forms generate is in the ideal of the parts
pub from_initial : (n : ℕ) (fs : List Terms) (bs ps : List MarkedPolynomial) (w : List ℤ) (q : Terms) →
    AreInVariables n fs → IsBasis n fs bs → IsInClosedCone w bs → Matching (IsLevelPart w) bs ps →
    IsInInitialIdeal n fs w q → IsMember n (polys ps) q
from_initial n fs bs ps w q v basis k h i =
    member-trans n (polys ps) i.forms q (parts-variables n bs ps w (λ b c. variables_of_member n fs b.poly v (basis.members b c)) h)
    (λ g c. let f = contained_each (IsFormOfMember n fs w) i.forms i.initial g c in initial_member n fs bs ps w f.0 g v basis k h f.1 f.2) i.member

-- and back
pub into_initial : (n : ℕ) (fs : List Terms) (bs ps : List MarkedPolynomial) (w : List ℤ) (q : Terms) → IsBasis n fs bs →
    AreInitialParts w bs ps → IsMember n (polys ps) q → IsInInitialIdeal n fs w q
into_initial n fs bs ps w q basis h m = record {
  forms = polys ps;
  initial = each_contained (IsFormOfMember n fs w) (polys ps) (λ g c. at g (Contains-marked ps g c));
  member = m;
}
  where
    at : (g : Terms) → ((p : MarkedPolynomial) × Contains ps p × (p.poly ≡ g)) →
        (f : Terms) × IsMember n fs f × IsInitialForm w f g
    at g p =
        let b = matched-from (IsInitialPart w) bs ps h p.0 p.1 in
        (b.0.poly, basis.members b.0 b.1, subst (λ (z : Terms). IsInitialForm w b.0.poly z) p.2 b.2.form)

-- ---- remainders

-- where h, in the ideal of the parts, has one weight d, the monomials of its remainder by the basis weigh less
pub remainder_below : (n : ℕ) (fs : List Terms) (bs ps : List MarkedPolynomial) (w : List ℤ) (d : ℤ) (h r : Terms) (t : AreTaken (Contains bs) (IsUnder n w d)
    h r) → AreInVariables n fs → IsBasis n fs bs → IsInClosedCone w bs → Matching (IsLevelPart w) bs ps → IsMember n (polys ps) h →
    ((x : Exponents) → HasMonomial h x → whole_weight w x ≡ d) → IsIrreducible (Contains bs) r → (x : Exponents) → HasMonomial r x → whole_weight w x <ℤ d
remainder_below n fs bs ps w d h r t v basis k match m flat irr x n' = at (three (whole_weight w x) d)
  where
    s : IsTopPart n (polys ps) w d (value t.pieces)
    s = top_of_pieces n bs ps w d k match t.pieces t.inside

    q : Terms
    q = h ++ times (neg_ℚ one_ℚ) [] s.poly

    on : (y : Exponents) → whole_weight w y ≡ d → coefficient q y ≡ coefficient r y
    on y e = difference h s.poly y ∙ ap (λ z. coefficient h y +ℚ neg_ℚ z) (s.level y e) ∙ less_summand (coefficient r y) (coefficient (value t.pieces) y)
        (coefficient h y) (t.equal y)

    off : (y : Exponents) → (whole_weight w y ≡ d → ⊥) → coefficient q y ≡ zero_ℚ
    off y o = difference h s.poly y ∙ ap (λ z. coefficient h y +ℚ neg_ℚ z) (s.off y o) ∙ less_zero (coefficient h y)
        ∙ elim (zero_or_not (coefficient h y)) [ inl z ↦ z | inr c ↦ absurd (o (flat y c)) ]

    irreducible : IsIrreducible (Contains bs) q
    irreducible y c j = index (three (whole_weight w y) d)
      where
        index : (whole_weight w y <ℤ d) ⊎ ((whole_weight w y ≡ d) ⊎ (d <ℤ whole_weight w y)) → ⊥
        index (inl l) = c (off y (λ e. absurd (omega (arith, ints, l, e))))
        index (inr (inl e)) = irr y (λ z. c (on y e ∙ z)) j
        index (inr (inr l)) = c (off y (λ e. absurd (omega (arith, ints, l, e))))

    zero : SamePolynomial q []
    zero = parts_decide n fs bs ps w q v basis k match (member-difference n (polys ps) h s.poly m s.member) irreducible

    at : (whole_weight w x <ℤ d) ⊎ ((whole_weight w x ≡ d) ⊎ (d <ℤ whole_weight w x)) → whole_weight w x <ℤ d
    at (inl l) = l
    at (inr (inl e)) = absurd (n' (sym (on x e) ∙ zero x))
    at (inr (inr l)) = absurd (omega (arith, ints, (t.within x n').0, l))
