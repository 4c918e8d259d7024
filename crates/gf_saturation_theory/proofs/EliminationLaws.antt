-- Elimination of the last variable by its weight before lex.
-- To cite: free_by_head, bound_by_head, left_over_variables, member_of_left_over, left_over_of_member, same_members.
use Rattle.std.proofs.Common.{◌≡◌, ◌⊎◌, ℕ, zero, suc, ◌<◌, ◌≤◌, true, List, [], ◌∷◌, Contains, arith, refl, sym, ap, ◌∙◌, inl, inr}
use Rattle.std.proofs.lemmas.Bool.{cases_lt}
use Rattle.gf_exponents_theory.specs.Exponents.{Exponents, entry, same, plus, weight, IsInRing}
use Rattle.gf_exponents_theory.specs.Orders.{IsDeglexBelow, IsWeightedBelow}
use Rattle.gf_exponents_theory.proofs.ExponentsLaws.{entries_same, entry-plus}
use Rattle.gf_exponents_theory.proofs.OrderLaws.{deglex-order, weighted-order}
use Rattle.gf_poly.specs.Polynomial.{Terms, coefficient, SamePolynomial}
use Rattle.gf_poly.specs.Marking.{MarkedPolynomial, polys, Each}
use Rattle.gf_ideal_theory.specs.Membership.{IsInVariables, AreInVariables, IsMember, Spans}
use Rattle.gf_ideal_theory.specs.Marks.{Piece, value, IsMarked}
use Rattle.gf_ideal_theory.specs.Bases.{IsBasis, IsReducedBasisFor}
use Rattle.gf_ideal_theory.proofs.ListLaws.{Each-weaker}
use Rattle.gf_ideal_theory.proofs.RingLaws.{ring-along, ring-left, ring-plus}
use Rattle.gf_ideal_theory.proofs.SpanLaws.{Spans-equal, Spans-generator, Spans-trans}
use Rattle.gf_ideal_theory.proofs.MembershipLaws.{variables-equal, variables_of_member, spans_of_member, member_of_spans}
use Rattle.gf_ideal_theory.proofs.PieceLaws.{Contains-polys, Contains-marked, spans_value}
use Rattle.gf_ideal_theory.proofs.MarkWeights.{mark-there}
use Rattle.gf_ideal_theory.proofs.StepLaws.{IsClosed, IsPieceIn}
use Rattle.gf_ideal_theory.proofs.BasisLaws.{member_pieces, basis_of_groebner_for}
use Rattle.gf_ideal_theory.proofs.LawsHold.{marks_have_weights}
use Rattle.gf_saturation_theory.specs.Saturations.{last_weight, AreLeftOver}
use Rattle.gf_saturation_theory.proofs.SaturationLaws.{one_more}

-- ---- the weight of the last variable

pub weight-last : (n : ℕ) (x : Exponents) → weight (last_weight n) x ≡ entry x n
weight-last zero [] = refl
weight-last zero (a ∷ x) = omega arith
weight-last (suc n) [] = refl
weight-last (suc n) (a ∷ x) = omega (arith, weight-last n x)

-- a monomial that is not above the mark has no more of the last variable
not_more : (n : ℕ) (b : MarkedPolynomial) (x : Exponents) → (same x b.head ≡ true) ⊎ IsWeightedBelow (last_weight n) x b.head → entry x n ≤ entry b.head n
not_more n b x (inl s) = omega (arith, entries_same x b.head s n)
not_more n b x (inr (inl l)) = omega (arith, weight-last n x, weight-last n b.head, l)
not_more n b x (inr (inr e)) = omega (arith, weight-last n x, weight-last n b.head, e.0)

-- without the last variable at the mark there is none of it
pub free_by_head : (n : ℕ) (b : MarkedPolynomial) → IsInVariables (suc n) b.poly → IsMarked (IsWeightedBelow (last_weight n)) b → entry b.head n ≡ 0 →
    IsInVariables n b.poly
free_by_head n b v m z x h i l = at (cases_lt n i)
  where
    at : (n < i) ⊎ (i ≤ n) → entry x i ≡ 0
    at (inl g) = v x h i (omega arith)
    at (inr g) =
        let e : i ≡ n = omega arith in
        ap (entry x) e ∙ omega (arith, not_more n b x (m.tail x h), z)

pub bound_by_head : (n : ℕ) (b : MarkedPolynomial) → IsMarked (IsWeightedBelow (last_weight n)) b → IsInVariables n b.poly → entry b.head n ≡ 0
bound_by_head n b m v = v b.head (mark-there (IsWeightedBelow (last_weight n)) b m) n (omega arith)

-- ---- bases for an order

weighted_basis : (n : ℕ) (w : List ℕ) (gs : List Terms) (bs : List MarkedPolynomial) → IsReducedBasisFor n gs (IsWeightedBelow w) bs → IsBasis n gs bs
weighted_basis n w gs bs r = basis_of_groebner_for n gs bs (IsWeightedBelow w) (weighted-order w) (marks_have_weights.by_weighted n w bs r.basis.marked) r.basis

pub deglex_basis : (n : ℕ) (gs : List Terms) (bs : List MarkedPolynomial) → IsReducedBasisFor n gs IsDeglexBelow bs → IsBasis n gs bs
deglex_basis n gs bs r = basis_of_groebner_for n gs bs IsDeglexBelow deglex-order (marks_have_weights.by_deglex n bs r.basis.marked) r.basis

-- its members are members of the ideal that it generates, and back
pub member_of_basis : (n : ℕ) (gs : List Terms) (bs : List MarkedPolynomial) (f : Terms) → AreInVariables n gs → IsBasis n gs bs → IsMember n (polys bs) f →
    IsMember n gs f
member_of_basis n gs bs f v b m = member_of_spans n gs f v (variables_of_member n (polys bs) f (λ g k. in_basis g k) m)
    (Spans-trans gs (polys bs) f (λ g k. spanned g k) (spans_of_member n (polys bs) f m))
  where
    in_basis : (g : Terms) → Contains (polys bs) g → IsInVariables n g
    in_basis g k = let c = Contains-marked bs g k in variables-equal n c.0.poly g (λ e. ap (λ z. coefficient z e) c.2)
        (variables_of_member n gs c.0.poly v (b.members c.0 c.1))

    spanned : (g : Terms) → Contains (polys bs) g → Spans gs g
    spanned g k = let c = Contains-marked bs g k in Spans-equal gs c.0.poly g (λ e. ap (λ z. coefficient z e) c.2)
        (spans_of_member n gs c.0.poly (b.members c.0 c.1))

pub basis_variables : (n : ℕ) (gs : List Terms) (bs : List MarkedPolynomial) → AreInVariables n gs → IsBasis n gs bs → AreInVariables n (polys bs)
basis_variables n gs bs v b g k = let c = Contains-marked bs g k in variables-equal n c.0.poly g (λ e. ap (λ z. coefficient z e) c.2)
    (variables_of_member n gs c.0.poly v (b.members c.0 c.1))

pub basis_of_member : (n : ℕ) (gs : List Terms) (bs : List MarkedPolynomial) (f : Terms) → AreInVariables n gs → IsBasis n gs bs → IsMember n gs f →
    IsMember n (polys bs) f
basis_of_member n gs bs f v b m = at (member_pieces n gs bs (λ x. Unit {0}) f v b (record { along = λ x y s h. tt; lower = λ c k u t q h. tt }) m (λ x h. tt))
  where
    at : ((ps : List Piece) × Each (IsPieceIn (Contains bs) (λ x. Unit {0})) ps × SamePolynomial f (value ps)) → IsMember n (polys bs) f
    at r = member_of_spans n (polys bs) f (basis_variables n gs bs v b) (variables_of_member n gs f v m)
        (Spans-equal (polys bs) (value r.0) f (λ e. sym (r.2 e))
        (spans_value (polys bs) (Contains bs) (λ c k. Spans-generator (polys bs) c.poly (Contains-polys bs c k)) r.0
        (Each-weaker (IsPieceIn (Contains bs) (λ x. Unit {0})) (λ (p : Piece). Contains bs p.of) (λ p k. k.member) r.0 r.1)))

-- ---- what is left over

pub left_over_variables : (n : ℕ) (bs : List MarkedPolynomial) (hs : List Terms) → AreLeftOver n bs hs → AreInVariables n hs
left_over_variables n bs hs l h k = let b = l.only h k in variables-equal n b.0.poly h b.3 b.2

-- it is in the ideal
pub member_of_left_over : (n : ℕ) (gs hs : List Terms) (bs : List MarkedPolynomial) (f : Terms) → AreInVariables (suc n) gs →
    IsReducedBasisFor (suc n) gs (IsWeightedBelow (last_weight n)) bs → AreLeftOver n bs hs → IsMember n hs f → IsInVariables n f × IsMember (suc n) gs f
member_of_left_over n gs hs bs f v r l m =
    let w = variables_of_member n hs f (left_over_variables n bs hs l) m in
    (w, member_of_spans (suc n) gs f v (one_more n f w) (Spans-trans gs hs f spanned (spans_of_member n hs f m)))
  where
    spanned : (h : Terms) → Contains hs h → Spans gs h
    spanned h k = let b = l.only h k in Spans-equal gs b.0.poly h b.3 (spans_of_member (suc n) gs b.0.poly (r.basis.members b.0 b.1))

-- and it generates what the ideal has in the first n variables
pub left_over_of_member : (n : ℕ) (gs hs : List Terms) (bs : List MarkedPolynomial) (f : Terms) → AreInVariables (suc n) gs →
    IsReducedBasisFor (suc n) gs (IsWeightedBelow (last_weight n)) bs → AreLeftOver n bs hs → IsInVariables n f → IsMember (suc n) gs f → IsMember n hs f
left_over_of_member n gs hs bs f v r l w m = at (member_pieces (suc n) gs bs (IsInRing n) f v b closed m w)
  where
    b : IsBasis (suc n) gs bs
    b = weighted_basis (suc n) (last_weight n) gs bs r

    free : (c : MarkedPolynomial) → Contains bs c → IsInRing n c.head → IsInVariables n c.poly
    free c k h = free_by_head n c (variables_of_member (suc n) gs c.poly v (r.basis.members c k)) (r.basis.marked c k) (h n (omega arith))

    closed : IsClosed (Contains bs) (IsInRing n)
    closed = record { along = ring-along n; lower = λ c k u t q h. ring-plus n u t (ring-left n u c.head h) (free c k (ring-right u c.head h) t q) }
      where
        ring-right : (u y : Exponents) → IsInRing n (plus u y) → IsInRing n y
        ring-right u y h i l = omega (arith, h i l, entry-plus u y i)

    Free : MarkedPolynomial → Type 0
    Free c = Contains bs c × IsInRing n c.head

    spanned : (c : MarkedPolynomial) → Free c → Spans hs c.poly
    spanned c k = let h = l.each c k.0 (free c k.0 k.1) in Spans-equal hs h.0 c.poly (λ e. sym (h.2 e)) (Spans-generator hs h.0 h.1)

    inside : (p : Piece) → IsPieceIn (Contains bs) (IsInRing n) p → Free p.of
    inside p k = (k.member, λ i q. omega (arith, k.inside i q, entry-plus p.shift p.of.head i))

    at : ((ps : List Piece) × Each (IsPieceIn (Contains bs) (IsInRing n)) ps × SamePolynomial f (value ps)) → IsMember n hs f
    at p = member_of_spans n hs f (left_over_variables n bs hs l) w
        (Spans-equal hs (value p.0) f (λ e. sym (p.2 e)) (spans_value hs Free spanned p.0 (Each-weaker (IsPieceIn (Contains bs) (IsInRing n))
        (λ (q : Piece). Free q.of) inside p.0 p.1)))
