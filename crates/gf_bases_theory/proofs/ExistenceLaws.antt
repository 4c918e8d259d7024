-- The reduced Gröbner basis exists for each order that suits the generators, and an arranged one is the only one.
-- To cite: homogeneous_in_ring, reduced_exists, weighted_exists, marked_unique.
use Rattle.std.proofs.Common.{◌≡◌, ℕ, List, [], refl, sym, ◌∙◌}
use Rattle.gf_exponents_theory.specs.Orders.{IsWeightedBelow}
use Rattle.gf_poly.specs.Polynomial.{Terms}
use Rattle.gf_poly.specs.Marking.{MarkedPolynomial}
use Rattle.gf_ideal_theory.specs.Membership.{AreInVariables}
use Rattle.gf_ideal_theory.specs.Marks.{AreMarked}
use Rattle.gf_ideal_theory.specs.MonomialOrders.{MonomialOrder, below_of, IsOfGrade, IsAdmissible}
use Rattle.gf_ideal_theory.specs.Bases.{IsBasis}
use Rattle.gf_ideal_theory.specs.LawsOfBases.{AreHomogeneous}
use Rattle.gf_ideal_theory.proofs.OrderWeights.{order-is, order-weights, grading}
use Rattle.gf_ideal_theory.proofs.InterreductionLaws.{reduced_by_order}
use Rattle.gf_ideal_theory.proofs.UniquenessLaws.{unique_by_order}
use Rattle.gf_ideal_theory.proofs.ArrangedLists.{arranged_equal}
use Rattle.gf_facets_theory.specs.MarkedBases.{IsMarkedReducedBasis}
use Rattle.gf_bases_theory.proofs.RunLaws.{basis_exists}
use Rattle.gf_bases_theory.proofs.ReducedFormLaws.{reduced_form}

-- ---- existence

-- by no weights all polynomials in n variables are homogeneous
pub homogeneous_in_ring : (n : ℕ) (fs : List Terms) → AreInVariables n fs → AreHomogeneous n [] fs
homogeneous_in_ring n fs v f c x y h k = (refl, λ i l. v f c x h i l ∙ sym (v f c y k i l))

-- for each order that suits the generators
pub reduced_exists : (o : MonomialOrder) (n : ℕ) (grade : List ℕ) (fs : List Terms) → IsAdmissible o n grade →
    AreInVariables n fs → AreHomogeneous n grade fs →
    (bs : List MarkedPolynomial) × IsMarkedReducedBasis n fs bs × AreMarked (below_of o) bs
reduced_exists o n grade fs a v h = at (basis_exists n fs (below_of o) (IsOfGrade n grade) v (order-is o) (grading n grade) (order-weights o n grade a) h)
  where
    at : ((bs : List MarkedPolynomial) × AreMarked (below_of o) bs × IsBasis n fs bs) →
        (bs : List MarkedPolynomial) × IsMarkedReducedBasis n fs bs × AreMarked (below_of o) bs
    at b = reduced_form n fs b.0 (below_of o) v (order-is o).strict b.2 b.1

-- for each weight before lex
pub weighted_exists : (n : ℕ) (fs : List Terms) (w : List ℕ) → AreInVariables n fs →
    (bs : List MarkedPolynomial) × IsMarkedReducedBasis n fs bs × AreMarked (IsWeightedBelow w) bs
weighted_exists n fs w v = reduced_exists (MonomialOrder.weighted w) n [] fs tt v (homogeneous_in_ring n fs v)

-- ---- uniqueness

-- marked by one order
pub marked_unique : (o : MonomialOrder) (n : ℕ) (fs : List Terms) (bs cs : List MarkedPolynomial) → AreInVariables n fs →
    IsMarkedReducedBasis n fs bs → IsMarkedReducedBasis n fs cs → AreMarked (below_of o) bs →
    AreMarked (below_of o) cs → bs ≡ cs
marked_unique o n fs bs cs v b c m k = arranged_equal n bs cs b.arranged c.arranged
    (unique_by_order n fs (below_of o) bs cs (order-is o)
    (reduced_by_order n fs bs (below_of o) v b.reduced.basis (order-is o).strict m b.reduced.tails b.reduced.heads)
    (reduced_by_order n fs cs (below_of o) v c.reduced.basis (order-is o).strict k c.reduced.tails c.reduced.heads))
