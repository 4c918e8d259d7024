-- Reduced Gröbner bases for any term order, as bases that a positive weight gives. Laws: proofs/TermOrderLaws.antt.
-- Source: Sturmfels, Gröbner Bases and Convex Polytopes, 1.
use Rattle.std.specs.Prelude.{◌≡◌, ℕ, Bool, true, List}
use Rattle.gf_exponents_theory.specs.Exponents.{Exponents}
use Rattle.gf_exponents_theory.specs.Orders.{IsTermOrder}
use Rattle.gf_poly.specs.Polynomial.{Terms}
use Rattle.gf_poly.specs.Marking.{MarkedPolynomial}
use Rattle.gf_ideal_theory.specs.Membership.{AreInVariables}
use Rattle.gf_ideal_theory.specs.Bases.{IsReducedBasisFor}
use Rattle.gf_facets_theory.specs.MarkedBases.{IsMarkedReducedBasis}

-- x is below y where the test says so. Each comparison by which of two different monomials one is below the other is that of a test
abbrev pub below_by : (Exponents → Exponents → Bool) → Exponents → Exponents → Type 0
below_by less x y = less x y ≡ true

-- for each term order an ideal has a reduced basis that a positive weight gives, and no two
abbrev pub TermOrdersHaveBases : Type 0
TermOrdersHaveBases = (n : ℕ) (fs : List Terms) (less : Exponents → Exponents → Bool) → AreInVariables n fs → IsTermOrder n (below_by less) →
    (bs : List MarkedPolynomial) × IsMarkedReducedBasis n fs bs × IsReducedBasisFor n fs (below_by less) bs
    × ((cs : List MarkedPolynomial) → IsMarkedReducedBasis n fs cs → IsReducedBasisFor n fs (below_by less) cs → bs ≡ cs)
