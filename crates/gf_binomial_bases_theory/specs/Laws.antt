-- The theorems on Gröbner bases of ideals that differences of two monomials generate, which functions of this crate name.
use Rattle.std.specs.Prelude.{◌≡◌, ℕ, true, List, Contains, ℤ}
use Rattle.gf_exponents_theory.specs.Exponents.{Exponents, same}
use Rattle.gf_poly.specs.Polynomial.{Terms}
use Rattle.gf_poly.specs.Marking.{MarkedPolynomial}
use Rattle.gf_ideal_theory.specs.Membership.{HasMonomial, AreInVariables}
use Rattle.gf_ideal_theory.specs.Reduction.{HasOneMonomial}
use Rattle.gf_facets_theory.specs.Facets.{IsInClosedCone}
use Rattle.gf_facets_theory.specs.MarkedBases.{IsMarkedReduced}
use Rattle.gf_initial_theory.specs.Parts.{AreInitialParts}
use Rattle.gf_binomials_theory.specs.Binomials.{AreBinomials, AreMarkedBinomials}

-- each member of a marked reduced basis of such an ideal is its mark, less another monomial or nothing
abbrev pub BasesAreOfBinomials : Type 0
BasesAreOfBinomials = (n : ℕ) (fs : List Terms) (bs : List MarkedPolynomial) → AreInVariables n fs → AreBinomials fs →
    IsMarkedReduced n fs bs → AreMarkedBinomials (Contains bs)

-- so is each initial form of a member at a vector of the closed cone
abbrev pub InitialFormsAreOfBinomials : Type 0
InitialFormsAreOfBinomials = (n : ℕ) (fs : List Terms) (w : List ℤ) (bs ps : List MarkedPolynomial) → AreInVariables n fs → AreBinomials fs →
    IsMarkedReduced n fs bs → IsInClosedCone w bs → AreInitialParts w bs ps → AreMarkedBinomials (Contains ps)

-- each of fs has one monomial at most
abbrev pub HaveOneMonomial : List Terms → Type 0
HaveOneMonomial fs = (f : Terms) → Contains fs f → (x y : Exponents) → HasMonomial f x → HasMonomial f y → same x y ≡ true

-- then so has each member of a marked reduced basis of their ideal
abbrev pub MonomialIdealsHaveMonomialBases : Type 0
MonomialIdealsHaveMonomialBases = (n : ℕ) (fs : List Terms) (bs : List MarkedPolynomial) → AreInVariables n fs → HaveOneMonomial fs →
    IsMarkedReduced n fs bs → (b : MarkedPolynomial) → Contains bs b → HasOneMonomial b
