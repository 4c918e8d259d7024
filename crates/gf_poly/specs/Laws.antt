-- The laws of polynomials that functions of this crate name.
use Rattle.std.specs.Prelude.{◌≡◌, ℕ, ℤ, List}
use Rattle.gf_poly.specs.Polynomial.{Terms, SamePolynomial, IsDescending, HasVariables}
use Rattle.gf_poly.specs.InitialForms.{IsInitialForm}

-- two descending lists in n variables with the same coefficient at each monomial are the same list
abbrev pub DescendingListsAreUnique : Type 0
DescendingListsAreUnique = (n : ℕ) (f g : Terms) → HasVariables n f → HasVariables n g → IsDescending f → IsDescending g → SamePolynomial f g → f ≡ g

-- a polynomial has one initial form by each weight
abbrev pub InitialFormsAreUnique : Type 0
InitialFormsAreUnique = (w : List ℤ) (f g h : Terms) → IsInitialForm w f g → IsInitialForm w f h → SamePolynomial g h
