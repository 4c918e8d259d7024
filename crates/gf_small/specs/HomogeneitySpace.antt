-- The homogeneity space of polynomials: the vectors by which each of them is homogeneous.
-- Laws: proofs/HomogeneitySpaceLaws.antt. Source: Fukuda, Jensen, Thomas, Computing Gröbner fans, 2.
use Rattle.std.specs.Prelude.{◌≡◌, ◌↔◌, ℕ, List, [], ℤ, length, Contains}
use Rattle.gf_exponents_theory.specs.Exponents.{whole_weight}
use Rattle.gf_poly.specs.declared.Term.{Term}
use Rattle.gf_poly.specs.Polynomial.{Terms}
use Rattle.gf_poly.specs.Marking.{MarkedPolynomial}
use Rattle.gf_gordan.specs.Alternative.{AreRows}
use Rattle.gf_gordan.specs.declared.error.GordanError.{GordanError}
use Rattle.gf_gordan.specs.Steps.{Failed}
use Rattle.gf_duality_theory.specs.Rays.{IsEchelon, Generated}
use Rattle.gf_rays.specs.Reached.{IsRaysStep}
use Rattle.gf_facets_theory.specs.Rows.{rows_of_polynomials}

-- all terms of f have the same weight by w
abbrev pub IsHomogeneousBy : List ℤ → Terms → Type 0
IsHomogeneousBy w f = (s t : Term) → Contains f s → Contains f t → whole_weight w s.mono ≡ whole_weight w t.mono

-- w is in the homogeneity space of these polynomials
abbrev pub IsInSpace : List ℤ → List MarkedPolynomial → Type 0
IsInSpace w bs = (b : MarkedPolynomial) → Contains bs b → IsHomogeneousBy w b.poly

-- the homogeneity space, in n variables, has this echelon basis
pub record IsBasisOfSpace (n : ℕ) (bs : List MarkedPolynomial) (basis : List (List ℤ)) : Type 0 where
  pub width : AreRows n basis
  pub echelon : IsEchelon basis
  pub spans : (w : List ℤ) → length w ≡ n → IsInSpace w bs ↔ Generated n [] basis w

-- why the homogeneity space isn't found: an operation leaves its range in finding the vectors that are orthogonal to each difference of the
-- marked exponent vector and another one of a polynomial; or memory runs out
abbrev pub IsSpaceCause : ℕ → List MarkedPolynomial → GordanError → Type 0
IsSpaceCause n bs = Failed (IsRaysStep n [] (rows_of_polynomials bs))

-- the homogeneity space has the dimension d
abbrev pub HasSpaceDimension : ℕ → List MarkedPolynomial → ℕ → Type 0
HasSpaceDimension n bs d = (basis : List (List ℤ)) × IsBasisOfSpace n bs basis × (length basis ≡ d)
