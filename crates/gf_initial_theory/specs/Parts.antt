-- Parts of marked polynomials: their terms of greatest weight, and their terms along a vector.
-- Laws: proofs/PartLaws.antt. Source: Sturmfels, Gröbner Bases and Convex Polytopes, 1 and 2; Fukuda, Jensen, Thomas,
-- Computing Gröbner fans, 4.
use Rattle.std.specs.Prelude.{◌≡◌, List, [], ◌∷◌, ℤ}
use Rattle.gf_frac.specs.Fraction.{zero_ℚ}
use Rattle.gf_exponents_theory.specs.Exponents.{Exponents}
use Rattle.gf_poly.specs.Polynomial.{coefficient}
use Rattle.gf_poly.specs.Marking.{MarkedPolynomial}
use Rattle.gf_poly.specs.InitialForms.{IsInitialForm}
use Rattle.gf_ideal_theory.specs.OrderTable.{AreMultipleApart}

-- the relation holds index by index of two lists of one length
abbrev pub Matching : {A B : Type 0} → (A → B → Type 0) → List A → List B → Type 0
Matching R [] [] = Unit {0}
Matching R [] (y ∷ ys) = ⊥
Matching R (x ∷ xs) [] = ⊥
Matching R (x ∷ xs) (y ∷ ys) = R x y × Matching R xs ys

-- ---- by a weight

-- p is the initial form of b by w, with the same mark
pub record IsInitialPart (w : List ℤ) (b p : MarkedPolynomial) : Type 0 where
  pub head : p.head ≡ b.head
  pub form : IsInitialForm w b.poly p.poly

-- index by index
abbrev pub AreInitialParts : List ℤ → List MarkedPolynomial → List MarkedPolynomial → Type 0
AreInitialParts w bs ps = Matching (IsInitialPart w) bs ps

-- ---- along a vector

-- p has the terms of b whose exponents are whole multiples of a apart from the mark, and the same mark
pub record IsPartAlong (a : List ℤ) (b p : MarkedPolynomial) : Type 0 where
  pub head : p.head ≡ b.head
  pub along : (x : Exponents) → AreMultipleApart a x b.head → coefficient p.poly x ≡ coefficient b.poly x
  pub off : (x : Exponents) → (AreMultipleApart a x b.head → ⊥) → coefficient p.poly x ≡ zero_ℚ

-- index by index
abbrev pub ArePartsAlong : List ℤ → List MarkedPolynomial → List MarkedPolynomial → Type 0
ArePartsAlong a bs ps = Matching (IsPartAlong a) bs ps
