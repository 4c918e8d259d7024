-- The marked reduced Gröbner bases of an ideal, as a program keeps them: each is one list.
-- Source: Fukuda, Jensen, Thomas, Computing Gröbner fans, 2.
use Rattle.std.specs.Prelude.{ℕ, List, Contains, ℤ}
use Rattle.gf_exponents_theory.specs.Orders.{lighter, gains}
use Rattle.gf_poly.specs.Polynomial.{Terms}
use Rattle.gf_poly.specs.Marking.{MarkedPolynomial}
use Rattle.gf_ideal_theory.specs.Marks.{AreMarked}
use Rattle.gf_ideal_theory.specs.Bases.{IsBasis, HasReducedTails, AreApart, IsCanonical, AreArranged}
use Rattle.gf_facets_theory.specs.Regions.{Region, IsInRegion}

-- each member is in n variables, with terms that descend in deglex and count
abbrev pub AreCanonical : ℕ → List MarkedPolynomial → Type 0
AreCanonical n bs = (b : MarkedPolynomial) → Contains bs b → IsCanonical n b

-- a reduced Gröbner basis for some positive weight, which isn't named, with the marks of that weight, in any order
pub record IsMarkedReduced (n : ℕ) (fs : List Terms) (bs : List MarkedPolynomial) : Type 0 where
  pub basis : IsBasis n fs bs
  pub tails : HasReducedTails bs
  pub heads : AreApart bs

-- a marked reduced Gröbner basis in the form that a program keeps
pub record IsMarkedReducedBasis (n : ℕ) (fs : List Terms) (bs : List MarkedPolynomial) : Type 0 where
  pub reduced : IsMarkedReduced n fs bs
  pub arranged : AreArranged n bs

-- a marked reduced Gröbner basis in the form that a program keeps, whose marks a vector in the region gives
pub record IsBasisInRegion (n : ℕ) (fs : List Terms) (k : Region) (bs : List MarkedPolynomial) : Type 0 where
  pub reduced : IsMarkedReduced n fs bs
  pub arranged : AreArranged n bs
  pub weight : List ℤ
  pub inside : IsInRegion n k weight
  pub marked : AreMarked (lighter (gains weight)) bs
