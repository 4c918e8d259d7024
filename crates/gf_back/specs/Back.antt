-- The way back across a facet. Laws: proofs/BackLaws.antt. Source: Fukuda, Jensen, Thomas, Computing Gröbner fans, 4.
use Rattle.std.specs.Prelude.{◌≡◌, ℕ, List, ℤ}
use Rattle.gf_poly.specs.Polynomial.{Terms}
use Rattle.gf_poly.specs.Marking.{MarkedPolynomial}
use Rattle.gf_ideal_theory.specs.Membership.{AreInVariables}
use Rattle.gf_facets_theory.specs.Rows.{negated}
use Rattle.gf_facets_theory.specs.Regions.{Region}
use Rattle.gf_facets_theory.specs.Neighbours.{AreAdjacent}
use Rattle.gf_lifts.specs.Crossings.{IsCrossing, IsNeighbour}

-- for some ideal in n variables and some region, bs and cs are the bases on both sides of the facet of bs with normal a
pub record IsCrossed (n : ℕ) (bs : List MarkedPolynomial) (a : List ℤ) (cs : List MarkedPolynomial) : Type 0 where
  pub generators : List Terms
  pub region : Region
  pub variables : AreInVariables n generators
  pub adjacent : AreAdjacent n generators region bs a cs

-- the basis that a flip returns is on the other side of the facet. From there a flip may cross back, and it returns the basis at which the
-- first flip started. For one ideal, if cs is across the facet of bs with normal a, each basis across the facet of cs with the opposite
-- normal is bs
pub record FlipsLeadBack : Type 0 where
  pub flipped : (n : ℕ) (bs : List MarkedPolynomial) (a : List ℤ) (cs : List MarkedPolynomial) → IsCrossing n bs a → IsNeighbour n bs a cs → IsCrossed n bs a cs
  pub crossing : (n : ℕ) (bs : List MarkedPolynomial) (a : List ℤ) (cs : List MarkedPolynomial) → IsCrossed n bs a cs → IsCrossing n cs (negated a)
  pub back : (n : ℕ) (bs : List MarkedPolynomial) (a : List ℤ) (cs ds : List MarkedPolynomial) → IsCrossed n bs a cs → IsNeighbour n cs (negated a) ds → ds ≡ bs
  pub adjacent : (n : ℕ) (fs : List Terms) (j k : Region) (bs : List MarkedPolynomial) (a : List ℤ) (cs ds : List MarkedPolynomial) → AreInVariables n fs →
      AreAdjacent n fs j bs a cs → AreAdjacent n fs k cs (negated a) ds → ds ≡ bs
