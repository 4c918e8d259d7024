-- What the list of an answer has for each weight of its region. Laws: proofs/ServedLaws.antt.
-- Source: Fukuda, Jensen, Thomas, Computing Gröbner fans, 2.
use Rattle.std.specs.Prelude.{◌≡◌, ◌↔◌, ℕ, List, ◌++◌, length, ℤ}
use Rattle.gf_exponents_theory.specs.Orders.{gains}
use Rattle.gf_poly.specs.Polynomial.{Terms}
use Rattle.gf_poly.specs.Marking.{MarkedPolynomials}
use Rattle.gf_ideal_theory.specs.Bases.{IsReducedBasis}
use Rattle.gf_reverse_search.specs.Listing.{Among}
use Rattle.gf_facets_theory.specs.Regions.{Region, IsInRegion}
use Rattle.gf_facets_theory.specs.Facets.{IsInClosedCone}
use Rattle.gf_facets_theory.specs.InitialIdeals.{IsMonomialAt}
use Rattle.gf_lists_theory.specs.BasesList.{IsGivenIn}
use Rattle.gfan_theory.specs.Answers.{Request, IsBasesAnswer, IsListAnswer}

-- a basis is in the list if and only if some weight of the region gives it; for each weight of the region for which monomials generate the initial ideal,
-- the reduced basis is in the list, and no other basis of the list is one for it; each weight of the region lies in the closed cone of a basis of the list
pub record ServesRegion (n : ℕ) (k : Region) (fs : List Terms) (list : List MarkedPolynomials) : Type 0 where
  pub exactly : (x : MarkedPolynomials) → Among list x ↔ IsGivenIn n k fs x
  pub monomial : (w : List ℤ) → IsInRegion n k w → IsMonomialAt n fs w →
      (x : MarkedPolynomials) × Among list x × IsReducedBasis n fs (gains w) x.items
      × ((y : MarkedPolynomials) → Among list y → IsReducedBasis n fs (gains w) y.items → x ≡ y)
  pub cones : (w : List ℤ) → IsInRegion n k w → (x : MarkedPolynomials) × Among list x × IsInClosedCone w x.items

-- so it is with the bases of an answer, together with those up to the one that it continues after
pub record HasServingList (q : Request) (input text : List ℕ) : Type 0 where
  pub answer : IsListAnswer q input text
  pub serves : ServesRegion (length answer.ring) answer.region answer.ideal (answer.early ++ answer.list.list)

-- each answer has such a list
abbrev pub AnswersServe : Type 0
AnswersServe = (q : Request) (input text : List ℕ) → IsBasesAnswer q input text → HasServingList q input text
