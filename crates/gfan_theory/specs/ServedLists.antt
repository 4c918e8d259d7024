-- The bases in the list that `_bases` writes for a source, for each weight and each term order. Laws: proofs/ServedListLaws.antt.
-- Source: Fukuda, Jensen, Thomas, Computing Gröbner fans, 2.
use Rattle.std.specs.Prelude.{◌≡◌, ◌↔◌, ℕ, Bool, List, length, All, ℤ, pos, ◌<ℤ◌}
use Rattle.gf_exponents_theory.specs.Exponents.{Exponents}
use Rattle.gf_exponents_theory.specs.Orders.{gains, IsTermOrder}
use Rattle.gf_poly.specs.Polynomial.{Terms}
use Rattle.gf_poly.specs.Marking.{MarkedPolynomials}
use Rattle.gf_ideal_theory.specs.Bases.{IsReducedBasis, IsReducedBasisFor}
use Rattle.gf_reverse_search.specs.Listing.{Among}
use Rattle.gf_facets_theory.specs.Regions.{all_positive}
use Rattle.gf_facets_theory.specs.Facets.{IsInClosedCone}
use Rattle.gf_facets_theory.specs.InitialIdeals.{IsMonomialAt}
use Rattle.gf_reverse_theory.specs.TermOrders.{below_by}
use Rattle.gfan_lists.specs.declared.bases.ListOptions.{ListOptions}
use Rattle.gf_lists_theory.specs.BasesList.{IsGivenByWeight, AreAllBases}
use Rattle.gfan_lists.specs.Bases.{AreItemTextsIn, list_text}
use Rattle.gfan.specs.Commands.{list_job, IsAnswerTo}
use Rattle.gfan_theory.specs.ListSources.{HasPolynomials}

-- a basis is in the list if and only if some positive weight gives it. For each positive weight for which monomials generate the initial
-- ideal, and for each term order, exactly one basis of the list is the reduced basis. Each positive weight is in the closed cone of a basis
-- of the list
pub record ServesWeights (n : ℕ) (fs : List Terms) (list : List MarkedPolynomials) : Type 0 where
  pub exactly : (x : MarkedPolynomials) → Among list x ↔ IsGivenByWeight n fs x
  pub monomial : (w : List ℤ) → length w ≡ n → All (λ k. pos 0 <ℤ k) w → IsMonomialAt n fs w →
      (x : MarkedPolynomials) × Among list x × IsReducedBasis n fs (gains w) x.items
      × ((y : MarkedPolynomials) → Among list y → IsReducedBasis n fs (gains w) y.items → x ≡ y)
  pub orders : (less : Exponents → Exponents → Bool) → IsTermOrder n (below_by less) →
      (x : MarkedPolynomials) × Among list x × IsReducedBasisFor n fs (below_by less) x.items
      × ((y : MarkedPolynomials) → Among list y → IsReducedBasisFor n fs (below_by less) y.items → x ≡ y)
  pub cones : (w : List ℤ) → length w ≡ n → All (λ k. pos 0 <ℤ k) w → (x : MarkedPolynomials) × Among list x × IsInClosedCone w x.items

-- the text is that of the list of all bases of the ideal of the source, and the list has this property
pub record HasServingList (from_basis certificates : Bool) (source text : List ℕ) : Type 0 where
  pub ring : List (List ℕ)
  pub ideal : List Terms
  pub read : HasPolynomials from_basis source ring ideal
  pub list : List MarkedPolynomials
  pub are_all : AreAllBases (length ring) ideal list
  pub items : List (List ℕ)
  pub are_items : AreItemTextsIn certificates ring (all_positive (length ring)) list items
  pub is_text : text ≡ list_text ring items
  pub serves : ServesWeights (length ring) ideal list

-- each output of `_bases` for a source is such a text
abbrev pub WrittenListsServe : Type 0
WrittenListsServe = (from_basis : Bool) (o : ListOptions) (workers : ℕ) (source text : List ℕ) →
    IsAnswerTo (list_job from_basis o workers) source text → HasServingList from_basis o.certified source text
