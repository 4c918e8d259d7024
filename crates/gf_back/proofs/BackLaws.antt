-- The way back across a facet.
-- To cite: flips_lead_back. The rest are steps.
use Rattle.std.proofs.Common.{◌≡◌, ℕ, List, ℤ, Result, Ok, Err, IfOk, subst}
use Rattle.gf_poly.specs.Marking.{MarkedPolynomial, MarkedPolynomials}
use Rattle.gf_facets_theory.specs.Rows.{negated}
use Rattle.gf_facets_theory.specs.Facets.{IsFlippable}
use Rattle.gf_facets_theory.specs.Neighbours.{AreAdjacent}
use Rattle.gf_initial_theory.proofs.LawsHold.{neighbours_are_unique}
use Rattle.gf_lifts.specs.Crossings.{IsCrossing, IsNeighbour}
use Rattle.gf_back.specs.Back.{IsCrossed, FlipsLeadBack}

flipped : (n : ℕ) (bs : List MarkedPolynomial) (a : List ℤ) (cs : List MarkedPolynomial) → IsCrossing n bs a → IsNeighbour n bs a cs → IsCrossed n bs a cs
flipped n bs a cs c r = record {
  generators = c.generators;
  region = c.region;
  variables = c.variables;
  adjacent = r.at c.generators c.region c.variables c.basis c.flippable;
}

-- a vector inside the facet is inside it from the other side too
opposite_flippable : (n : ℕ) (bs : List MarkedPolynomial) (a : List ℤ) (cs : List MarkedPolynomial) (c : IsCrossed n bs a cs) →
    IsFlippable n c.region cs (negated a)
opposite_flippable n bs a cs c = record { point = c.adjacent.point; region = c.adjacent.region; inside = c.adjacent.back }

pub crosses_back : (n : ℕ) (bs : List MarkedPolynomial) (a : List ℤ) (cs : List MarkedPolynomial) → IsCrossed n bs a cs → IsCrossing n cs (negated a)
crosses_back n bs a cs c = record {
  generators = c.generators;
  region = c.region;
  variables = c.variables;
  basis = c.adjacent.there;
  flippable = opposite_flippable n bs a cs c;
}

comes_back : (n : ℕ) (bs : List MarkedPolynomial) (a : List ℤ) (cs ds : List MarkedPolynomial) → IsCrossed n bs a cs → IsNeighbour n cs (negated a) ds → ds ≡ bs
comes_back n bs a cs ds c r =
    let again : AreAdjacent n c.generators c.region cs (negated a) ds =
    r.at c.generators c.region c.variables c.adjacent.there (opposite_flippable n bs a cs c) in
    neighbours_are_unique.back n c.generators c.region c.region bs a cs ds c.variables c.adjacent again

-- ---- the flip back

-- what a flip along the opposite normal answers
pub if_back : {E : Type 0} (n : ℕ) (a b : List ℤ) (cs : List MarkedPolynomial) (r : Result MarkedPolynomials E) → b ≡ negated a →
    IfOk r (λ t. IsNeighbour n cs b t.items) → IfOk r (λ t. (bs : List MarkedPolynomial) → IsCrossed n bs a cs → t.items ≡ bs)
if_back n a b cs (Ok t) e h = λ bs c. comes_back n bs a cs t.items c (subst (λ (z : List ℤ). IsNeighbour n cs z t.items) e h)
if_back n a b cs (Err x) e h = tt

-- ---- the theorem

pub flips_lead_back : FlipsLeadBack
flips_lead_back = record {
  flipped = flipped;
  crossing = crosses_back;
  back = comes_back;
  adjacent = neighbours_are_unique.back;
}
