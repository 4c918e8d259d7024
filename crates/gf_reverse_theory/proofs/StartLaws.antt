-- A reduced Gröbner basis for an order is a node of the fan of its ideal, in the region of all positive vectors.
-- To cite: basis_is_node.
use Rattle.std.proofs.Common.{◌≡◌, ℕ, List, refl}
use Rattle.gf_exponents_theory.specs.Exponents.{Exponents}
use Rattle.gf_exponents_theory.specs.Orders.{IsMonomialOrder}
use Rattle.gf_poly.specs.Polynomial.{Terms}
use Rattle.gf_poly.specs.Marking.{MarkedPolynomials}
use Rattle.gf_ideal_theory.specs.Membership.{AreInVariables}
use Rattle.gf_ideal_theory.specs.Marks.{HasPositiveWeight}
use Rattle.gf_ideal_theory.specs.Bases.{IsBasis, IsReducedBasisFor, AreArranged}
use Rattle.gf_ideal_theory.proofs.BasisLaws.{basis_of_groebner_for}
use Rattle.gf_facets_theory.specs.Regions.{all_positive}
use Rattle.gf_facets_theory.proofs.SystemLaws.{all_positive-region}
use Rattle.gf_bases_theory.proofs.FiniteLaws.{basis_everywhere}
use Rattle.gf_reverse_theory.specs.Upward.{IsNodeIn, IsNode}
use Rattle.gf_reverse_theory.proofs.ListLaws.{own}

pub basis_is_node : (n : ℕ) (fs : List Terms) (below : Exponents → Exponents → Type 0) (s : MarkedPolynomials) → AreInVariables n fs →
    IsMonomialOrder below → HasPositiveWeight n s.items → s.variables ≡ n → IsReducedBasisFor n fs below s.items → AreArranged n s.items →
    IsNodeIn (record { variables = n; ideal = fs; region = all_positive n }) s × IsNode (all_positive n) s
basis_is_node n fs below s vars order w e r arranged = (node, own (all_positive n) (record { variables = n; ideal = fs; region = all_positive n }) s refl node)
  where
    basis : IsBasis n fs s.items
    basis = basis_of_groebner_for n fs s.items below order w r.basis

    node : IsNodeIn (record { variables = n; ideal = fs; region = all_positive n }) s
    node = record {
      fan = record { ideal = vars; region = all_positive-region n };
      variables = e;
      basis = basis_everywhere n fs s.items (record { reduced = record { basis = basis; tails = r.tails; heads = r.heads }; arranged = arranged });
    }
