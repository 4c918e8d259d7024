-- Vectors that passed at one basis of an ideal pass at each other one. To cite: free_none, known_everywhere, free_more, step_basis.
use Rattle.std.proofs.Common.{[], ℕ, List, ℤ, arith, refl, subst, inl, inr}
use Rattle.gf_exponents_theory.specs.Orders.{lighter}
use Rattle.gf_poly.specs.Polynomial.{Terms}
use Rattle.gf_poly.specs.Marking.{MarkedPolynomial, MarkedPolynomials, polys}
use Rattle.gf_ideal_theory.specs.Membership.{AreInVariables}
use Rattle.gf_ideal_theory.proofs.MarkWeights.{mark-there}
use Rattle.gf_duality_theory.specs.Faces.{Rows}
use Rattle.gf_facets_theory.specs.Facets.{IsInClosedCone}
use Rattle.gf_facets_theory.specs.MarkedBases.{IsMarkedReducedBasis}
use Rattle.gf_facets_theory.specs.Regions.{Region}
use Rattle.gf_initial_theory.specs.Parts.{IsInitialPart, AreInitialParts}
use Rattle.gf_initial_theory.proofs.MatchingLaws.{matched-map}
use Rattle.gf_initial_theory.proofs.PartLaws.{IsLevelPart, initial_of_level}
use Rattle.gf_initial_theory.proofs.SideLaws.{level_parts}
use Rattle.gf_reverse_theory.specs.Upward.{IsNode, IsNodeIn, fan_of}
use Rattle.gf_saturation_theory.specs.Saturations.{HasOneTermMember}
use Rattle.gf_tree.specs.Walks.{Walk, walk_at}
use Rattle.gf_tree.specs.Steps.{IsStepTo}
use Rattle.gf_tree.proofs.ListingLaws.{given_more}
use Rattle.gf_initial_monomials.specs.Passing.{HasPassedIn}
use Rattle.gf_duality_theory.specs.Faces.{cone_of}
use Rattle.gf_tropical_basis_test.specs.Tests.{IsMonomialFree}
use Rattle.gf_tropical_basis_test.specs.Passing.{AreKnownAt, ArePassedAt, AreMonomialFree}
use Rattle.gf_tropical_basis_test.proofs.TestLaws.{monomials_decide}
use Rattle.gf_tropical_basis_test.proofs.FaceTestLaws.{closed_by}
use Rattle.gf_tropical_basis_test.proofs.WalkLaws.{PassedSoFar}

-- ---- from one basis to another

pub free_none : (n : ℕ) (fs : List Terms) → AreMonomialFree n fs []
free_none n fs v c = absurd (omega (arith, c.1))

-- where the initial ideal has no polynomial with a single term, that of the initial forms of each basis has none
pub known_everywhere : (n : ℕ) (fs : List Terms) (bs : List MarkedPolynomial) (vs : List (List ℤ)) → AreInVariables n fs → IsMarkedReducedBasis n fs bs →
    AreMonomialFree n fs vs → AreKnownAt n bs vs
known_everywhere n fs bs vs vars b free normals a v k long i =
    let inside : IsInClosedCone v bs = (closed_by n bs normals b.arranged.canonical a v long).0 i in
    let p = level_parts v bs in
    let parts : AreInitialParts v bs p.0 = matched-map (IsLevelPart v) (IsInitialPart v) bs p.0
    (λ d q c l. initial_of_level v d q (inside d c) (mark-there (lighter b.reduced.basis.marked.0) d (b.reduced.basis.marked.2 d c)) l) p.1 in
    record {
      forms = polys p.0;
      are_forms = record { parts = p.0; are_parts = parts; polys_are = refl };
      none = (monomials_decide.by_forms n fs v bs p.0 vars b.reduced inside parts).0 (free v k).1;
    }

-- where the ideal of the initial forms of one basis has none, the initial ideal has none
pub free_more : (n : ℕ) (fs : List Terms) (bs : List MarkedPolynomial) (old new : List (List ℤ)) → AreInVariables n fs → IsMarkedReducedBasis n fs bs →
    ArePassedAt n bs old new → AreMonomialFree n fs old → AreMonomialFree n fs new
free_more n fs bs old new vars b p free v k = elim (p.2 v k) [ inl o ↦ free v o | inr h ↦ (h.long, at h) ]
  where
    at : HasPassedIn n bs (cone_of p.0) v → IsMonomialFree n fs v
    at h =
        let inside : IsInClosedCone v bs = (closed_by n bs p.0 b.arranged.canonical p.1 v h.long).0 h.inside in
        (monomials_decide.by_forms n fs v bs h.none.are_forms.parts vars b.reduced inside h.none.are_forms.are_parts).1
        (λ s. h.none.none (subst (HasOneTermMember n) h.none.are_forms.polys_are s))

-- ---- the bases that a walker gives

step_node : (k : Region) (root : MarkedPolynomials) (pairs n : ℕ) (cones : List Rows) (old new : Walk) (b : MarkedPolynomials) → IsNode k root →
    PassedSoFar n cones (walk_at root k pairs) old → IsStepTo old new b → IsNodeIn (fan_of k root) b
step_node k root pairs n cones old new b own p s =
    let g = given_more (walk_at root k pairs) old new p.done b own p.given s in
    subst (IsNodeIn (fan_of k root)) s.here g.basis

-- each is a basis of the ideal of the root
pub step_basis : (k : Region) (root : MarkedPolynomials) (pairs n : ℕ) (cones : List Rows) (old new : Walk) (b : MarkedPolynomials) → IsNode k root →
    PassedSoFar n cones (walk_at root k pairs) old → IsStepTo old new b → IsMarkedReducedBasis root.variables (polys root.items) b.items
step_basis k root pairs n cones old new b own p s =
    let node : IsNodeIn (fan_of k root) b = step_node k root pairs n cones old new b own p s in
    record { reduced = node.basis.reduced; arranged = node.basis.arranged }
