-- Steps between bases: across a facet and back; why a call at a basis is refused.
-- To cite: step_across, step_node, step_state, before_state, was_crossed, back_flippable, step_back, came_back, flip_here,
-- back_here, beside. The rest are steps.
use Rattle.std.proofs.Common.{◌≡◌, ℕ, List, ℤ, Some, sym, ap₂, ◌∙◌, subst}
use Rattle.gf_poly.specs.Marking.{MarkedPolynomial, MarkedPolynomials, polys}
use Rattle.gf_buchberger.specs.declared.bases.BasisError.{BasisError}
use Rattle.gf_facets_theory.specs.Rows.{negated}
use Rattle.gf_facets_theory.specs.Regions.{Region, IsInRegion, all_positive}
use Rattle.gf_facets_theory.specs.Facets.{IsFlippable, IsInsideFacet}
use Rattle.gf_facets_theory.proofs.VectorLaws.{negated-twice}
use Rattle.gf_lifts.specs.Crossings.{IsNeighbour}
use Rattle.gf_flip.specs.Operations.{IsFlipRefusal}
use Rattle.gf_back.specs.Back.{IsCrossed}
use Rattle.gf_reverse_theory.specs.Upward.{IsNode, IsNodeIn, fan_of}
use Rattle.gf_reverse_theory.specs.Answers.{IsAcross}
use Rattle.gf_reverse_theory.proofs.TreeLaws.{own_fan, node_moved}
use Rattle.gf_flip.specs.declared.error.TreeError.{TreeError}
use Rattle.gf_flip.specs.TreeErrors.{of_flip_error}
use Rattle.gf_tree.specs.Refusals.{IsRefusedAtBasis, IsCallRefusal}
use Rattle.gf_tree.proofs.LabelLaws.{across_node, across_in}
use Rattle.gf_tree.proofs.RefusalLaws.{flip_at}
use Rattle.gf_basis_states.specs.BasisRules.{IsBasisState, IsCrossingStep, IsStateRefusal}

-- ---- across

pub step_across : (p q : MarkedPolynomials) (a : List ℤ) → IsNode (all_positive p.variables) p → IsFlippable p.variables (all_positive p.variables) p.items a →
    IsNeighbour p.variables p.items a q.items → q.variables ≡ p.variables → IsCrossingStep p a q
step_across p q a h f r e = record { node = h; across = (e, r.at (polys p.items) (all_positive p.variables) h.fan.ideal h.basis f) }

pub step_node : (p q : MarkedPolynomials) (a : List ℤ) → IsCrossingStep p a q → IsNode (all_positive q.variables) q
step_node p q a s = subst (λ n. IsNode (all_positive n) q) (sym s.across.0) (across_node (all_positive p.variables) p q a s.node s.across)

pub step_state : (n : ℕ) (p q : MarkedPolynomials) (a : List ℤ) → IsBasisState n p → IsCrossingStep p a q → IsBasisState n q
step_state n p q a h s = record { node = step_node p q a s; ring = s.across.0 ∙ h.ring }

-- ---- back

-- where the step came from
pub before_state : (n : ℕ) (p q : MarkedPolynomials) (a : List ℤ) → IsBasisState n q → IsCrossingStep p a q → IsBasisState n p
before_state n p q a h s = record { node = s.node; ring = sym s.across.0 ∙ h.ring }

pub was_crossed : (p q : MarkedPolynomials) (a : List ℤ) → IsCrossingStep p a q → IsCrossed q.variables p.items a q.items
was_crossed p q a s = subst (λ n. IsCrossed n p.items a q.items) (sym s.across.0)
    (record { generators = polys p.items; region = all_positive p.variables; variables = s.node.fan.ideal; adjacent = s.across.1 })

pub back_flippable : (p q : MarkedPolynomials) (a : List ℤ) → IsCrossingStep p a q → IsFlippable q.variables (all_positive q.variables) q.items (negated a)
back_flippable p q a s = subst (λ n. IsFlippable n (all_positive n) q.items (negated a)) (sym s.across.0)
    (record { point = s.across.1.point; region = s.across.1.region; inside = s.across.1.back })

back_across : (k : Region) (p q : MarkedPolynomials) (a : List ℤ) → IsNode k p → IsAcross k p a (Some q) → IsAcross k q (negated a) (Some p)
back_across k p q a h s =
    let own : IsNode k q = across_node k p q a h s in
    let there : IsNodeIn (fan_of k q) p = node_moved (fan_of k p) (fan_of k q) p (own_fan (fan_of k p) q (across_in k p q a h s)) h in (
      sym s.0,
      record {
        here = own.basis;
        there = there.basis;
        point = s.1.point;
        region = subst (λ n. IsInRegion n k s.1.point) (sym s.0) s.1.region;
        facet = s.1.back;
        back = subst (λ (z : List ℤ). IsInsideFacet p.items z s.1.point) (sym (negated-twice a)) s.1.facet;
      },
    )

-- the step that leads back
pub step_back : (p q : MarkedPolynomials) (a : List ℤ) → IsCrossingStep p a q → IsCrossingStep q (negated a) p
step_back p q a s = record {
  node = step_node p q a s;
  across = subst (λ n. IsAcross (all_positive n) q (negated a) (Some p)) (sym s.across.0) (back_across (all_positive p.variables) p q a s.node s.across);
}

-- what a flip back answers is the basis that one came from
pub came_back : (p q t : MarkedPolynomials) (a : List ℤ) → IsCrossingStep p a q → ((bs : List MarkedPolynomial) → IsCrossed q.variables bs a q.items →
    t.items ≡ bs) → t.variables ≡ q.variables → t ≡ p
came_back p q t a s v e = ap₂ (λ (n : ℕ) (bs : List MarkedPolynomial). record { variables = n; items = bs }) (e ∙ s.across.0) (v p.items (was_crossed p q a s))

-- ---- refusals

-- of the flip there
pub flip_here : (pairs : ℕ) (p : MarkedPolynomials) (a : List ℤ) (r : BasisError) (e : TreeError) →
    IsFlippable p.variables (all_positive p.variables) p.items a → IsFlipRefusal p.variables p.items a pairs r → e ≡ of_flip_error r → IsStateRefusal pairs p e
flip_here pairs p a r e f c q = IsCallRefusal.here (flip_at (all_positive p.variables) pairs p a r e f c q)

-- of the flip back
pub back_here : (pairs : ℕ) (p q : MarkedPolynomials) (a : List ℤ) (r : BasisError) (e : TreeError) → IsCrossingStep p a q →
    IsFlipRefusal q.variables q.items (negated a) pairs r → e ≡ of_flip_error r → IsStateRefusal pairs q e
back_here pairs p q a r e s c = flip_here pairs q (negated a) r e (back_flippable p q a s) c

-- of the system of a normal on the other side
pub beside : (pairs : ℕ) (p q : MarkedPolynomials) (a : List ℤ) (e : TreeError) → IsCrossingStep p a q → IsRefusedAtBasis (all_positive q.variables) pairs q e →
    IsStateRefusal pairs p e
beside pairs p q a e s r = IsCallRefusal.beside q a s.across (subst (λ n. IsRefusedAtBasis (all_positive n) pairs q e) s.across.0 r)
