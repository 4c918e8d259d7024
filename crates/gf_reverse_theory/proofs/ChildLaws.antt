-- Children: which neighbours of a basis have it as their parent.
-- To cite: child_across, child_flippable, child_negative, child_only.
use Rattle.std.proofs.Common.{◌≡◌, List, ℤ, refl, sym, ap, ◌∙◌, subst}
use Rattle.gf_poly.specs.Marking.{MarkedPolynomials, polys}
use Rattle.gf_facets_theory.specs.Rows.{negated}
use Rattle.gf_facets_theory.specs.Regions.{Region}
use Rattle.gf_facets_theory.specs.LexPositive.{IsNegative}
use Rattle.gf_facets_theory.specs.Facets.{IsFlippable}
use Rattle.gf_facets_theory.specs.Neighbours.{AreAdjacent}
use Rattle.gf_reverse_theory.specs.Upward.{IsWayUp, fan_of, IsNode, IsParent}
use Rattle.gf_reverse_theory.proofs.UpwardLaws.{from_parent}
use Rattle.gf_reverse_theory.proofs.TreeLaws.{from_above, parent_moved, own_fan}
use Rattle.gf_initial_theory.proofs.FlipLaws.{adjacent_unique, adjacent_turned}
use Rattle.gf_facets_theory.proofs.VectorLaws.{negated-twice}

-- the neighbour across b whose way up leads back is the child under b
pub child_across : (k : Region) (u w : MarkedPolynomials) (b : List ℤ) → IsNode k u → w.variables ≡ u.variables →
    AreAdjacent u.variables (polys u.items) k u.items b w.items → IsWayUp u.variables k w.items (negated b) → IsParent k w b u
child_across k u w b h e a q = parent_moved (fan_of k u) (fan_of k w) w b u (own_fan (fan_of k u) w (record { fan = h.fan; variables = e; basis = a.there }))
    (record {
      fan = h.fan;
      child = e;
      parent = refl;
      normal = negated b;
      way = q;
      adjacent = adjacent_turned u.variables (polys u.items) k u.items b w.items a;
      label = sym (negated-twice b);
    })

-- a child is across a flippable facet
pub child_flippable : (k : Region) (u v : MarkedPolynomials) (b : List ℤ) → IsParent k v b u → IsFlippable u.variables k u.items b
child_flippable k u v b p =
    let a = from_parent (fan_of k u) v b u (from_above k v b u p) in
    record { point = a.point; region = a.region; inside = a.facet }

-- the way up from a child is the negative of its label
way_of_child : (k : Region) (u v : MarkedPolynomials) (b : List ℤ) (p : IsParent k v b u) → p.normal ≡ negated b
way_of_child k u v b p = sym (negated-twice p.normal) ∙ ap negated (sym p.label)

-- which is negative at the root
pub child_negative : (k : Region) (u v : MarkedPolynomials) (b : List ℤ) → IsParent k v b u → IsNegative k.root (negated b)
child_negative k u v b p = subst (IsNegative k.root) (way_of_child k u v b p) p.way.leads.negative

-- only the neighbour across b may be the child under b, and only where its way up leads back
pub child_only : (k : Region) (u w v : MarkedPolynomials) (b : List ℤ) → AreAdjacent u.variables (polys u.items) k u.items b w.items → IsParent k v b u →
    (v.items ≡ w.items) × IsWayUp u.variables k w.items (negated b)
child_only k u w v b a p =
    let q = from_above k v b u p in
    let e : v.items ≡ w.items = adjacent_unique u.variables (polys u.items) k k u.items b v.items w.items q.fan.ideal (from_parent (fan_of k u) v b u q) a in
    let n : q.normal ≡ negated b = sym (negated-twice q.normal) ∙ ap negated (sym q.label) in
    (e, subst (λ bs. IsWayUp u.variables k bs (negated b)) e (subst (λ c. IsWayUp u.variables k v.items c) n q.way))
