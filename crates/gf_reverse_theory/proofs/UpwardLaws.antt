-- The parent relation is that of a tree: one parent by one label, one child under each.
-- To cite: one_way, same_list, from_parent, parents_tree, parent_nodes.
use Rattle.std.proofs.Common.{◌≡◌, ℕ, List, ℤ, sym, ap, ap₂, ◌∙◌, subst, inl, inr}
use Rattle.gf_poly.specs.Marking.{MarkedPolynomial, MarkedPolynomials}
use Rattle.gf_reverse_search.specs.Path.{IsTree}
use Rattle.gf_facets_theory.specs.Rows.{negated}
use Rattle.gf_facets_theory.specs.Regions.{Region}
use Rattle.gf_facets_theory.specs.Neighbours.{AreAdjacent}
use Rattle.gf_facets_theory.proofs.VectorOrder.{before_strict}
use Rattle.gf_reverse_theory.specs.Upward.{IsWayUp, Fan, IsNodeIn, IsParentIn}
use Rattle.gf_initial_theory.proofs.FlipLaws.{adjacent_unique, adjacent_turned}

-- ---- one way up
pub one_way : (n : ℕ) (k : Region) (bs : List MarkedPolynomial) (a b : List ℤ) → IsWayUp n k bs a → IsWayUp n k bs b → a ≡ b
one_way n k bs a b p q = elim (p.least b q.leads) [
  | inl e ↦ e
  | inr h ↦ elim (q.least a p.leads) [
    | inl e ↦ sym e
    | inr l ↦ absurd (before_strict.irreflexive a (before_strict.transitive a b a h l))
  ]
]

-- ---- neighbours both ways
pub same_list : (v w : MarkedPolynomials) → v.variables ≡ w.variables → v.items ≡ w.items → v ≡ w
same_list v w e f = ap₂ (λ (n : ℕ) (bs : List MarkedPolynomial). record { variables = n; items = bs }) e f

-- seen from the parent: the child is across the label
pub from_parent : (F : Fan) (v : MarkedPolynomials) (c : List ℤ) (u : MarkedPolynomials) → IsParentIn F v c u →
    AreAdjacent F.variables F.ideal F.region u.items c v.items
from_parent F v c u p =
    subst (λ b. AreAdjacent F.variables F.ideal F.region u.items b v.items) (sym p.label)
    (adjacent_turned F.variables F.ideal F.region v.items p.normal u.items p.adjacent)

-- ---- the tree
pub parents_tree : (F : Fan) → IsTree (IsParentIn F)
parents_tree F = record { one_label = one_label; one_parent = one_parent; one_child = one_child }
  where
    one_label : (v u w : MarkedPolynomials) (b c : List ℤ) → IsParentIn F v b u → IsParentIn F v c w → b ≡ c
    one_label v u w b c p q = p.label ∙ ap negated (one_way F.variables F.region v.items p.normal q.normal p.way q.way) ∙ sym q.label

    one_parent : (v u w : MarkedPolynomials) (b c : List ℤ) → IsParentIn F v b u → IsParentIn F v c w → u ≡ w
    one_parent v u w b c p q =
        let e = one_way F.variables F.region v.items p.normal q.normal p.way q.way in
        same_list u w (p.parent ∙ sym q.parent)
        (adjacent_unique F.variables F.ideal F.region F.region v.items q.normal u.items w.items p.fan.ideal
        (subst (λ a. AreAdjacent F.variables F.ideal F.region v.items a u.items) e p.adjacent) q.adjacent)

    one_child : (v w u : MarkedPolynomials) (c : List ℤ) → IsParentIn F v c u → IsParentIn F w c u → v ≡ w
    one_child v w u c p q =
        same_list v w (p.child ∙ sym q.child) (adjacent_unique F.variables F.ideal F.region F.region u.items c v.items w.items p.fan.ideal
        (from_parent F v c u p) (from_parent F w c u q))

-- parents and children are nodes
pub parent_nodes : (F : Fan) (v : MarkedPolynomials) (c : List ℤ) (u : MarkedPolynomials) → IsParentIn F v c u → IsNodeIn F v × IsNodeIn F u
parent_nodes F v c u p = (
  record { fan = p.fan; variables = p.child; basis = p.adjacent.here },
  record { fan = p.fan; variables = p.parent; basis = p.adjacent.there },
)
