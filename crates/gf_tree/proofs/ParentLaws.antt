-- What is above a basis, and the root of the tree.
-- To cite: some_cone_told, top_exactly, told_root, roots_told, parent_across, top_here, root_for.
use Rattle.std.proofs.Common.{◌≡◌, ◌↔◌, List, ℤ, Option, Some, None, IfSome, Result, Ok, Err, IfOk, refl, subst}
use Rattle.gf_cone.specs.Cones.{ConeRows, IsConeOf, HasRowsOf}
use Rattle.gf_poly.specs.Marking.{MarkedPolynomials, polys}
use Rattle.gf_reverse_search.specs.Path.{IsRoot}
use Rattle.gf_reverse_search.specs.Whole.{IsRootOf}
use Rattle.gf_facets_theory.specs.Rows.{negated}
use Rattle.gf_facets_theory.specs.Regions.{Region}
use Rattle.gf_reverse_theory.specs.Upward.{IsNode, IsNodeIn, IsParent, LeadsUp, IsWayUp, fan_of}
use Rattle.gf_reverse_theory.specs.Answers.{IsAcross, IsWayAnswer}
use Rattle.gf_reverse_theory.proofs.LawsHold.{root_has_no_way_up, bases_make_a_tree}
use Rattle.gf_reverse_theory.proofs.ListLaws.{root_above, root_own}
use Rattle.gf_tree.specs.declared.above.Parent.{Parent}
use Rattle.gf_flip.specs.declared.error.TreeError.{TreeError}
use Rattle.gf_tree.specs.declared.above.Parent.TheVariants.{Root, Up}
use Rattle.gf_tree.specs.Parents.{IsParentTold, IsRootBasis, IsRootFor, IsSomeCone}

-- a cone of a basis in some region, which has the rows of another one, is one in that
pub some_cone_told : (k : Region) (v w : MarkedPolynomials) (o : Option ConeRows) (c : ConeRows) → v ≡ w → IfSome o (IsSomeCone v) → o ≡ Some c →
    HasRowsOf k c → IsConeOf w.variables k w.items c
some_cone_told k v w o c e h s t =
    let p = subst (λ (z : Option ConeRows). IfSome z (IsSomeCone v)) s h in
    subst (λ (z : MarkedPolynomials). IsConeOf z.variables k z.items c) e (t v.variables p.0 v.items p.1)

-- nothing leads up exactly from the basis by the root, then lex
pub top_exactly : (k : Region) (v : MarkedPolynomials) → IsNode k v → ((a : List ℤ) → LeadsUp v.variables k v.items a → ⊥) ↔ IsRootBasis k v
top_exactly k v h = root_has_no_way_up.exactly v.variables (polys v.items) k k.root v.items h.fan.ideal h.fan.region.widths
    (root_has_no_way_up.own v.variables k h.fan.region) h.basis

-- ---- what is above a basis

-- the answer tells whether it is the root
pub told_root : (k : Region) (v : MarkedPolynomials) (p : Parent) → IsNode k v → IsParentTold k v p → p ≡ Root ↔ IsRootBasis k v
told_root k v Root h none = (λ e. (top_exactly k v h).0 none, λ d. refl)
told_root k v (Up a u) h above = (λ e. absurd (let f : Up a u ≡ Root = e in cc), λ d. absurd ((top_exactly k v h).1 d a above.0.leads))

pub roots_told : (k : Region) (v : MarkedPolynomials) (r : Result Parent TreeError) → IsNode k v → IfOk r (IsParentTold k v) →
    IfOk r (λ p. p ≡ Root ↔ IsRootBasis k v)
roots_told k v (Ok p) h a = told_root k v p h a
roots_told k v (Err e) h a = a

-- the neighbour across the way up is the parent
pub parent_across : (k : Region) (v u : MarkedPolynomials) (a : List ℤ) → IsNode k v → IsWayUp v.variables k v.items a → IsAcross k v a (Some u) →
    IsParent k v (negated a) u
parent_across k v u a h w x = record { fan = h.fan; child = refl; parent = x.0; normal = a; way = w; adjacent = x.1; label = refl }

-- ---- the root

-- where nothing leads up there is no parent
pub top_here : (k : Region) (u : MarkedPolynomials) → IsWayAnswer k u None → IsRoot (IsParent k) u
top_here k u none c w p = none p.normal p.way.leads

pub root_for : (k : Region) (v u : MarkedPolynomials) → IsNode k v → IsRootOf (IsParent k) v u → IsRootFor k v u
root_for k v u h s =
    let basis : IsNodeIn (fan_of k v) u = root_above k v u s.path h s.leads in
    let own : IsNode k u = root_own k v u h basis in
    record { basis = basis; own = own; is_root = s.is_root; by_root = (bases_make_a_tree.root k u own).0 s.is_root }
