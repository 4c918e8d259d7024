-- The theorems of specs/Laws.antt.
use Rattle.std.proofs.Common.{◌⊎◌, ◌↔◌, ℕ, List, Contains, All, ℤ, pos, ◌≤ℤ◌, subst, inl, inr}
use Rattle.gf_exponents_theory.specs.Exponents.{Exponents, IsInRing}
use Rattle.gf_exponents_theory.specs.Orders.{gains, IsWeightedBelow}
use Rattle.gf_poly.specs.Polynomial.{Terms}
use Rattle.gf_poly.specs.Marking.{MarkedPolynomial, MarkedPolynomials, polys}
use Rattle.gf_ideal_theory.specs.Membership.{AreInVariables}
use Rattle.gf_ideal_theory.specs.Reduction.{IsDivisible}
use Rattle.gf_ideal_theory.specs.Bases.{IsReducedBasisFor}
use Rattle.gf_reverse_search.specs.Path.{IsRoot}
use Rattle.gf_reverse_search.specs.Whole.{Parent, IsFinite}
use Rattle.gf_facets_theory.specs.LexPositive.{IsNegative, IsBefore}
use Rattle.gf_facets_theory.specs.Regions.{Region}
use Rattle.gf_facets_theory.specs.Neighbours.{AreAdjacent}
use Rattle.gf_facets_theory.proofs.NormalLaws.{normal-nonzero}
use Rattle.gf_facets_theory.proofs.SystemLaws.{open_of_marks}
use Rattle.gf_initial_theory.proofs.CrossingLaws.{parts_of_neighbours}
use Rattle.gf_reverse_theory.specs.Upward.{IsParentIn, fan_of, IsNode, IsParent}
use Rattle.gf_reverse_theory.specs.Laws.{NegativeNormalsCanBeCrossed, RootHasNoWayUp, CrossingsFall, NoCycles, BasesMakeATree, TheTreeIsFinite}
use Rattle.gf_reverse_theory.specs.Laws.{BasesHavePaths, IdealsHaveOneList, WhatIsLeft}
use Rattle.gf_reverse_theory.proofs.StepsLaws.{below_by_negative}
use Rattle.gf_reverse_theory.proofs.CrossingLaws.{Enters, IsPulledOut, something_enters, what_enters_pulls}
use Rattle.gf_reverse_theory.proofs.RootwardLaws.{root_weight, weight_everywhere, negative_gives_flippable}
use Rattle.gf_reverse_theory.proofs.RootLaws.{root_basis, root_is_top, one_root}
use Rattle.gf_reverse_theory.proofs.FanLaws.{crossing_falls, walks_fall, no_cycle, parents_climb, root_has_no_way, node_list-length}
use Rattle.gf_reverse_theory.proofs.TreeLaws.{upward_tree, upward_nodes, finite_in}
use Rattle.gf_reverse_theory.proofs.ChildLaws.{child_across, child_flippable, child_negative, child_only}
use Rattle.gf_reverse_theory.proofs.ListLaws.{path_exists, path_one, same_root, list_of_bases}
use Rattle.gf_reverse_theory.proofs.OneListLaws.{one_list, list_exists}
use Rattle.gf_reverse_theory.proofs.LeftLaws.{advance_answers, advance_ends}

pub negative_normals_can_be_crossed : NegativeNormalsCanBeCrossed
negative_normals_can_be_crossed n fs k r bs b wide w basis q m =
    negative_gives_flippable n k r bs basis.weight b wide w basis.arranged.canonical basis.inside (open_of_marks n k bs basis.weight basis.inside basis.marked)
    q m

pub root_has_no_way_up : RootHasNoWayUp
root_has_no_way_up = record {
  exactly = λ n fs k r bs v wide w b. (λ none. root_basis n fs k r bs v wide w b none, λ h. root_is_top n fs k r bs w.natural b.arranged.canonical h);
  one = one_root;
  own = root_weight;
  everywhere = weight_everywhere;
}

-- ---- crossings

something : (n : ℕ) (fs : List Terms) (k : Region) (bs cs : List MarkedPolynomial) (a : List ℤ) → AreInVariables n fs → AreAdjacent n fs k bs a cs →
    Enters bs cs
something n fs k bs cs a v h = something_enters n a bs cs (normal-nonzero n bs a h.here.arranged.canonical h.facet.normal)
    (parts_of_neighbours n fs k bs cs a v h)

pulled : (n : ℕ) (fs : List Terms) (k : Region) (r : List ℤ) (bs cs : List MarkedPolynomial) (a : List ℤ) (x : Exponents) → AreInVariables n fs →
    All (λ c. pos 0 ≤ℤ c) r → AreAdjacent n fs k bs a cs → IsNegative r a → IsInRing n x → (IsDivisible (Contains bs) x → ⊥) → IsDivisible (Contains cs) x →
    (y : Exponents) × IsWeightedBelow (gains r) y x × IsDivisible (Contains bs) y × (IsDivisible (Contains cs) y → ⊥)
pulled n fs k r bs cs a x v natural h neg i out enters = at (what_enters_pulls n a bs cs x (parts_of_neighbours n fs k bs cs a v h) i out enters)
  where
    at : IsPulledOut a bs cs x → (y : Exponents) × IsWeightedBelow (gains r) y x × IsDivisible (Contains bs) y × (IsDivisible (Contains cs) y → ⊥)
    at l = (l.at, below_by_negative r l.steps a x l.at natural l.some l.apart neg, l.led, l.not_led)

pub crossings_fall : CrossingsFall
crossings_fall = record {
  enters = λ n fs k bs cs a v h. (let e = something n fs k bs cs a v h in (e.at, e.member, e.contained, e.there, e.not_led, e.led));
  pulls = pulled;
  falls = crossing_falls;
  ends = walks_fall;
}

pub no_cycles : NoCycles
no_cycles = no_cycle

-- ---- the tree

up_or_root : (k : Region) (v : MarkedPolynomials) → IsNode k v → ((c : List ℤ) × (u : MarkedPolynomials) × IsParent k v c u) ⊎ IsRoot (IsParent k) v
up_or_root k v h = at (parents_climb (fan_of k v) v h)
  where
    at : Parent (IsParentIn (fan_of k v)) v ⊎ IsRoot (IsParentIn (fan_of k v)) v →
        ((c : List ℤ) × (u : MarkedPolynomials) × IsParent k v c u) ⊎ IsRoot (IsParent k) v
    at (inl p) = inl (p.label, p.node, p.is)
    at (inr r) = inr r

root_exactly : (k : Region) (v : MarkedPolynomials) → IsNode k v →
    IsRoot (IsParent k) v ↔ IsReducedBasisFor v.variables (polys v.items) (IsWeightedBelow (gains k.root)) v.items
root_exactly k v h = (
  λ r. root_basis v.variables (polys v.items) k k.root v.items h.fan.ideal h.fan.region.widths (root_weight v.variables k h.fan.region) h.basis
      (root_has_no_way (fan_of k v) v h r),
  λ b c u p. root_is_top v.variables (polys v.items) k k.root v.items (root_weight v.variables k h.fan.region).natural h.basis.arranged.canonical b p.normal
      p.way.leads,
)

pub bases_make_a_tree : BasesMakeATree
bases_make_a_tree = record {
  tree = upward_tree;
  nodes = upward_nodes;
  up = up_or_root;
  root = root_exactly;
  one_root = λ F a b h r m s. same_root F a b h r m s;
  child = child_across;
  across = λ k u v b p. (child_flippable k u v b p, child_negative k u v b p);
  only = child_only;
}

pub the_tree_is_finite : TheTreeIsFinite
the_tree_is_finite F top h = subst (IsFinite IsBefore (IsParent F.region) top) (node_list-length F) (finite_in F top h)

-- ---- paths

pub bases_have_paths : BasesHavePaths
bases_have_paths = record { some = path_exists; one = path_one; all = list_of_bases }

pub ideals_have_one_list : IdealsHaveOneList
ideals_have_one_list = record { some = list_exists; one = one_list }

pub what_is_left : WhatIsLeft
what_is_left = record { answers = advance_answers; ends = advance_ends }
