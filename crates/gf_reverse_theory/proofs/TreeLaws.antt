-- The bases of the ideals that they generate, as one tree, finite below each of its nodes.
-- To cite: rank, count, upward_tree, upward_nodes, upward_falls, upward_level, finite_in, upward_finite.
use Rattle.std.proofs.Common.{◌≡◌, ◌⊎◌, ℕ, ◌<◌, ◌≤◌, List, [], ◌∷◌, length, ℤ, arith, refl, sym, ap, ◌∙◌, subst, inl, inr}
use Rattle.std.proofs.lemmas.Bool.{cases_lt}
use Rattle.gf_exponents_theory.specs.Orders.{gains}
use Rattle.gf_poly.specs.Marking.{MarkedPolynomial, MarkedPolynomials, polys}
use Rattle.gf_ideal_theory.specs.Membership.{AreInVariables, AreSameIdeal}
use Rattle.gf_reverse_search.specs.Path.{IsTree, IsRoot}
use Rattle.gf_reverse_search.specs.Listing.{Among}
use Rattle.gf_reverse_search.specs.Whole.{Parent, IsFinite}
use Rattle.gf_reverse_search.proofs.FinitenessLaws.{finite_tree}
use Rattle.gf_reverse_theory.specs.LeadingNumber.{leading_number}
use Rattle.gf_reverse_theory.specs.Heights.{above_bases}
use Rattle.gf_facets_theory.specs.Regions.{Region, IsRegion, IsInRegion}
use Rattle.gf_facets_theory.specs.MarkedBases.{IsBasisInRegion}
use Rattle.gf_facets_theory.specs.LexPositive.{IsBefore}
use Rattle.gf_reverse_theory.specs.Upward.{IsWayUp, Fan, IsFanOfIdeal, IsNodeIn, IsParentIn, fan_of, IsNode, IsParent}
use Rattle.gf_bases_theory.proofs.LawsHold.{only_ideals_count}
use Rattle.gf_facets_theory.proofs.VectorOrder.{before_strict}
use Rattle.gf_reverse_theory.proofs.UpwardLaws.{parents_tree, parent_nodes}
use Rattle.gf_reverse_theory.proofs.FanLaws.{bases_of, rank_in, parents_fall, parents_climb, roots_one, node_list, basis_listed, listed_basis, node_listed}
use Rattle.gf_reverse_theory.proofs.FanLaws.{listed_node, basis_below}

-- ---- one ideal by other generators
pub record SameFan (F G : Fan) : Type 0 where
  pub variables : F.variables ≡ G.variables
  pub region : F.region ≡ G.region
  pub ideal : AreSameIdeal G.variables F.ideal G.ideal
  pub back : AreSameIdeal G.variables G.ideal F.ideal
  pub fan : IsFanOfIdeal F
  pub other : IsFanOfIdeal G

-- a basis in one is a basis in the other
basis_moved : (F G : Fan) (bs : List MarkedPolynomial) → SameFan F G → IsBasisInRegion F.variables F.ideal F.region bs →
    IsBasisInRegion G.variables G.ideal G.region bs
basis_moved F G bs s b =
    only_ideals_count.in_region G.variables F.ideal G.ideal G.region bs s.ideal
    (subst (λ k. IsBasisInRegion G.variables F.ideal k bs) s.region (subst (λ n. IsBasisInRegion n F.ideal F.region bs) s.variables b))

pub node_moved : (F G : Fan) (v : MarkedPolynomials) → SameFan F G → IsNodeIn F v → IsNodeIn G v
node_moved F G v s h = record { fan = s.other; variables = h.variables ∙ s.variables; basis = basis_moved F G v.items s h.basis }

pub parent_moved : (F G : Fan) (v : MarkedPolynomials) (c : List ℤ) (u : MarkedPolynomials) → SameFan F G → IsParentIn F v c u → IsParentIn G v c u
parent_moved F G v c u s p = subst (λ k. IsParentIn (record { variables = G.variables; ideal = G.ideal; region = k }) v c u) s.region
    (onto F.variables s.variables refl)
  where
    H : Fan
    H = record { variables = G.variables; ideal = G.ideal; region = F.region }

    onto : (n : ℕ) → n ≡ G.variables → n ≡ F.variables → IsParentIn (record { variables = G.variables; ideal = G.ideal; region = F.region }) v c u
    onto n e f = record {
      fan = subst (λ k. IsFanOfIdeal (record { variables = G.variables; ideal = G.ideal; region = k })) (sym s.region) s.other;
      child = p.child ∙ s.variables;
      parent = p.parent ∙ s.variables;
      normal = p.normal;
      way = subst (λ m. IsWayUp m F.region v.items p.normal) s.variables p.way;
      adjacent = record {
        here = subst (λ k. IsBasisInRegion G.variables G.ideal k v.items) (sym s.region) (basis_moved F G v.items s p.adjacent.here);
        there = subst (λ k. IsBasisInRegion G.variables G.ideal k u.items) (sym s.region) (basis_moved F G u.items s p.adjacent.there);
        point = p.adjacent.point;
        region = subst (λ m. IsInRegion m F.region p.adjacent.point) s.variables p.adjacent.region;
        facet = p.adjacent.facet;
        back = p.adjacent.back;
      };
      label = p.label;
    }

-- a node's own generators
pub own_fan : (F : Fan) (v : MarkedPolynomials) → IsNodeIn F v → SameFan F (fan_of F.region v)
own_fan F v h =
    let n = F.variables in
    let i = only_ideals_count.generated n F.ideal v.items h.fan.ideal (record { reduced = h.basis.reduced; arranged = h.basis.arranged }) in
    let w = subst (λ m. AreSameIdeal m F.ideal (polys v.items)) (sym h.variables) i.1 in
    record {
      variables = sym h.variables;
      region = refl;
      ideal = w;
      back = record { inside = w.back; back = w.inside };
      fan = h.fan;
      other = record {
        ideal = subst (λ m. AreInVariables m (polys v.items)) (sym h.variables) i.0;
        region = subst (λ m. IsRegion m F.region) (sym h.variables) h.fan.region;
      };
    }

pub back_fan : (F G : Fan) → SameFan F G → SameFan G F
back_fan F G s = record {
  variables = sym s.variables;
  region = sym s.region;
  ideal = subst (λ m. AreSameIdeal m G.ideal F.ideal) (sym s.variables) s.back;
  back = subst (λ m. AreSameIdeal m F.ideal G.ideal) (sym s.variables) s.ideal;
  fan = s.other;
  other = s.fan;
}

-- ---- parents seen in an ideal of which one of the two is a basis
in_ideal : (F : Fan) (v : MarkedPolynomials) (c : List ℤ) (u : MarkedPolynomials) → IsNodeIn F v → IsParent F.region v c u → IsParentIn F v c u
in_ideal F v c u h p = parent_moved (fan_of F.region v) F v c u (back_fan F (fan_of F.region v) (own_fan F v h)) p

-- from the ideal of the parent
pub from_above : (k : Region) (v : MarkedPolynomials) (c : List ℤ) (u : MarkedPolynomials) → IsParent k v c u → IsParentIn (fan_of k u) v c u
from_above k v c u p = parent_moved (fan_of k v) (fan_of k u) v c u (own_fan (fan_of k v) u (parent_nodes (fan_of k v) v c u p).1) p

pub above_node : (F : Fan) (v : MarkedPolynomials) (c : List ℤ) (u : MarkedPolynomials) → IsParent F.region v c u → IsNodeIn F v → IsNodeIn F u
above_node F v c u p h = (parent_nodes F v c u (in_ideal F v c u h p)).1

pub down_node : (F : Fan) (v : MarkedPolynomials) (c : List ℤ) (u : MarkedPolynomials) → IsParent F.region v c u → IsNodeIn F u → IsNodeIn F v
down_node F v c u p h = node_moved (fan_of F.region u) F v (back_fan F (fan_of F.region u) (own_fan F u h))
    (parent_nodes (fan_of F.region u) v c u (from_above F.region v c u p)).0

-- ---- a tree
pub upward_nodes : (k : Region) (v : MarkedPolynomials) (c : List ℤ) (u : MarkedPolynomials) → IsParent k v c u → IsNode k v × IsNode k u
upward_nodes k v c u p = ((parent_nodes (fan_of k v) v c u p).0, (parent_nodes (fan_of k u) v c u (from_above k v c u p)).1)

pub upward_tree : (k : Region) → IsTree (IsParent k)
upward_tree k = record {
  one_label = λ v u w b c p q. (parents_tree (fan_of k v)).one_label v u w b c p q;
  one_parent = λ v u w b c p q. (parents_tree (fan_of k v)).one_parent v u w b c p q;
  one_child = λ v w u c p q. (parents_tree (fan_of k u)).one_child v w u c (from_above k v c u p) (from_above k w c u q);
}

-- ---- numbers that go by the ideal alone
heights_within : (r : List ℕ) (xs ys : List (List MarkedPolynomial)) → ((bs : List MarkedPolynomial) → Among xs bs → Among ys bs) →
    above_bases r xs ≤ above_bases r ys
heights_within r [] ys h = omega arith
heights_within r (bs ∷ xs) ys h = (let a = basis_below r ys bs (h bs (inl refl)) in let b = heights_within r xs ys (λ c j. h c (inr j)) in omega arith)

bases_within : (F G : Fan) → SameFan F G → (bs : List MarkedPolynomial) → Among (bases_of F) bs → Among (bases_of G) bs
bases_within F G s bs j = basis_listed G (record { variables = G.variables; items = bs })
    (record { fan = s.other; variables = refl; basis = basis_moved F G bs s (listed_basis F bs s.fan j) })

rank_same : (F G : Fan) (bs : List MarkedPolynomial) → SameFan F G → rank_in F bs ≡ rank_in G bs
unfolding rank_in
rank_same F G bs s =
    ap (λ k. leading_number (gains k.root) (above_bases (gains k.root) (bases_of F)) bs) s.region
    ∙ ap (λ d. leading_number (gains G.region.root) d bs) (let a = heights_within (gains G.region.root) (bases_of F) (bases_of G) (bases_within F G s) in
    let b = heights_within (gains G.region.root) (bases_of G) (bases_of F) (bases_within G F (back_fan F G s)) in omega arith)

-- how far a node is below its root at most
pub rank : Region → MarkedPolynomials → ℕ
rank k v = rank_in (fan_of k v) v.items

pub upward_falls : (k : Region) (v : MarkedPolynomials) (c : List ℤ) (u : MarkedPolynomials) → IsParent k v c u → rank k u < rank k v
unfolding rank
upward_falls k v c u p =
    let f = parents_fall (fan_of k v) v c u p in
    let e = rank_same (fan_of k v) (fan_of k u) u.items (own_fan (fan_of k v) u (parent_nodes (fan_of k v) v c u p).1) in
    omega arith

-- ---- the root, as the basis of least rank
least_from : (List MarkedPolynomial → ℕ) → List MarkedPolynomial → List (List MarkedPolynomial) → List MarkedPolynomial
least_from f best [] = best
least_from f best (x ∷ xs) = elim (cases_lt (f x) (f best)) [ inl l ↦ least_from f x xs | inr g ↦ least_from f best xs ]

least_of : (List MarkedPolynomial → ℕ) → List (List MarkedPolynomial) → List MarkedPolynomial
least_of f [] = []
least_of f (x ∷ xs) = least_from f x xs

least_from-is : (f : List MarkedPolynomial → ℕ) (best : List MarkedPolynomial) (xs : List (List MarkedPolynomial)) →
    Among (best ∷ xs) (least_from f best xs) × ((y : List MarkedPolynomial) → Among (best ∷ xs) y → f (least_from f best xs) ≤ f y)
unfolding least_from
least_from-is f best [] = (inl refl, λ y j. elim j [ inl e ↦ (let g : f best ≡ f y = ap f e in omega arith) | inr k ↦ absurd k ])
least_from-is f best (x ∷ xs) = at (cases_lt (f x) (f best)) (least_from-is f x xs) (least_from-is f best xs)
  where
    at : (r : (f x < f best) ⊎ (f best ≤ f x)) → (Among (x ∷ xs) (least_from f x xs) × ((y : List MarkedPolynomial) → Among (x ∷ xs) y →
        f (least_from f x xs) ≤ f y)) → (Among (best ∷ xs) (least_from f best xs) × ((y : List MarkedPolynomial) → Among (best ∷ xs) y →
        f (least_from f best xs) ≤ f y)) → Among (best ∷ (x ∷ xs)) (elim r [ inl l ↦ least_from f x xs | inr g ↦ least_from f best xs ]) ×
        ((y : List MarkedPolynomial) → Among (best ∷ (x ∷ xs)) y → f (elim r [ inl l ↦ least_from f x xs | inr g ↦ least_from f best xs ]) ≤ f y)
    at (inl l) a b = (inr a.0, λ y j. elim j [ inl e ↦ (let g : f best ≡ f y = ap f e in let h = a.1 x (inl refl) in omega arith) | inr k ↦ a.1 y k ])
    at (inr g) a b = (
      elim b.0 [ inl e ↦ inl e | inr k ↦ inr (inr k) ],
      λ y j. elim j [
        | inl e ↦ b.1 y (inl e)
        | inr k ↦ elim k [ inl e ↦ (let q : f x ≡ f y = ap f e in let h = b.1 best (inl refl) in omega arith) | inr i ↦ b.1 y (inr i) ]
      ],
    )

least_of-is : (f : List MarkedPolynomial → ℕ) (xs : List (List MarkedPolynomial)) (z : List MarkedPolynomial) → Among xs z →
    Among xs (least_of f xs) × ((y : List MarkedPolynomial) → Among xs y → f (least_of f xs) ≤ f y)
unfolding least_of
least_of-is f [] z j = elim j [ ]
least_of-is f (x ∷ xs) z j = least_from-is f x xs

root_of : Fan → MarkedPolynomials
root_of F = record { variables = F.variables; items = least_of (rank_in F) (bases_of F) }

-- it is a node, and nothing is above it
root_is : (F : Fan) (v : MarkedPolynomials) → IsNodeIn F v → IsNodeIn F (root_of F) × IsRoot (IsParentIn F) (root_of F)
unfolding root_of
root_is F v h =
    let l = least_of-is (rank_in F) (bases_of F) v.items (basis_listed F v h) in (
      record { fan = h.fan; variables = refl; basis = listed_basis F (least_of (rank_in F) (bases_of F)) h.fan l.0 },
      λ c u p. (let f = parents_fall F (record { variables = F.variables; items = least_of (rank_in F) (bases_of F) }) c u p in
          let g = l.1 u.items (basis_listed F u (parent_nodes F (record { variables = F.variables; items = least_of (rank_in F) (bases_of F) }) c u p).1) in
          absurd (omega arith)),
    )

root_same : (F G : Fan) (v : MarkedPolynomials) → SameFan F G → IsNodeIn F v → root_of F ≡ root_of G
root_same F G v s h =
    let a = root_is F v h in
    let b = root_is G v (node_moved F G v s h) in
    roots_one F (root_of F) (root_of G) a.0 a.1 (node_moved G F (root_of G) (back_fan F G s) b.0) (λ c u p. b.1 c u (parent_moved F G (root_of G) c u s p))

-- ---- how many nodes there are
-- the fan of the root above a node
whole_fan : Region → MarkedPolynomials → Fan
whole_fan k v = fan_of k (root_of (fan_of k v))

pub count : Region → MarkedPolynomials → ℕ
count k v = length (node_list (whole_fan k v))

pub upward_level : (k : Region) (v : MarkedPolynomials) (c : List ℤ) (u : MarkedPolynomials) → IsParent k v c u → count k v ≡ count k u
unfolding count whole_fan
upward_level k v c u p =
    let n = parent_nodes (fan_of k v) v c u p in
    ap (λ (r : MarkedPolynomials). length (node_list (fan_of k r))) (root_same (fan_of k v) (fan_of k u) v (own_fan (fan_of k v) u n.1) n.0)

-- what is below a node of a fan can be listed
pub finite_in : (F : Fan) (top : MarkedPolynomials) → IsNodeIn F top → IsFinite IsBefore (IsParent F.region) top (length (node_list F))
finite_in F top h = finite_tree (IsParent F.region) (IsNodeIn F) (down_node F) (above_node F) (rank F.region) (λ v c u n p. upward_falls F.region v c u p)
    climbs IsBefore before_strict (upward_tree F.region)
    (node_list F) (node_listed F) (listed_node F h.fan) roots top h
  where
    own : (v : MarkedPolynomials) → IsNodeIn F v → IsNode F.region v
    own v n = node_moved F (fan_of F.region v) v (own_fan F v n) n

    climbs : (v : MarkedPolynomials) → IsNodeIn F v → Parent (IsParent F.region) v ⊎ IsRoot (IsParent F.region) v
    climbs v n = climbs_own v (parents_climb (fan_of F.region v) v (own v n))
      where
        climbs_own : (v : MarkedPolynomials) → Parent (IsParentIn (fan_of F.region v)) v ⊎ IsRoot (IsParentIn (fan_of F.region v)) v →
            Parent (IsParent F.region) v ⊎ IsRoot (IsParent F.region) v
        climbs_own v (inl p) = inl (record { label = p.label; node = p.node; is = p.is })
        climbs_own v (inr q) = inr q

    roots : (a b : MarkedPolynomials) → IsNodeIn F a → IsRoot (IsParent F.region) a → IsNodeIn F b → IsRoot (IsParent F.region) b → a ≡ b
    roots a b na ra nb rb = roots_one F a b na (λ c u p. ra c u (parent_moved F (fan_of F.region a) a c u (own_fan F a na) p)) nb
        (λ c u p. rb c u (parent_moved F (fan_of F.region b) b c u (own_fan F b nb) p))

-- by the count of a node
pub upward_finite : (k : Region) (top : MarkedPolynomials) → IsNode k top → IsFinite IsBefore (IsParent k) top (count k top)
unfolding count whole_fan
upward_finite k top h =
    let r = root_is (fan_of k top) top h in
    finite_in (fan_of k (root_of (fan_of k top))) top (node_moved (fan_of k top) (fan_of k (root_of (fan_of k top))) top
    (own_fan (fan_of k top) (root_of (fan_of k top)) r.0) h)
