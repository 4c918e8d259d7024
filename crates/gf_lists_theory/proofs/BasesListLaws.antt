-- The list of all bases in a region, from the basis by its root and then lex on, or by degree and then lex; and what such a list has.
-- To cite: among_left, among_right, given_in_node, node_given_in, given_node, node_given, first_node, first_own, first_in,
-- start_in, root_marks, own_start_in, start_moved, own_start, start_of_root, all_bases_in, all_bases_from,
-- weights_are_served, regions_are_served. The rest are steps.
use Rattle.std.specs.Prelude.{◌≡◌, ◌⊎◌, ℕ, zero, suc, ◌≤◌, Bool, true, List, [], ◌∷◌, ◌++◌, length, replicate, Contains, All, ℤ, pos, ◌<ℤ◌}
use Rattle.std.proofs.Common.{arith, refl, sym, ap, ◌∙◌, subst, inl, inr}
use Rattle.std.proofs.lemmas.List.Elements.{All-nil}
use Rattle.gf_exponents_theory.specs.Exponents.{Exponents, entry, same, degree, weight, IsInRing}
use Rattle.gf_exponents_theory.specs.Orders.{gains, IsDeglexBelow, IsWeightedBelow, IsTermOrder}
use Rattle.gf_exponents_theory.proofs.OrderLaws.{deglex-order}
use Rattle.gf_poly.specs.Polynomial.{Terms}
use Rattle.gf_poly.specs.Marking.{MarkedPolynomial, MarkedPolynomials, polys}
use Rattle.gf_ideal_theory.specs.Membership.{HasMonomial, AreInVariables, AreSameIdeal}
use Rattle.gf_ideal_theory.specs.Marks.{AreMarked}
use Rattle.gf_ideal_theory.specs.MonomialOrders.{MonomialOrder}
use Rattle.gf_ideal_theory.specs.Bases.{IsReducedBasis, IsReducedBasisFor, AreArranged}
use Rattle.gf_ideal_theory.proofs.LawsHold.{marks_have_weights}
use Rattle.gf_ideal_theory.proofs.MembershipLaws.{variables_of_member, member-generator}
use Rattle.gf_ideal_theory.proofs.PieceLaws.{Contains-polys}
use Rattle.gf_reverse_search.specs.declared.mark.Mark.TheVariants.{Before}
use Rattle.gf_reverse_search.specs.Path.{IsRoot}
use Rattle.gf_reverse_search.specs.Listing.{Among, Leaves}
use Rattle.gf_reverse_search.specs.Whole.{IsWholeList}
use Rattle.gf_reverse_search.proofs.FinitenessLaws.{no_loop-rank, whole_below}
use Rattle.gf_facets_theory.specs.Regions.{Region, IsRegion, IsInRegion, all_positive}
use Rattle.gf_facets_theory.specs.LexPositive.{IsBefore}
use Rattle.gf_facets_theory.specs.Facets.{IsInClosedCone}
use Rattle.gf_facets_theory.specs.InitialIdeals.{IsMonomialAt}
use Rattle.gf_facets_theory.specs.MarkedBases.{IsMarkedReducedBasis, IsBasisInRegion}
use Rattle.gf_facets_theory.proofs.RegionLaws.{region-positive}
use Rattle.gf_facets_theory.proofs.SystemLaws.{all_positive-region}
use Rattle.gf_facets_theory.proofs.VectorOrder.{before_strict}
use Rattle.gf_ideal_theory.proofs.ArrangedLists.{arranged_equal}
use Rattle.gf_ideal_theory.proofs.UniquenessLaws.{unique_by_weight}
use Rattle.gf_ideal_theory.proofs.RingLaws.{in_ring_of}
use Rattle.gf_bases_theory.proofs.LawsHold.{of_reduced, marked_bases_are_reduced, only_ideals_count, weights_have_bases}
use Rattle.gf_initial_theory.proofs.LawsHold.{monomial_ideals_are_of_bases}
use Rattle.gf_reverse_theory.specs.Upward.{IsNodeIn, fan_of, IsNode, IsParent}
use Rattle.gf_reverse_theory.specs.Lists.{IsListOfBases}
use Rattle.gf_reverse_theory.proofs.TreeLaws.{SameFan, rank, upward_tree, upward_falls, node_moved, own_fan, back_fan}
use Rattle.gf_reverse_theory.proofs.ListLaws.{own, list_of_bases}
use Rattle.gf_reverse_theory.proofs.StartLaws.{basis_is_node}
use Rattle.gf_reverse_theory.specs.TermOrders.{below_by}
use Rattle.gf_reverse_theory.proofs.TermOrderLaws.{term_orders_have_bases}
use Rattle.gf_reverse_theory.proofs.LawsHold.{bases_make_a_tree}
use Rattle.gf_tree.specs.Ideals.{ideal_by, ideal_within}
use Rattle.gf_tree.specs.Parents.{IsRootFor}
use Rattle.gf_lists_theory.specs.BasesList.{IsGivenIn, IsGivenByWeight, AreAllBasesIn, AreAllBases, WeightsAreServed, RegionsAreServed}
use Rattle.gf_lists_theory.specs.Starts.{StartsAt, StartsIn}

-- ---- among two lists

pub among_left : (xs ys : List MarkedPolynomials) (x : MarkedPolynomials) → Among xs x → Among (xs ++ ys) x
among_left [] ys x j = absurd j
among_left (y ∷ xs) ys x (inl e) = inl e
among_left (y ∷ xs) ys x (inr j) = inr (among_left xs ys x j)

pub among_right : (xs ys : List MarkedPolynomials) (x : MarkedPolynomials) → Among ys x → Among (xs ++ ys) x
among_right [] ys x j = j
among_right (y ∷ xs) ys x j = inr (among_right xs ys x j)

-- ---- the bases that some weight of a region gives

pub given_in_node : (n : ℕ) (k : Region) (fs : List Terms) (x : MarkedPolynomials) → AreInVariables n fs → IsRegion n k → IsGivenIn n k fs x →
    IsNodeIn (ideal_within n fs k) x
given_in_node n k fs x v r g =
    let m : IsMarkedReducedBasis n fs x.items = of_reduced n fs (gains g.weight) x.items g.reduced g.arranged in
    record {
      fan = record { ideal = v; region = r };
      variables = g.variables;
      basis = record {
        reduced = m.reduced;
        arranged = m.arranged;
        weight = g.weight;
        inside = g.inside;
        marked = ((marked_bases_are_reduced.at_weight n fs (gains g.weight) x.items v m).0 g.reduced).1;
      };
    }

reduced_in : (n : ℕ) (k : Region) (fs : List Terms) (x : MarkedPolynomials) → IsNodeIn (ideal_within n fs k) x → IsMarkedReducedBasis n fs x.items
reduced_in n k fs x h = record { reduced = h.basis.reduced; arranged = h.basis.arranged }

pub node_given_in : (n : ℕ) (k : Region) (fs : List Terms) (x : MarkedPolynomials) → IsNodeIn (ideal_within n fs k) x → IsGivenIn n k fs x
node_given_in n k fs x h = record {
  variables = h.variables;
  arranged = h.basis.arranged;
  weight = h.basis.weight;
  inside = h.basis.inside;
  reduced = (marked_bases_are_reduced.at_weight n fs (gains h.basis.weight) x.items h.fan.ideal (reduced_in n k fs x h)).1
      (region-positive n k h.basis.weight h.basis.inside, h.basis.marked);
}

-- some positive weight

pub given_node : (n : ℕ) (fs : List Terms) (x : MarkedPolynomials) → AreInVariables n fs → IsGivenByWeight n fs x → IsNodeIn (ideal_by n fs) x
given_node n fs x v g = given_in_node n (all_positive n) fs x v (all_positive-region n) g

pub node_given : (n : ℕ) (fs : List Terms) (x : MarkedPolynomials) → IsNodeIn (ideal_by n fs) x → IsGivenByWeight n fs x
node_given n fs x h = node_given_in n (all_positive n) fs x h

-- ---- the first basis

weight-ones : (n : ℕ) (x : Exponents) → ((i : ℕ) → n ≤ i → entry x i ≡ 0) → weight (gains (replicate n (pos 1))) x ≡ degree x
weight-ones zero [] h = refl
weight-ones zero (a ∷ x) h = omega (arith, h 0 (omega arith), weight-ones zero x (λ i l. h (suc i) (omega arith)))
weight-ones (suc n) [] h = refl
weight-ones (suc n) (a ∷ x) h = omega (arith, weight-ones n x (λ i l. h (suc i) (omega arith)))

-- marks that are greatest by degree and then lex are so by the weight (1, .., 1) and then lex
degree_marks : (n : ℕ) (bs : List MarkedPolynomial) → ((b : MarkedPolynomial) → Contains bs b → (x : Exponents) → HasMonomial b.poly x → IsInRing n x) →
    ((b : MarkedPolynomial) → Contains bs b → IsInRing n b.head) → AreMarked IsDeglexBelow bs → AreMarked (IsWeightedBelow (gains (replicate n (pos 1)))) bs
degree_marks n bs ring heads m b c = record { monic = (m b c).monic; tail = tail }
  where
    tail : (x : Exponents) → HasMonomial b.poly x → (same x b.head ≡ true) ⊎ IsWeightedBelow (gains (replicate n (pos 1))) x b.head
    tail x h = by ((m b c).tail x h)
      where
        ex : weight (gains (replicate n (pos 1))) x ≡ degree x
        ex = weight-ones n x (ring b c x h)

        eh : weight (gains (replicate n (pos 1))) b.head ≡ degree b.head
        eh = weight-ones n b.head (heads b c)

        by : (same x b.head ≡ true) ⊎ IsDeglexBelow x b.head → (same x b.head ≡ true) ⊎ IsWeightedBelow (gains (replicate n (pos 1))) x b.head
        by (inl e) = inl e
        by (inr (inl l)) = inr (inl (omega (arith, l, ex, eh)))
        by (inr (inr l)) = inr (inr (ex ∙ l.0 ∙ sym eh, l.1))

pub first_node : (n : ℕ) (fs : List Terms) (root : MarkedPolynomials) → AreInVariables n fs → root.variables ≡ n →
    IsReducedBasisFor n fs IsDeglexBelow root.items → AreArranged n root.items → IsNodeIn (ideal_by n fs) root
first_node n fs root v e r a = (basis_is_node n fs IsDeglexBelow root v deglex-order (marks_have_weights.by_deglex n root.items r.basis.marked) e r a).0

pub first_own : (n : ℕ) (fs : List Terms) (root : MarkedPolynomials) → IsNodeIn (ideal_by n fs) root → IsNode (all_positive n) root
first_own n fs root h = own (all_positive n) (ideal_by n fs) root refl h

-- ---- where a list in a region starts

reduced_for_moved : (n : ℕ) (fs gs : List Terms) (below : Exponents → Exponents → Type 0) (bs : List MarkedPolynomial) → AreSameIdeal n fs gs →
    IsReducedBasisFor n fs below bs → IsReducedBasisFor n gs below bs
reduced_for_moved n fs gs below bs s r = record {
  basis = record { members = λ c k. s.inside c.poly (r.basis.members c k); marked = r.basis.marked; initial = λ f m x l. r.basis.initial f (s.back f m) x l };
  tails = r.tails;
  heads = r.heads;
}

-- the basis by degree and then lex is the one by the root of all positive weights and then lex
pub first_in : (n : ℕ) (fs : List Terms) (root : MarkedPolynomials) → AreInVariables n fs → root.variables ≡ n →
    IsReducedBasisFor n fs IsDeglexBelow root.items → AreArranged n root.items → StartsIn n (all_positive n) fs root
first_in n fs root v e r a = record {
  node = node;
  by_root = (marked_bases_are_reduced.at_order (MonomialOrder.weighted (gains (replicate n (pos 1)))) n fs root.items v
      (reduced_in n (all_positive n) fs root node)).1
      (degree_marks n root.items (λ b c x k. variables_of_member n fs b.poly v (node.basis.reduced.basis.members b c) x k)
      (λ b c. in_ring_of n b.head (node.basis.arranged.canonical b c).head) r.basis.marked);
}
  where
    node : IsNodeIn (ideal_by n fs) root
    node = first_node n fs root v e r a

pub start_in : (n : ℕ) (fs : List Terms) (root : MarkedPolynomials) → StartsAt n fs root → StartsIn n (all_positive n) fs root
start_in n fs root s = first_in n fs root s.inside s.first.variables s.first.reduced s.first.arranged

-- its marks are those of the root
pub root_marks : (n : ℕ) (k : Region) (fs : List Terms) (root : MarkedPolynomials) → StartsIn n k fs root → IsNode k root →
    IsReducedBasisFor root.variables (polys root.items) (IsWeightedBelow (gains k.root)) root.items
root_marks n k fs root s mine =
    (marked_bases_are_reduced.at_order (MonomialOrder.weighted (gains k.root)) root.variables (polys root.items) root.items mine.fan.ideal
    (record { reduced = mine.basis.reduced; arranged = mine.basis.arranged })).1 s.by_root.basis.marked

-- it is the first one of the ideal that it generates
pub own_start_in : (n : ℕ) (k : Region) (fs : List Terms) (root : MarkedPolynomials) → StartsIn n k fs root → StartsIn n k (polys root.items) root
own_start_in n k fs root s = record {
  node = subst (λ m. IsNodeIn (record { variables = m; ideal = polys root.items; region = k }) root) s.node.variables mine;
  by_root = subst (λ m. IsReducedBasisFor m (polys root.items) (IsWeightedBelow (gains k.root)) root.items) s.node.variables (root_marks n k fs root s mine);
}
  where
    mine : IsNode k root
    mine = own k (ideal_within n fs k) root refl s.node

-- and of the ideal by other generators
pub start_moved : (n : ℕ) (k : Region) (fs gs : List Terms) (root : MarkedPolynomials) → AreInVariables n gs → AreSameIdeal n fs gs → StartsIn n k fs root →
    StartsIn n k gs root
start_moved n k fs gs root v same s = record {
  node = node_moved (ideal_within n fs k) (ideal_within n gs k) root (record {
    variables = refl;
    region = refl;
    ideal = same;
    back = record { inside = same.back; back = same.inside };
    fan = s.node.fan;
    other = record { ideal = v; region = s.node.fan.region };
  }) s.node;
  by_root = reduced_for_moved n fs gs (IsWeightedBelow (gains k.root)) root.items same s.by_root;
}

-- ---- where a list for all positive weights starts

-- the first basis of an ideal is the first one of the ideal that it generates
pub own_start : (n : ℕ) (fs : List Terms) (root : MarkedPolynomials) → StartsAt n fs root → StartsAt n (polys root.items) root
own_start n fs root s = record {
  inside = generated.0;
  first = record {
    variables = s.first.variables;
    reduced = reduced_for_moved n fs (polys root.items) IsDeglexBelow root.items generated.1 s.first.reduced;
    arranged = s.first.arranged;
    marked = s.first.marked;
    inside = λ b c. member-generator n (polys root.items) b.poly (Contains-polys root.items b c);
    back = λ f c. member-generator n (polys root.items) f c;
  };
}
  where
    generated : AreInVariables n (polys root.items) × AreSameIdeal n fs (polys root.items)
    generated = only_ideals_count.generated n fs root.items s.inside
        (reduced_in n (all_positive n) fs root (first_node n fs root s.inside s.first.variables s.first.reduced s.first.arranged))

-- marks that are greatest by the weight (1, .., 1) and then lex are so by degree and then lex
weight_marks : (n : ℕ) (bs : List MarkedPolynomial) → ((b : MarkedPolynomial) → Contains bs b → (x : Exponents) → HasMonomial b.poly x → IsInRing n x) →
    ((b : MarkedPolynomial) → Contains bs b → IsInRing n b.head) → AreMarked (IsWeightedBelow (gains (replicate n (pos 1)))) bs → AreMarked IsDeglexBelow bs
weight_marks n bs ring heads m b c = record { monic = (m b c).monic; tail = tail }
  where
    tail : (x : Exponents) → HasMonomial b.poly x → (same x b.head ≡ true) ⊎ IsDeglexBelow x b.head
    tail x h = by ((m b c).tail x h)
      where
        ex : weight (gains (replicate n (pos 1))) x ≡ degree x
        ex = weight-ones n x (ring b c x h)

        eh : weight (gains (replicate n (pos 1))) b.head ≡ degree b.head
        eh = weight-ones n b.head (heads b c)

        by : (same x b.head ≡ true) ⊎ IsWeightedBelow (gains (replicate n (pos 1))) x b.head → (same x b.head ≡ true) ⊎ IsDeglexBelow x b.head
        by (inl e) = inl e
        by (inr (inl l)) = inr (inl (omega (arith, l, ex, eh)))
        by (inr (inr l)) = inr (inr (sym ex ∙ l.0 ∙ eh, l.1))

-- the root above a basis of an ideal is its first basis
pub start_of_root : (n : ℕ) (fs : List Terms) (v root : MarkedPolynomials) → IsNodeIn (ideal_by n fs) v → IsRootFor (all_positive v.variables) v root →
    StartsAt n fs root
start_of_root n fs v root h r = record {
  inside = node.fan.ideal;
  first = record {
    variables = node.variables;
    reduced = (marked_bases_are_reduced.at_order MonomialOrder.deglex n fs root.items node.fan.ideal (reduced_in n (all_positive n) fs root node)).1 marks;
    arranged = node.basis.arranged;
    marked = marks;
    inside = λ b c. node.basis.reduced.basis.members b c;
    back = λ f c. generated.1.inside f (member-generator n fs f c);
  };
}
  where
    node : IsNodeIn (ideal_by n fs) root
    node = node_moved (fan_of (all_positive v.variables) v) (ideal_by n fs) root (subst (λ m. SameFan (fan_of (all_positive m) v) (ideal_by n fs))
        (sym h.variables) (back_fan (ideal_by n fs) (fan_of (all_positive n) v) (own_fan (ideal_by n fs) v h))) r.basis

    generated : AreInVariables n (polys root.items) × AreSameIdeal n fs (polys root.items)
    generated = only_ideals_count.generated n fs root.items node.fan.ideal (reduced_in n (all_positive n) fs root node)

    marks : AreMarked IsDeglexBelow root.items
    marks = weight_marks n root.items (λ b c x k. variables_of_member n fs b.poly node.fan.ideal (node.basis.reduced.basis.members b c) x k)
        (λ b c. in_ring_of n b.head (node.basis.arranged.canonical b c).head)
        (subst (λ m. AreMarked (IsWeightedBelow (gains (replicate m (pos 1)))) root.items) h.variables r.by_root.basis.marked)

-- ---- the list

-- what is left before the first basis is the list of all
pub all_bases_in : (n : ℕ) (k : Region) (fs : List Terms) (root : MarkedPolynomials) (nodes : List MarkedPolynomials) → StartsIn n k fs root →
    Leaves IsBefore (IsParent k) Before root 0 nodes → AreAllBasesIn n k fs nodes
all_bases_in n k fs root nodes s left = record {
  only = λ x j. node_given_in n k fs x (from x (list.only x j));
  all = λ x g. list.all x (into x (given_in_node n k fs x s.node.fan.ideal s.node.fan.region g));
  once = list.once;
  root = root;
  listed = list.all root mine;
  by_root = s.by_root;
  is_root = top;
  paths = whole.paths;
  lead = whole.lead;
  rises = whole.rises;
}
  where
    mine : IsNode k root
    mine = own k (ideal_within n fs k) root refl s.node

    top : IsRoot (IsParent k) root
    top = (bases_make_a_tree.root k root mine).1 (root_marks n k fs root s mine)

    whole : IsWholeList IsBefore (IsParent k) root nodes
    whole = whole_below IsBefore (IsParent k) before_strict (upward_tree k) root (no_loop-rank (IsParent k) (rank k) (upward_falls k) root) nodes left

    list : IsListOfBases k root nodes
    list = list_of_bases k root root nodes mine mine top whole

    into : (x : MarkedPolynomials) → IsNodeIn (ideal_within n fs k) x → IsNodeIn (fan_of k root) x
    into x h = node_moved (ideal_within n fs k) (fan_of k root) x (own_fan (ideal_within n fs k) root s.node) h

    from : (x : MarkedPolynomials) → IsNodeIn (fan_of k root) x → IsNodeIn (ideal_within n fs k) x
    from x h = node_moved (fan_of k root) (ideal_within n fs k) x (back_fan (ideal_within n fs k) (fan_of k root) (own_fan (ideal_within n fs k) root s.node)) h

pub all_bases_from : (n : ℕ) (fs : List Terms) (root : MarkedPolynomials) (nodes : List MarkedPolynomials) → AreInVariables n fs → root.variables ≡ n →
    IsReducedBasisFor n fs IsDeglexBelow root.items → AreArranged n root.items → Leaves IsBefore (IsParent (all_positive n)) Before root 0 nodes →
    AreAllBases n fs nodes
all_bases_from n fs root nodes v e r a left = all_bases_in n (all_positive n) fs root nodes (first_in n fs root v e r a) left

-- ---- weights

-- all positive vectors are the region of a list
in_region : (n : ℕ) (w : List ℤ) → length w ≡ n → All (λ k. pos 0 <ℤ k) w → IsInRegion n (all_positive n) w
in_region n w l p = record { width = l; positive = p; rows = All-nil _ }

region_given : (n : ℕ) (k : Region) (fs : List Terms) (bs : List MarkedPolynomial) → AreInVariables n fs → IsRegion n k → IsBasisInRegion n fs k bs →
    IsGivenIn n k fs (record { variables = n; items = bs })
region_given n k fs bs v r b = node_given_in n k fs (record { variables = n; items = bs }) (record {
  fan = record { ideal = v; region = r };
  variables = refl;
  basis = b;
})

monomial_in : (n : ℕ) (k : Region) (fs : List Terms) (list : List MarkedPolynomials) (w : List ℤ) → AreInVariables n fs → AreAllBasesIn n k fs list →
    IsRegion n k → IsInRegion n k w → IsMonomialAt n fs w → (x : MarkedPolynomials) × Among list x × IsReducedBasis n fs (gains w) x.items ×
    ((y : MarkedPolynomials) → Among list y → IsReducedBasis n fs (gains w) y.items → x ≡ y)
monomial_in n k fs list w v all g l m = at ((monomial_ideals_are_of_bases n k fs w v l).0 m)
  where
    at : ((bs : List MarkedPolynomial) × IsBasisInRegion n fs k bs × IsReducedBasis n fs (gains w) bs) →
        (x : MarkedPolynomials) × Among list x × IsReducedBasis n fs (gains w) x.items × ((y : MarkedPolynomials) → Among list y →
        IsReducedBasis n fs (gains w) y.items → x ≡ y)
    at (bs, b, r) = (record { variables = n; items = bs }, all.all (record { variables = n; items = bs }) (region_given n k fs bs v g b), r, one)
      where
        one : (y : MarkedPolynomials) → Among list y → IsReducedBasis n fs (gains w) y.items → record { variables = n; items = bs } ≡ y
        one y j s =
            let h = all.only y j in
            let same : bs ≡ y.items = arranged_equal n bs y.items b.arranged h.arranged (unique_by_weight n fs (gains w) bs y.items r s) in
            ap (λ cs. record { variables = n; items = cs }) same ∙ ap (λ m. record { variables = m; items = y.items }) (sym h.variables)

cones_in : (n : ℕ) (k : Region) (fs : List Terms) (list : List MarkedPolynomials) (w : List ℤ) → AreInVariables n fs → AreAllBasesIn n k fs list →
    IsRegion n k → IsInRegion n k w → (x : MarkedPolynomials) × Among list x × IsInClosedCone w x.items
cones_in n k fs list w v all g l = at (weights_have_bases n k fs w v l)
  where
    at : ((bs : List MarkedPolynomial) × IsBasisInRegion n fs k bs × AreMarked (IsWeightedBelow (gains w)) bs × IsInClosedCone w bs) →
        (x : MarkedPolynomials) × Among list x × IsInClosedCone w x.items
    at (bs, b, m, c) = (record { variables = n; items = bs }, all.all (record { variables = n; items = bs }) (region_given n k fs bs v g b), c)

-- ---- term orders

orders : (n : ℕ) (fs : List Terms) (list : List MarkedPolynomials) (less : Exponents → Exponents → Bool) → AreInVariables n fs → AreAllBases n fs list →
    IsTermOrder n (below_by less) → (x : MarkedPolynomials) × Among list x × IsReducedBasisFor n fs (below_by less) x.items × ((y : MarkedPolynomials) →
    Among list y → IsReducedBasisFor n fs (below_by less) y.items → x ≡ y)
orders n fs list less v all t = (x, all.all x given, found.2, one)
  where
    found : (bs : List MarkedPolynomial) × IsMarkedReducedBasis n fs bs × IsReducedBasisFor n fs (below_by less) bs × ((cs : List MarkedPolynomial) →
        IsMarkedReducedBasis n fs cs → IsReducedBasisFor n fs (below_by less) cs → bs ≡ cs)
    found = term_orders_have_bases n fs less v t

    x : MarkedPolynomials
    x = record { variables = n; items = found.0 }

    given : IsGivenByWeight n fs x
    given = region_given n (all_positive n) fs found.0 v (all_positive-region n) ((marked_bases_are_reduced.everywhere n fs found.0 v).1 found.1)

    one : (y : MarkedPolynomials) → Among list y → IsReducedBasisFor n fs (below_by less) y.items → x ≡ y
    one y j r =
        let g = all.only y j in
        let same : found.0 ≡ y.items = found.3 y.items (reduced_in n (all_positive n) fs y (given_node n fs y v g)) r in
        ap (λ cs. record { variables = n; items = cs }) same ∙ ap (λ k. record { variables = k; items = y.items }) (sym g.variables)

pub weights_are_served : WeightsAreServed
weights_are_served = record {
  exactly = λ n fs list x all. (all.only x, all.all x);
  monomial = λ n fs list w v all l p m. monomial_in n (all_positive n) fs list w v all (all_positive-region n) (in_region n w l p) m;
  cones = λ n fs list w v all l p. cones_in n (all_positive n) fs list w v all (all_positive-region n) (in_region n w l p);
  orders = orders;
}

pub regions_are_served : RegionsAreServed
regions_are_served = record {
  exactly = λ n k fs list x all. (all.only x, all.all x);
  monomial = λ n k fs list w v g all l m. monomial_in n k fs list w v all g l m;
  cones = λ n k fs list w v g all l. cones_in n k fs list w v all g l;
}
