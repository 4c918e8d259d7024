-- An ideal has one list of its bases in a region, in the order of their paths.
-- To cite: list_for, one_list, list_exists. The rest are steps.
use Rattle.std.proofs.Common.{◌≡◌, List, [], ◌∷◌, length, ℤ, arith, refl, sym, ap, ◌∙◌, subst, inl, inr}
use Rattle.gf_exponents_theory.specs.Orders.{gains, IsWeightedBelow}
use Rattle.gf_exponents_theory.specs.SixOrders.{MonomialOrder}
use Rattle.gf_poly.specs.Marking.{MarkedPolynomial, MarkedPolynomials}
use Rattle.gf_ideal_theory.specs.Marks.{AreMarked}
use Rattle.gf_ideal_theory.specs.Bases.{IsReducedBasisFor}
use Rattle.gf_reverse_search.specs.Path.{IsStrictOrder, IsTree, IsRoot, Leads, Precedes}
use Rattle.gf_reverse_search.specs.Listing.{Among, Rises, LeadTo}
use Rattle.gf_reverse_search.specs.Whole.{IsFinite, IsWholeList}
use Rattle.gf_reverse_search.proofs.ListLaws.{leads_one, precedes_itself, precedes_trans}
use Rattle.gf_reverse_search.proofs.FinitenessLaws.{one_path, no_loop-rank, whole_below}
use Rattle.gf_facets_theory.specs.LexPositive.{IsBefore}
use Rattle.gf_facets_theory.specs.Facets.{IsInClosedCone}
use Rattle.gf_facets_theory.specs.MarkedBases.{IsBasisInRegion}
use Rattle.gf_facets_theory.proofs.VectorOrder.{before_strict}
use Rattle.gf_facets_theory.proofs.RegionLaws.{region-natural}
use Rattle.gf_bases_theory.proofs.RegionBases.{basis_at}
use Rattle.gf_bases_theory.proofs.LawsHold.{marked_bases_are_reduced}
use Rattle.gf_reverse_theory.specs.Upward.{Fan, IsFanOfIdeal, IsNodeIn, IsNode, IsParent, fan_of}
use Rattle.gf_reverse_theory.specs.Lists.{IsListFor, IsListOfBases}
use Rattle.gf_reverse_theory.proofs.RootLaws.{root_is_top}
use Rattle.gf_reverse_theory.proofs.TreeLaws.{SameFan, own_fan, back_fan, node_moved, rank, count, upward_tree, upward_falls, upward_finite}
use Rattle.gf_reverse_theory.proofs.ListLaws.{own, over_node, same_root, list_of_bases}

-- two lists that rise and have the same paths are one
module _ {L : Type 0} (lt : L → L → Type 0) (strict : IsStrictOrder lt) where
  rising_one : (ps qs : List (List L)) → Rises lt ps → Rises lt qs → ((p : List L) → Among ps p → Among qs p) → ((q : List L) → Among qs q → Among ps q) →
      ps ≡ qs
  rising_one [] [] r s there back = refl
  rising_one [] (q ∷ qs) r s there back = absurd (back q (inl refl))
  rising_one (p ∷ ps) [] r s there back = absurd (there p (inl refl))
  rising_one (p ∷ ps) (q ∷ qs) r s there back = ap (λ l. l ∷ ps) first ∙ ap (λ l. q ∷ l) (rising_one ps qs r.1 s.1 later_there later_back)
    where
      first : p ≡ q
      first = elim (there p (inl refl)) [
        | inl e ↦ sym e
        | inr j ↦ elim (back q (inl refl)) [
          | inl e ↦ e
          | inr k ↦ absurd (precedes_itself lt strict p (precedes_trans lt strict p q p (r.0 q k) (s.0 p j)))
        ]
      ]

      later_there : (x : List L) → Among ps x → Among qs x
      later_there x j = elim (there x (inr j)) [
        | inl e ↦ absurd (precedes_itself lt strict x (subst (λ z. Precedes lt z x) (first ∙ e) (r.0 x j)))
        | inr k ↦ k
      ]

      later_back : (x : List L) → Among qs x → Among ps x
      later_back x j = elim (back x (inr j)) [
        | inl e ↦ absurd (precedes_itself lt strict x (subst (λ z. Precedes lt z x) (sym first ∙ e) (s.0 x j)))
        | inr k ↦ k
      ]

-- the nodes at the same paths are the same; a node of a list has its path there, and a path its node
module _ {N L : Type 0} (up : N → L → N → Type 0) (tree : IsTree up) (root : N) where
  nodes_one : (ps : List (List L)) (xs ys : List N) → LeadTo up root ps xs → LeadTo up root ps ys → xs ≡ ys
  nodes_one [] [] [] h k = refl
  nodes_one [] [] (y ∷ ys) h k = absurd k
  nodes_one [] (x ∷ xs) ys h k = absurd h
  nodes_one (p ∷ ps) [] ys h k = absurd h
  nodes_one (p ∷ ps) (x ∷ xs) [] h k = absurd k
  nodes_one (p ∷ ps) (x ∷ xs) (y ∷ ys) h k = ap (λ z. z ∷ xs) (leads_one up tree root p x y h.0 k.0) ∙ ap (λ l. y ∷ l) (nodes_one ps xs ys h.1 k.1)

  node_at : (ps : List (List L)) (xs : List N) → LeadTo up root ps xs → (p : List L) → Among ps p → (x : N) × Among xs x × Leads up root p x
  node_at [] xs h p j = absurd j
  node_at (q ∷ ps) [] h p j = absurd h
  node_at (q ∷ ps) (y ∷ ys) h p (inl e) = (y, inl refl, subst (λ z. Leads up root z y) e h.0)
  node_at (q ∷ ps) (y ∷ ys) h p (inr j) = let n = node_at ps ys h.1 p j in (n.0, inr n.1, n.2)

  path_at : (ps : List (List L)) (xs : List N) → LeadTo up root ps xs → (x : N) → Among xs x → (p : List L) × Among ps p × Leads up root p x
  path_at [] [] h x j = absurd j
  path_at [] (y ∷ ys) h x j = absurd h
  path_at (q ∷ ps) [] h x j = absurd j
  path_at (q ∷ ps) (y ∷ ys) h x (inl e) = (q, inl refl, subst (Leads up root q) e h.0)
  path_at (q ∷ ps) (y ∷ ys) h x (inr j) = let n = path_at ps ys h.1 x j in (n.0, inr n.1, n.2)

-- the list of the ideal that v generates is that of F, where v is a basis of F
pub list_for : (F : Fan) (v : MarkedPolynomials) (nodes : List MarkedPolynomials) → IsNodeIn F v → IsListOfBases F.region v nodes → IsListFor F nodes
list_for F v nodes h l = record {
  only = λ x a. node_moved (fan_of F.region v) F x (back_fan F (fan_of F.region v) same) (l.only x a);
  all = λ x a. l.all x (node_moved F (fan_of F.region v) x same a);
  once = l.once;
  root = l.root;
  is_root = l.is_root;
  paths = l.paths;
  lead = l.lead;
  rises = l.rises;
}
  where
    same : SameFan F (fan_of F.region v)
    same = own_fan F v h

-- ---- there is one at most

-- what is listed in one is listed in the other, by the same path
same_paths : (F : Fan) (a b : List MarkedPolynomials) (root : MarkedPolynomials) (ps qs : List (List (List ℤ))) →
    ((x : MarkedPolynomials) → Among a x → Among b x) → LeadTo (IsParent F.region) root ps a → LeadTo (IsParent F.region) root qs b → (p : List (List ℤ)) →
    Among ps p → Among qs p
same_paths F a b root ps qs there lead leads p j =
    let u = IsParent F.region in
    let x = node_at u (upward_tree F.region) root ps a lead p j in
    let y = path_at u (upward_tree F.region) root qs b leads x.0 (there x.0 x.1) in
    subst (Among qs) (one_path u (upward_tree F.region) root (no_loop-rank u (rank F.region) (upward_falls F.region) root) (length y.0) y.0 p x.0 (omega arith)
    y.2 x.2) y.1

-- the root that a list goes down from is a basis of the ideal
root_node : (F : Fan) (nodes : List MarkedPolynomials) (l : IsListFor F nodes) (x : MarkedPolynomials) → Among nodes x → IsNodeIn F l.root
root_node F nodes l x j =
    let q = path_at (IsParent F.region) (upward_tree F.region) l.root l.paths nodes l.lead x j in
    over_node F l.root q.0 x (l.only x j) q.2

one_below : (F : Fan) (a b : List MarkedPolynomials) (la : IsListFor F a) (lb : IsListFor F b) → la.root ≡ lb.root → a ≡ b
one_below F a b la lb roots =
    let u = IsParent F.region in
    let lead : LeadTo u lb.root la.paths a = subst (λ r. LeadTo u r la.paths a) roots la.lead in
    let paths : la.paths ≡ lb.paths = rising_one IsBefore before_strict la.paths lb.paths la.rises lb.rises
    (same_paths F a b lb.root la.paths lb.paths (λ x j. lb.all x (la.only x j)) lead lb.lead)
    (same_paths F b a lb.root lb.paths la.paths (λ x j. la.all x (lb.only x j)) lb.lead lead) in
    nodes_one u (upward_tree F.region) lb.root lb.paths a b (subst (λ ps. LeadTo u lb.root ps a) paths lead) lb.lead

pub one_list : (F : Fan) (a b : List MarkedPolynomials) → IsListFor F a → IsListFor F b → a ≡ b
one_list F [] [] la lb = refl
one_list F [] (y ∷ ys) la lb = absurd (la.all y (lb.only y (inl refl)))
one_list F (x ∷ xs) [] la lb = absurd (lb.all x (la.only x (inl refl)))
one_list F (x ∷ xs) (y ∷ ys) la lb =
    one_below F (x ∷ xs) (y ∷ ys) la lb (same_root F la.root lb.root (root_node F (x ∷ xs) la x (inl refl)) la.is_root (root_node F (y ∷ ys) lb y (inl refl))
    lb.is_root)

-- ---- there is one

pub list_exists : (F : Fan) → IsFanOfIdeal F → (nodes : List MarkedPolynomials) × IsListFor F nodes
list_exists F fan = (finite.nodes, list_for F root finite.nodes node (list_of_bases F.region root root finite.nodes mine mine top whole))
  where
    found : (bs : List MarkedPolynomial) × IsBasisInRegion F.variables F.ideal F.region bs × AreMarked (IsWeightedBelow (gains F.region.root)) bs ×
        IsInClosedCone F.region.root bs
    found = basis_at F.variables F.region F.ideal F.region.root fan.ideal fan.region.root

    root : MarkedPolynomials
    root = record { variables = F.variables; items = found.0 }

    node : IsNodeIn F root
    node = record { fan = fan; variables = refl; basis = found.1 }

    mine : IsNode F.region root
    mine = own F.region F root refl node

    reduced : IsReducedBasisFor F.variables F.ideal (IsWeightedBelow (gains F.region.root)) found.0
    reduced = (marked_bases_are_reduced.at_order (MonomialOrder.weighted (gains F.region.root)) F.variables F.ideal found.0 fan.ideal
        (record { reduced = found.1.reduced; arranged = found.1.arranged })).1 found.2

    top : IsRoot (IsParent F.region) root
    top c u p = root_is_top F.variables F.ideal F.region F.region.root found.0 (region-natural F.variables F.region F.region.root fan.region.root)
        found.1.arranged.canonical reduced p.normal p.way.leads

    finite : IsFinite IsBefore (IsParent F.region) root (count F.region root)
    finite = upward_finite F.region root mine

    whole : IsWholeList IsBefore (IsParent F.region) root finite.nodes
    whole = whole_below IsBefore (IsParent F.region) before_strict (upward_tree F.region) root
        (no_loop-rank (IsParent F.region) (rank F.region) (upward_falls F.region) root) finite.nodes finite.leaves
