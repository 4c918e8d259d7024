-- The whole list below the root is the list of all bases, and each basis has one path.
-- To cite: own, path_exists, path_one, over_node, same_root, list_of_bases, root_above, root_own, path_below, below_top.
use Rattle.std.proofs.Common.{◌≡◌, ℕ, zero, suc, ◌≤◌, List, [], ◌∷◌, ◌++◌, length, ℤ, arith, refl, sym, subst, inl, inr}
use Rattle.gf_poly.specs.Marking.{MarkedPolynomials}
use Rattle.gf_reverse_search.specs.Path.{IsRoot, Leads}
use Rattle.gf_reverse_search.specs.Listing.{Among, LeadTo}
use Rattle.gf_reverse_search.specs.Whole.{IsWholeList}
use Rattle.gf_reverse_search.proofs.CutLaws.{leads_on}
use Rattle.gf_reverse_search.proofs.StepLaws.{Leads-snoc}
use Rattle.gf_reverse_search.proofs.ListLaws.{leads_one}
use Rattle.gf_reverse_search.proofs.FinitenessLaws.{one_path, no_loop-rank}
use Rattle.gf_facets_theory.specs.Regions.{Region}
use Rattle.gf_facets_theory.specs.LexPositive.{IsBefore}
use Rattle.gf_reverse_theory.specs.Upward.{Fan, IsNodeIn, IsParentIn, fan_of, IsNode, IsParent}
use Rattle.gf_reverse_theory.specs.Lists.{IsPathOf, IsListOfBases}
use Rattle.gf_reverse_theory.proofs.FanLaws.{parents_climb, roots_one}
use Rattle.gf_reverse_theory.proofs.TreeLaws.{rank, upward_falls, upward_tree, upward_nodes, node_moved, own_fan, parent_moved, above_node, down_node}

pub own : (k : Region) (F : Fan) (v : MarkedPolynomials) → F.region ≡ k → IsNodeIn F v → IsNode k v
own k F v e h = subst (λ r. IsNode r v) e (node_moved F (fan_of F.region v) v (own_fan F v h) h)

-- each basis has a path
path_within : (k : Region) (n : ℕ) (v : MarkedPolynomials) → IsNode k v → rank k v ≤ n → (p : List (List ℤ)) × IsPathOf k v p
path_within k zero v h small = elim (parents_climb (fan_of k v) v h) [
  | inr r ↦ ([], record { root = v; is_root = r; leads = refl })
  | inl p ↦ absurd (let f = upward_falls k v p.label p.node p.is in omega arith)
]
path_within k (suc n) v h small = elim (parents_climb (fan_of k v) v h) [
  | inr r ↦ ([], record { root = v; is_root = r; leads = refl })
  | inl p ↦ (let up = (upward_nodes k v p.label p.node p.is).1 in
      let q = path_within k n p.node up (let f = upward_falls k v p.label p.node p.is in omega arith) in
      (q.0 ++ p.label ∷ [], record { root = q.1.root; is_root = q.1.is_root; leads = Leads-snoc (IsParent k) q.1.root q.0 p.node p.label v q.1.leads p.is }))
]

pub path_exists : (k : Region) (v : MarkedPolynomials) → IsNode k v → (p : List (List ℤ)) × IsPathOf k v p
path_exists k v h = path_within k (rank k v) v h (omega arith)

-- what is below a basis of an ideal is a basis of it
pub below_node : (F : Fan) (s : MarkedPolynomials) (q : List (List ℤ)) (x : MarkedPolynomials) → IsNodeIn F s → Leads (IsParent F.region) s q x → IsNodeIn F x
below_node F s [] x h l = subst (IsNodeIn F) l h
below_node F s (c ∷ q) x h l = below_node F l.0 q x (down_node F l.0 c s l.1 h) l.2

-- and so is what is above
pub over_node : (F : Fan) (s : MarkedPolynomials) (q : List (List ℤ)) (x : MarkedPolynomials) → IsNodeIn F x → Leads (IsParent F.region) s q x → IsNodeIn F s
over_node F s [] x h l = subst (IsNodeIn F) (sym l) h
over_node F s (c ∷ q) x h l = above_node F l.0 c s l.1 (over_node F l.0 q x h l.2)

-- nothing is above it in its ideal
own_root : (F : Fan) (a : MarkedPolynomials) → IsNodeIn F a → IsRoot (IsParent F.region) a → IsRoot (IsParentIn F) a
own_root F a h r c u p = r c u (parent_moved F (fan_of F.region a) a c u (own_fan F a h) p)

-- the roots above two bases of one ideal are one
pub same_root : (F : Fan) (a b : MarkedPolynomials) → IsNodeIn F a → IsRoot (IsParent F.region) a → IsNodeIn F b → IsRoot (IsParent F.region) b → a ≡ b
same_root F a b h r m s = roots_one F a b h (own_root F a h r) m (own_root F b m s)

-- each basis has one path
pub path_one : (k : Region) (v : MarkedPolynomials) (p q : List (List ℤ)) → IsNode k v → IsPathOf k v p → IsPathOf k v q → p ≡ q
path_one k v p q h a b =
    let e = same_root (fan_of k v) b.root a.root (over_node (fan_of k v) b.root q v h b.leads) b.is_root (over_node (fan_of k v) a.root p v h a.leads)
    a.is_root in
    one_path (IsParent k) (upward_tree k) a.root (no_loop-rank (IsParent k) (rank k) (upward_falls k) a.root) (length p) p q v (omega arith) a.leads
    (subst (λ r. Leads (IsParent k) r q v) e b.leads)

-- the nodes at the paths are below the root
lead_below : (k : Region) (root : MarkedPolynomials) (ps : List (List (List ℤ))) (nodes : List MarkedPolynomials) (x : MarkedPolynomials) →
    LeadTo (IsParent k) root ps nodes → Among nodes x → (p : List (List ℤ)) × Leads (IsParent k) root p x
lead_below k root [] [] x l j = elim j [ ]
lead_below k root [] (y ∷ ys) x l j = absurd l
lead_below k root (p ∷ ps) [] x l j = absurd l
lead_below k root (p ∷ ps) (y ∷ ys) x l (inl e) = (p, subst (Leads (IsParent k) root p) e l.0)
lead_below k root (p ∷ ps) (y ∷ ys) x l (inr j) = lead_below k root ps ys x l.1 j

-- what is listed below the root are all bases of the ideal of any of them
pub list_of_bases : (k : Region) (root v : MarkedPolynomials) (nodes : List MarkedPolynomials) → IsNode k v → IsNodeIn (fan_of k v) root →
    IsRoot (IsParent k) root → IsWholeList IsBefore (IsParent k) root nodes → IsListOfBases k v nodes
list_of_bases k root v nodes h n r w = record {
  only = λ x j. (let q = lead_below k root w.paths nodes x w.lead j in below_node (fan_of k v) root q.0 x n q.1);
  all = λ x m. (let p = path_exists k x (own k (fan_of k v) x refl m) in
      let e = same_root (fan_of k v) p.1.root root (over_node (fan_of k v) p.1.root p.0 x m p.1.leads) p.1.is_root n r in
      w.all x p.0 (subst (λ s. Leads (IsParent k) s p.0 x) e p.1.leads));
  once = w.once;
  root = root;
  is_root = r;
  paths = w.paths;
  lead = w.lead;
  rises = w.rises;
}

-- ---- from the way up that a program finds

-- the root above a basis is a basis, of the same ideal
pub root_above : (k : Region) (v root : MarkedPolynomials) (p : List (List ℤ)) → IsNode k v → Leads (IsParent k) root p v → IsNodeIn (fan_of k v) root
root_above k v root p h l = over_node (fan_of k v) root p v h l

pub root_own : (k : Region) (v root : MarkedPolynomials) → IsNode k v → IsNodeIn (fan_of k v) root → IsNode k root
root_own k v root h m = own k (fan_of k v) root refl m

-- ---- paths through a node

-- the path of a basis below a top is that of the top and then the way down
pub path_below : (k : Region) (top x : MarkedPolynomials) (p q : List (List ℤ)) → IsPathOf k top p → Leads (IsParent k) top q x → IsPathOf k x (p ++ q)
path_below k top x p q a l = record { root = a.root; is_root = a.is_root; leads = leads_on (IsParent k) a.root p q top x a.leads l }

-- each prefix of a path is a path
path_prefix : (k : Region) (s x : MarkedPolynomials) (p q : List (List ℤ)) → Leads (IsParent k) s (p ++ q) x →
    (t : MarkedPolynomials) × Leads (IsParent k) s p t × Leads (IsParent k) t q x
path_prefix k s x [] q l = (s, refl, l)
path_prefix k s x (c ∷ p) q l = let r = path_prefix k l.0 x p q l.2 in (r.0, (l.0, l.1, r.1), r.2)

-- a basis whose path begins with that of a top is below the top
pub below_top : (k : Region) (top x : MarkedPolynomials) (p q : List (List ℤ)) → IsNode k top → IsNodeIn (fan_of k top) x → IsPathOf k top p →
    IsPathOf k x (p ++ q) → Leads (IsParent k) top q x
below_top k top x p q h m a b =
    let r = path_prefix k b.root x p q b.leads in
    let e = same_root (fan_of k top) b.root a.root (over_node (fan_of k top) b.root (p ++ q) x m b.leads) b.is_root
    (over_node (fan_of k top) a.root p top h a.leads) a.is_root in
    subst (λ t. Leads (IsParent k) t q x) (leads_one (IsParent k) (upward_tree k) a.root p r.0 top (subst (λ s. Leads (IsParent k) s p r.0) e r.1) a.leads) r.2
