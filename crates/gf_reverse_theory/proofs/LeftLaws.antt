-- What a walker has left, by whole paths.
-- To cite: advance_answers, advance_ends, top_seen_below.
use Rattle.std.proofs.Common.{ℕ, List, ◌++◌, ℤ, sym, subst, inl, inr}
use Rattle.gf_poly.specs.Marking.{MarkedPolynomials}
use Rattle.gf_reverse_search.specs.declared.mark.Mark.{Mark}
use Rattle.gf_reverse_search.specs.Path.{Leads}
use Rattle.gf_reverse_search.specs.Walk.{IsNext, IsDone}
use Rattle.gf_reverse_search.proofs.ListLaws.{leads_one}
use Rattle.gf_facets_theory.specs.Regions.{Region}
use Rattle.gf_facets_theory.specs.LexPositive.{IsBefore}
use Rattle.gf_reverse_theory.specs.Upward.{IsNodeIn, fan_of, IsNode, IsParent}
use Rattle.gf_reverse_theory.specs.Lists.{IsPathOf, IsLeftBasis, AnswersBasis}
use Rattle.gf_facets_theory.proofs.VectorOrder.{before_strict}
use Rattle.gf_reverse_search.proofs.FrontLaws.{precedes_on, precedes_off, left_over, left_under}
use Rattle.gf_reverse_theory.proofs.TreeLaws.{upward_tree, node_moved, own_fan}
use Rattle.gf_reverse_theory.proofs.ListLaws.{path_below, below_top, below_node}

-- ---- an advance, in whole paths
pub advance_answers : (k : Region) (top : MarkedPolynomials) (p r : List (List ℤ)) (old new : Mark (List ℤ)) (v here : MarkedPolynomials) (depth : ℕ) →
    IsNode k top → IsPathOf k top p → IsNodeIn (fan_of k v) top → (n : IsNext IsBefore (IsParent k) top old r v new here depth) →
    AnswersBasis k old p (p ++ r) v (p ++ n.path)
advance_answers k top p r old new v here depth h a same n = record {
  answer = whole;
  first = record { rest = n.path; path = whole; left = left_over IsBefore before_strict old p r n.path n.first.at_first };
  others = λ x m l. (let w = way x m l.rest l.path in elim (n.first.only l.rest (x, w) (left_under IsBefore before_strict old p r l.rest l.left)) [
    | inl e ↦ inl (leads_one (IsParent k) (upward_tree k) top n.path v x leads (subst (λ q. Leads (IsParent k) top q x) (sym e) w))
    | inr c ↦ inr (record { rest = l.rest; path = l.path; left = precedes_on IsBefore p n.path l.rest c })
  ]);
  stay = λ x m l. record {
    rest = l.rest;
    path = l.path;
    left = left_over IsBefore before_strict old p r l.rest (n.first.at_later l.rest (x, way x m l.rest l.path)
        (precedes_off IsBefore before_strict p n.path l.rest l.left));
  };
}
  where
    leads : Leads (IsParent k) top n.path v
    leads = subst (Leads (IsParent k) top n.path) (sym n.node) n.at.leads

    whole : IsPathOf k v (p ++ n.path)
    whole = path_below k top v p n.path a leads

    one_ideal : (x : MarkedPolynomials) → IsNodeIn (fan_of k v) x → IsNodeIn (fan_of k top) x
    one_ideal x m = node_moved (fan_of k v) (fan_of k top) x (own_fan (fan_of k v) top same) m

    way : (x : MarkedPolynomials) → IsNodeIn (fan_of k v) x → (q : List (List ℤ)) → IsPathOf k x (p ++ q) → Leads (IsParent k) top q x
    way x m q b = below_top k top x p q h (one_ideal x m) a b

-- nothing is left where it answers none
pub advance_ends : (k : Region) (top x : MarkedPolynomials) (p r : List (List ℤ)) (old new : Mark (List ℤ)) (here : MarkedPolynomials) (depth : ℕ) →
    IsNode k top → IsPathOf k top p → IsDone IsBefore (IsParent k) top old r new here depth → IsNodeIn (fan_of k top) x → IsLeftBasis k old p (p ++ r) x → ⊥
advance_ends k top x p r old new here depth h a d m l =
    d.none l.rest (x, below_top k top x p l.rest h m a l.path) (left_under IsBefore before_strict old p r l.rest l.left)

-- a top is a basis of the ideal of what is below it
pub top_seen_below : (k : Region) (top v : MarkedPolynomials) (q : List (List ℤ)) → IsNode k top → Leads (IsParent k) top q v → IsNodeIn (fan_of k v) top
top_seen_below k top v q h l = node_moved (fan_of k top) (fan_of k v) top (own_fan (fan_of k top) v (below_node (fan_of k top) top q v h l)) h
