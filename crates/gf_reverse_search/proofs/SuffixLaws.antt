-- What follows a node in the list is what is left once the node is listed; and a node has one root.
-- To cite: suffix, stands_after.
use Rattle.std.proofs.Common.{◌≡◌, ℕ, suc, zero, ◌+◌, ◌≤◌, List, [], ◌∷◌, ◌++◌, sym, ap, inl, inr, subst, ◌∙◌, length, length-append, arith}
use Rattle.gf_reverse_search.specs.declared.mark.Mark.TheVariants.{Before, Listed}
use Rattle.gf_reverse_search.specs.Path.{IsStrictOrder, IsTree, Leads, Precedes, IsRoot}
use Rattle.gf_reverse_search.specs.Standing.{StandsBelow}
use Rattle.gf_reverse_search.specs.Listing.{Among, Rises, LeadTo, Lists}
use Rattle.gf_reverse_search.specs.Whole.{IsRootOf, IsRootAt, StandsAfter}
use Rattle.gf_reverse_search.proofs.LeftLaws.{left_from_open}
use Rattle.gf_reverse_search.proofs.ClimbLaws.{last_step}
use Rattle.gf_reverse_search.proofs.ListLaws.{precedes_itself, precedes_trans, leads_one, lists_of}

module _ {N L : Type 0} (lt : L → L → Type 0) (up : N → L → N → Type 0) (strict : IsStrictOrder lt) (tree : IsTree up) (top x : N) (p : List L)
    (way : Leads up top p x) where
  record Tail (ps : List (List L)) (nodes : List N) : Type 0 where
    front : List N
    rest : List N
    paths : List (List L)
    whole : nodes ≡ front ++ x ∷ rest
    lead : LeadTo up top paths rest
    rises : Rises lt paths
    covers : (q : List L) → Among ps q → Precedes lt p q → Among paths q
    only : (q : List L) → Among paths q → Precedes lt p q

  tail_at : (ps : List (List L)) (nodes : List N) → LeadTo up top ps nodes → Rises lt ps → Among ps p → Tail ps nodes
  tail_at [] nodes lead rises j = absurd j
  tail_at (r ∷ ps) [] lead rises j = absurd lead
  tail_at (r ∷ ps) (y ∷ ys) lead rises (inl e) = record {
    front = [];
    rest = ys;
    paths = ps;
    whole = ap (λ z. z ∷ ys) (leads_one up tree top p y x (subst (λ z. Leads up top z y) e lead.0) way);
    lead = lead.1;
    rises = rises.1;
    covers = λ q j h. elim j [ inl f ↦ absurd (precedes_itself lt strict p (subst (λ z. Precedes lt p z) (sym f ∙ e) h)) | inr i ↦ i ];
    only = λ q j. subst (λ z. Precedes lt z q) e (rises.0 q j);
  }
  tail_at (r ∷ ps) (y ∷ ys) lead rises (inr j) =
      let t = tail_at ps ys lead.1 rises.1 j in
      record {
        front = y ∷ t.front;
        rest = t.rest;
        paths = t.paths;
        whole = ap (λ z. y ∷ z) t.whole;
        lead = t.lead;
        rises = t.rises;
        covers = λ q k h. elim k [
          | inl f ↦ absurd (precedes_itself lt strict p (precedes_trans lt strict p r p (subst (λ z. Precedes lt p z) (sym f) h) (rises.0 p j)))
          | inr i ↦ t.covers q i h
        ];
        only = t.only;
      }

  pub record Suffix (nodes : List N) : Type 0 where
    pub front : List N
    pub rest : List N
    pub whole : nodes ≡ front ++ x ∷ rest
    pub lists : Lists lt up top Listed p rest

  -- the whole list has the node at p, and then what is left once p is listed
  pub suffix : (nodes : List N) → Lists lt up top Before [] nodes → Suffix nodes
  suffix nodes l =
      let t = tail_at l.paths nodes l.lead l.rises (l.all p (x, way) (left_from_open lt strict Before [] p tt)) in
      record {
        front = t.front;
        rest = t.rest;
        whole = t.whole;
        lists = record {
          paths = t.paths;
          lead = t.lead;
          rises = t.rises;
          all = λ q path h. t.covers q (l.all q path (left_from_open lt strict Before [] q tt)) h;
          only = t.only;
        };
      }

-- two ways up from a node end at one root, and are one
one_root : {N L : Type 0} (up : N → L → N → Type 0) (tree : IsTree up) (n : ℕ) (a b : N) (p q : List L) (x : N) → IsRoot up a → IsRoot up b → length p ≤ n →
    Leads up a p x → Leads up b q x → a ≡ b
one_root up tree n a b [] [] x at_a at_b small h k = h ∙ sym k
one_root up tree n a b [] (c ∷ q) x at_a at_b small h k =
    absurd (let s = last_step up b c q x k in at_a s.label s.above (subst (λ y. up y s.label s.above) (sym h) s.step))
one_root up tree n a b (c ∷ p) [] x at_a at_b small h k =
    absurd (let s = last_step up a c p x h in at_b s.label s.above (subst (λ y. up y s.label s.above) (sym k) s.step))
one_root up tree zero a b (c ∷ p) (d ∷ q) x at_a at_b small h k = absurd (omega arith)
one_root up tree (suc n) a b (c ∷ p) (d ∷ q) x at_a at_b small h k =
    let s = last_step up a c p x h in
    let t = last_step up b d q x k in
    let e : s.above ≡ t.above = tree.one_parent x s.above t.above s.label t.label s.step t.step in
    let l : length s.path ≤ n = (let w : suc (length p) ≡ length s.path + 1 = ap length s.whole ∙ length-append s.path (s.label ∷ []) in omega arith) in
    one_root up tree n a b s.path t.path s.above at_a at_b l s.leads (subst (λ y. Leads up b t.path y) (sym e) t.leads)

-- a walker that has listed a node and knows its depth goes on with the list of its root
pub stands_after : {T N L : Type 0} (lt : L → L → Type 0) (up : T → N → L → N → Type 0) (strict : IsStrictOrder lt) (t : T) → IsTree (up t) →
    (node found : N) (depth : ℕ) → IsRootAt (up t) node found depth → (root : N) → IsRootOf (up t) node root →
    StandsAfter lt up node root (record { tree = t; here = node; mark = Listed; depth = depth })
stands_after lt up strict t tree node found depth at root other =
    let e : found ≡ root = one_root (up t) tree (length at.path) found root at.path other.path node at.is_root other.is_root (omega arith)
    at.at.leads other.leads in
    let a : StandsBelow (up t) root at.path node depth = subst (λ r. StandsBelow (up t) r at.path node depth) e at.at in
    record {
      path = at.path;
      at = a;
      goes_on = λ nodes left.
          let s = suffix lt (up t) strict tree root node at.path a.leads nodes (lists_of lt (up t) strict tree root nodes left) in
          record { front = s.front; rest = s.rest; whole = s.whole; left = record { top = root; path = at.path; at = a; lists = s.lists } };
    }
