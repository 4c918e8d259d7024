-- From any list of a tree's nodes to the list in path order, and the way up from each node.
-- To cite: finite_tree, whole_below, one_path, no_loop-rank.
use Rattle.std.proofs.Common.{◌≡◌, ℕ, suc, zero, ◌+◌, ◌<◌, ◌≤◌, List, [], ◌∷◌, ◌++◌, ◌⊎◌, length, refl, sym, ap, inl, inr, subst, ◌∙◌, arith, length-append}
use Rattle.gf_reverse_search.specs.declared.mark.Mark.TheVariants.{Before}
use Rattle.gf_reverse_search.specs.Path.{IsStrictOrder, IsTree, Leads, IsPath, Precedes, IsRoot}
use Rattle.gf_reverse_search.specs.Listing.{Among, Rises, LeadTo, Lists, Leaves}
use Rattle.gf_reverse_search.specs.Whole.{EachOnce, IsWholeList, Parent, IsFinite}
use Rattle.gf_reverse_search.proofs.LeftLaws.{left_from_open}
use Rattle.gf_reverse_search.proofs.StepLaws.{Leads-snoc}
use Rattle.gf_reverse_search.proofs.ClimbLaws.{last_step}
use Rattle.gf_reverse_search.proofs.ListLaws.{precedes_itself, precedes_trans, leads_one, lists_of}
use Rattle.gf_reverse_search.proofs.SuffixLaws.{suffix}
use Rattle.gf_reverse_search.proofs.CutLaws.{halves}

-- ---- lists of paths, sorted

module _ {L : Type 0} (lt : L → L → Type 0) (strict : IsStrictOrder lt) where
  pub precedes_total : (p q : List L) → Precedes lt p q ⊎ ((p ≡ q) ⊎ Precedes lt q p)
  precedes_total [] [] = inr (inl refl)
  precedes_total [] (b ∷ q) = inl tt
  precedes_total (a ∷ p) [] = inr (inr tt)
  precedes_total (a ∷ p) (b ∷ q) = elim (strict.total a b) [
    | inl h ↦ inl (inl h)
    | inr h ↦ elim h [
      | inl e ↦ elim (precedes_total p q) [
        | inl k ↦ inl (inr (e, k))
        | inr k ↦ elim k [ inl f ↦ inr (inl cc) | inr j ↦ inr (inr (inr (sym e, j))) ]
      ]
      | inr k ↦ inr (inr (inl k))
    ]
  ]

  -- the same paths, in order and each once
  record Sorted (ps : List (List L)) : Type 0 where
    sorted : List (List L)
    rises : Rises lt sorted
    covers : (q : List L) → Among ps q → Among sorted q
    only : (q : List L) → Among sorted q → Among ps q
    few : length sorted ≤ length ps

  insert : (p : List L) (qs : List (List L)) → Rises lt qs → Sorted (p ∷ qs)
  insert p [] rises = record { sorted = p ∷ []; rises = ((λ q j. absurd j), tt); covers = λ q j. j; only = λ q j. j; few = omega arith }
  insert p (q ∷ qs) rises = elim (precedes_total p q) [
    | inl h ↦ record {
      sorted = p ∷ q ∷ qs;
      rises = ((λ x j. elim j [ inl e ↦ subst (Precedes lt p) e h | inr k ↦ precedes_trans lt strict p q x h (rises.0 x k) ]), rises);
      covers = λ x j. j;
      only = λ x j. j;
      few = omega arith;
    }
    | inr h ↦ elim h [
      | inl e ↦ record {
        sorted = q ∷ qs;
        rises = rises;
        covers = λ x j. elim j [ inl f ↦ inl (sym e ∙ f) | inr k ↦ k ];
        only = λ x j. inr j;
        few = omega arith;
      }
      | inr h ↦ (let s = insert p qs rises.1 in record {
        sorted = q ∷ s.sorted;
        rises = ((λ x j. elim (s.only x j) [ inl e ↦ subst (Precedes lt q) e h | inr k ↦ rises.0 x k ]), s.rises);
        covers = λ x j. elim j [ inl e ↦ inr (s.covers x (inl e)) | inr k ↦ elim k [ inl e ↦ inl e | inr k ↦ inr (s.covers x (inr k)) ] ];
        only = λ x j. elim j [ inl e ↦ inr (inl e) | inr k ↦ elim (s.only x k) [ inl e ↦ inl e | inr k ↦ inr (inr k) ] ];
        few = (let f = s.few in omega arith);
      })
    ]
  ]

  sort : (ps : List (List L)) → Sorted ps
  sort [] = record { sorted = []; rises = tt; covers = λ q j. j; only = λ q j. j; few = omega arith }
  sort (p ∷ ps) =
      let s = sort ps in
      let t = insert p s.sorted s.rises in
      record {
        sorted = t.sorted;
        rises = t.rises;
        covers = λ x j. t.covers x (elim j [ inl e ↦ inl e | inr k ↦ inr (s.covers x k) ]);
        only = λ x j. elim (t.only x j) [ inl e ↦ inl e | inr k ↦ inr (s.only x k) ];
        few = (let f = s.few in let h = t.few in omega arith);
      }

-- ---- one path for each node

module _ {N L : Type 0} (up : N → L → N → Type 0) (tree : IsTree up) (top : N) (no_loop : (c : L) (q : List L) → Leads up top (c ∷ q) top → ⊥) where
  -- a node has one path below a top that isn't below itself
  pub one_path : (n : ℕ) (p q : List L) (x : N) → length p ≤ n → Leads up top p x → Leads up top q x → p ≡ q
  one_path n [] [] x small h k = refl
  one_path n [] (c ∷ q) x small h k = absurd (no_loop c q (subst (λ y. Leads up top (c ∷ q) y) (sym h) k))
  one_path n (c ∷ p) [] x small h k = absurd (no_loop c p (subst (λ y. Leads up top (c ∷ p) y) (sym k) h))
  one_path zero (c ∷ p) (b ∷ q) x small h k = absurd (omega arith)
  one_path (suc n) (c ∷ p) (b ∷ q) x small h k =
      let s = last_step up top c p x h in
      let t = last_step up top b q x k in
      let e1 : s.label ≡ t.label = tree.one_label x s.above t.above s.label t.label s.step t.step in
      let e2 : s.above ≡ t.above = tree.one_parent x s.above t.above s.label t.label s.step t.step in
      let l : length s.path ≤ n = (let w : suc (length p) ≡ length s.path + 1 = ap length s.whole ∙ length-append s.path (s.label ∷ []) in omega arith) in
      let e3 : s.path ≡ t.path = one_path n s.path t.path s.above l s.leads (subst (λ y. Leads up top t.path y) (sym e2) t.leads) in
      s.whole ∙ ap (λ y. y ++ s.label ∷ []) e3 ∙ ap (λ y. t.path ++ y ∷ []) e1 ∙ sym t.whole

-- a root isn't below itself
no_loop-root : {N L : Type 0} (up : N → L → N → Type 0) (root : N) → IsRoot up root → (c : L) (q : List L) → Leads up root (c ∷ q) root → ⊥
no_loop-root up root is_root c q h = let s = last_step up root c q root h in is_root s.label s.above s.step

module _ {N L : Type 0} (up : N → L → N → Type 0) (rank : N → ℕ) (falls : (v : N) (c : L) (u : N) → up v c u → rank u < rank v) where
  rank_below : (s : N) (q : List L) (x : N) → Leads up s q x → rank s + length q ≤ rank x
  rank_below s [] x h = (let e : rank s ≡ rank x = ap rank h in omega arith)
  rank_below s (c ∷ q) x h = (let f = falls h.0 c s h.1 in let w = rank_below h.0 q x h.2 in omega arith)

  -- where a rank falls on the way up, no node is below itself
  pub no_loop-rank : (top : N) (c : L) (q : List L) → Leads up top (c ∷ q) top → ⊥
  no_loop-rank top c q h = (let w = rank_below top (c ∷ q) top h in omega arith)

-- ---- the list below a node, as the whole list

module _ {N L : Type 0} (lt : L → L → Type 0) (up : N → L → N → Type 0) (strict : IsStrictOrder lt) (tree : IsTree up) (top : N) where
  among_nodes : (ps : List (List L)) (nodes : List N) → LeadTo up top ps nodes → (x : N) (q : List L) → Leads up top q x → Among ps q → Among nodes x
  among_nodes [] nodes lead x q h j = absurd j
  among_nodes (p ∷ ps) [] lead x q h j = absurd lead
  among_nodes (p ∷ ps) (y ∷ ys) lead x q h (inl e) = inl (leads_one up tree top q y x (subst (λ z. Leads up top z y) e lead.0) h)
  among_nodes (p ∷ ps) (y ∷ ys) lead x q h (inr j) = inr (among_nodes ps ys lead.1 x q h j)

  path_among : (ps : List (List L)) (nodes : List N) → LeadTo up top ps nodes → (x : N) → Among nodes x → (q : List L) × Among ps q × Leads up top q x
  path_among [] [] lead x j = absurd j
  path_among [] (y ∷ ys) lead x j = absurd lead
  path_among (p ∷ ps) [] lead x j = absurd j
  path_among (p ∷ ps) (y ∷ ys) lead x (inl e) = (p, inl refl, subst (λ z. Leads up top p z) e lead.0)
  path_among (p ∷ ps) (y ∷ ys) lead x (inr j) = let w = path_among ps ys lead.1 x j in (w.0, inr w.1, w.2)

  module _ (no_loop : (c : L) (q : List L) → Leads up top (c ∷ q) top → ⊥) where
    each_once : (ps : List (List L)) (nodes : List N) → LeadTo up top ps nodes → Rises lt ps → EachOnce nodes
    each_once [] [] lead rises = tt
    each_once [] (y ∷ ys) lead rises = absurd lead
    each_once (p ∷ ps) [] lead rises = tt
    each_once (p ∷ ps) (y ∷ ys) lead rises = (
      (λ j.
          let w = path_among ps ys lead.1 y j in
          let e : p ≡ w.0 = one_path up tree top no_loop (length p) p w.0 y (omega arith) lead.0 w.2 in
          precedes_itself lt strict p (subst (λ z. Precedes lt p z) (sym e) (rises.0 w.0 w.1))),
      each_once ps ys lead.1 rises.1,
    )

    lists_whole : (nodes : List N) → Lists lt up top Before [] nodes → IsWholeList lt up top nodes
    lists_whole nodes l = record {
      paths = l.paths;
      lead = l.lead;
      rises = l.rises;
      all = λ x q h. among_nodes l.paths nodes l.lead x q h (l.all q (x, h) (left_from_open lt strict Before [] q tt));
      once = each_once l.paths nodes l.lead l.rises;
    }

  -- what a walker that stands before a node has left is the whole list below it
  pub whole_below : ((c : L) (q : List L) → Leads up top (c ∷ q) top → ⊥) → (nodes : List N) → Leaves lt up Before top 0 nodes → IsWholeList lt up top nodes
  whole_below no_loop nodes left = lists_whole no_loop nodes (lists_of lt up strict tree top nodes left)

-- ---- from a list of the nodes below a root

module _ {N L : Type 0} (lt : L → L → Type 0) (up : N → L → N → Type 0) (strict : IsStrictOrder lt) (tree : IsTree up) (root : N)
    (is_root : IsRoot up root) where
  record Paths (xs : List N) : Type 0 where
    paths : List (List L)
    covers : (x : N) (q : List L) → Among xs x → Leads up root q x → Among paths q
    only : (q : List L) → Among paths q → IsPath up root q
    long : length paths ≡ length xs

  paths_of : (xs : List N) → ((x : N) → Among xs x → (q : List L) × Leads up root q x) → Paths xs
  paths_of [] way = record { paths = []; covers = λ x q j h. absurd j; only = λ q j. absurd j; long = refl }
  paths_of (x ∷ xs) way =
      let w = way x (inl refl) in
      let r = paths_of xs (λ y j. way y (inr j)) in
      record {
        paths = w.0 ∷ r.paths;
        covers = λ y q j h. elim j [
          | inl e ↦ inl (one_path up tree root (no_loop-root up root is_root) (length w.0) w.0 q y (omega arith) (subst (λ z. Leads up root w.0 z) e w.1) h)
          | inr k ↦ inr (r.covers y q k h)
        ];
        only = λ q j. elim j [ inl e ↦ (x, subst (λ p. Leads up root p x) e w.1) | inr k ↦ r.only q k ];
        long = ap suc r.long;
      }

  record Nodes (ps : List (List L)) : Type 0 where
    nodes : List N
    lead : LeadTo up root ps nodes
    long : length nodes ≡ length ps

  nodes_of : (ps : List (List L)) → ((q : List L) → Among ps q → IsPath up root q) → Nodes ps
  nodes_of [] paths = record { nodes = []; lead = tt; long = refl }
  nodes_of (p ∷ ps) paths =
      let w = paths p (inl refl) in
      let r = nodes_of ps (λ q j. paths q (inr j)) in
      record { nodes = w.0 ∷ r.nodes; lead = (w.1, r.lead); long = ap suc r.long }

  -- from any list of the nodes below the root, each with a way up: the list in path order
  whole_list : (xs : List N) → ((x : N) → Among xs x → (q : List L) × Leads up root q x) → ((x : N) (q : List L) → Leads up root q x → Among xs x) →
      (nodes : List N) × Lists lt up root Before [] nodes × (length nodes ≤ length xs)
  whole_list xs way all =
      let ps = paths_of xs way in
      let s = sort lt strict ps.paths in
      let ns = nodes_of s.sorted (λ q j. ps.only q (s.only q j)) in (
        ns.nodes,
        record {
          paths = s.sorted;
          lead = ns.lead;
          rises = s.rises;
          all = λ q path left. s.covers q (ps.covers path.0 q (all path.0 q path.1) path.1);
          only = λ q j. left_from_open lt strict Before [] q tt;
        },
        (let a = ns.long in let b = s.few in let c = ps.long in omega arith),
      )

-- ---- below any node

-- what the root's whole list says of a node below it: the node and its subtree are a stretch of the list
below : {N L : Type 0} (lt : L → L → Type 0) (up : N → L → N → Type 0) (strict : IsStrictOrder lt) (tree : IsTree up) (root top : N) (r : List L)
    (nodes : List N) (most : ℕ) → Lists lt up root Before [] nodes → length nodes ≤ most → Leads up root r top → IsFinite lt up top most
below lt up strict tree root top r nodes most l few way =
    let s = suffix lt up strict tree root top r way nodes l in
    let h = halves lt up strict tree root top r way s.rest s.lists in
    record {
      nodes = top ∷ h.front;
      leaves = record { top = top; path = []; at = record { leads = refl; long = refl }; lists = h.under };
      few = (let a : length nodes ≡ length s.front + length (top ∷ s.rest) = ap length s.whole ∙ length-append s.front (top ∷ s.rest) in
          let b : length s.rest ≡ length h.front + length h.back = ap length h.whole ∙ length-append h.front h.back in
          omega arith);
    }

-- ---- the way up

-- a node's root
record RootAbove {N L : Type 0} (up : N → L → N → Type 0) (is_node : N → Type 0) (v : N) : Type 0 where
  root : N
  is_root : IsRoot up root
  at_node : is_node root
  path : List L
  leads : Leads up root path v

module _ {N L : Type 0} (up : N → L → N → Type 0) (is_node : N → Type 0) (down : (v : N) (c : L) (u : N) → up v c u → is_node u → is_node v)
    (above : (v : N) (c : L) (u : N) → up v c u → is_node v → is_node u) where
  leads_node : (s : N) (q : List L) (x : N) → is_node s → Leads up s q x → is_node x
  leads_node s [] x h k = subst is_node k h
  leads_node s (c ∷ q) x h k = leads_node k.0 q x (down k.0 c s k.1 h) k.2

  module _ (rank : N → ℕ) (falls : (v : N) (c : L) (u : N) → is_node v → up v c u → rank u < rank v) (climbs : (v : N) → is_node v →
      Parent up v ⊎ IsRoot up v) where
    -- the way up ends, by a rank that falls
    root_above : (n : ℕ) (v : N) → is_node v → rank v ≤ n → RootAbove up is_node v
    root_above zero v node small = elim (climbs v node) [
      | inr r ↦ record { root = v; is_root = r; at_node = node; path = []; leads = refl }
      | inl p ↦ absurd (let f = falls v p.label p.node node p.is in omega arith)
    ]
    root_above (suc n) v node small = elim (climbs v node) [
      | inr r ↦ record { root = v; is_root = r; at_node = node; path = []; leads = refl }
      | inl p ↦ (let w = root_above n p.node (above v p.label p.node p.is node) (let f = falls v p.label p.node node p.is in omega arith) in
          record {
            root = w.root;
            is_root = w.is_root;
            at_node = w.at_node;
            path = w.path ++ p.label ∷ [];
            leads = Leads-snoc up w.root w.path p.node p.label v w.leads p.is;
          })
    ]

    -- the nodes hang together under one root, and are listed: what is below any of them can be listed
    pub finite_tree : (lt : L → L → Type 0) → IsStrictOrder lt → IsTree up → (xs : List N) → ((x : N) → is_node x → Among xs x) →
        ((x : N) → Among xs x → is_node x) → ((a b : N) → is_node a → IsRoot up a → is_node b → IsRoot up b → a ≡ b) → (top : N) → is_node top →
        IsFinite lt up top (length xs)
    finite_tree lt strict tree xs all are one_root top node =
        let r = root_above (rank top) top node (omega arith) in
        let w = whole_list lt up strict tree r.root r.is_root xs
        (λ x j. let s = root_above (rank x) x (are x j) (omega arith) in
        (s.path, subst (λ y. Leads up y s.path x) (one_root s.root r.root s.at_node s.is_root r.at_node r.is_root) s.leads))
        (λ x q h. all x (leads_node r.root q x r.at_node h)) in
        below lt up strict tree r.root top r.path w.0 (length xs) w.1 w.2 r.leads
