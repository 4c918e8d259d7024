-- Rows of bases: how they begin, what a call leaves, refusals.
-- To cite: row_of, left_at_start, start_leaves, left_as_resumed, resumed_as, left_after, row_step, left_at_end, row_end, left_kept, row_kept,
-- front_refused, row_early, early_moved, early_refused.
use Rattle.std.specs.Global.{Global}
use Rattle.std.proofs.Common.{◌≡◌, ◌⊎◌, ℕ, suc, ◌+◌, ◌-◌, ◌*◌, ◌≤◌, List, [], ◌∷◌, ◌++◌, ℤ, length, map, Option, Some, None, Result, Ok, Err, arith, refl, sym}
use Rattle.std.proofs.Common.{ap, subst, inl, inr, append-nil}
use Rattle.gf_poly.specs.Marking.{MarkedPolynomials}
use Rattle.gf_reverse_search.specs.declared.mark.Mark.{Mark}
use Rattle.gf_reverse_search.specs.declared.mark.Mark.TheVariants.{Before, After, Listed, Finished}
use Rattle.gf_reverse_search.specs.declared.expand.Piece.{Piece}
use Rattle.gf_reverse_search.specs.declared.expand.Piece.TheVariants.{Ready, Under, Refused}
use Rattle.gf_reverse_search.specs.Path.{Leads, Precedes}
use Rattle.gf_reverse_search.specs.Left.{IsLeft}
use Rattle.gf_reverse_search.specs.Standing.{Standing}
use Rattle.gf_reverse_search.specs.Listing.{Among, Rises, LeadTo, Leaves, IsLeftAt, IsFirstOf}
use Rattle.gf_reverse_search.specs.Pieces.{PiecesLeave}
use Rattle.gf_reverse_search.proofs.FrontLaws.{precedes_on}
use Rattle.gf_reverse_search.proofs.SearchLaws.{listed_here}
use Rattle.gf_reverse_search.proofs.ListLaws.{gives, precedes_itself, precedes_trans}
use Rattle.gf_waves.specs.Frontier.{Frontier, AreRefusals, IsFrontRefused}
use Rattle.gf_waves.specs.Wave.{IsCall}
use Rattle.gf_facets_theory.specs.LexPositive.{IsBefore}
use Rattle.gf_facets_theory.specs.Regions.{Region}
use Rattle.gf_facets_theory.proofs.VectorOrder.{before_strict}
use Rattle.gf_reverse_theory.specs.Upward.{Fan, IsNode, IsNodeIn, IsParent, fan_of}
use Rattle.gf_reverse_theory.specs.Lists.{IsPathOf}
use Rattle.gf_reverse_theory.proofs.TreeLaws.{SameFan, node_moved, count, upward_tree, upward_finite, above_node, down_node, own_fan, back_fan}
use Rattle.gf_reverse_theory.proofs.ListLaws.{own, path_exists, path_one, path_below, root_above, root_own}
use Rattle.gf_tree.specs.declared.tree.BasisTree.{BasisTree}
use Rattle.gf_tree.specs.TreeError.{TreeError}
use Rattle.gf_tree.specs.TreeError.TheVariants.{Memory}
use Rattle.gf_tree.specs.Refusals.{IsTreeRefusal, IsCallRefusal}
use Rattle.gf_tree.specs.Walks.{Walk, AreLeft, HasListLeft, walk_at}
use Rattle.gf_tree.proofs.RefusalLaws.{refusal_moved, call_refused}
use Rattle.gf_subtree.specs.Rows.{Row, up_in, RefusesWalker, HavePaths, LeaveInOrder, IsNotBehind, AreLeftIn, IsOfIdeal, AreAmong, HasRowLeft, first_row}
use Rattle.gf_subtree.specs.Answers.{IsSameList, IsNextRow, IsRowEnd, IsRowKept, IsNotLater, IsRefusedEarly, IsResumedAs}
use Rattle.gf_subtree.proofs.RowLaws.{AreAmongAfter, below, above, call_among}
use Rattle.gf_subtree.proofs.OrderLaws.{AreSorted, IsInOrderAfter, call_order}

-- ---- of the ideal, along the tree

of_ideal_down : (F : Fan) (pairs : ℕ) (t : BasisTree) (v u : MarkedPolynomials) (c : List ℤ) → up_in t v c u → IsOfIdeal F pairs t u → IsOfIdeal F pairs t v
of_ideal_down F pairs t v u c h i = record {
  region = i.region;
  pairs = i.pairs;
  basis = down_node F v c u (subst (λ (k : Region). IsParent k v c u) i.region h) i.basis;
}

of_ideal_rise : (F : Fan) (pairs : ℕ) (t : BasisTree) (v u : MarkedPolynomials) (c : List ℤ) → up_in t v c u → IsOfIdeal F pairs t v → IsOfIdeal F pairs t u
of_ideal_rise F pairs t v u c h i = record {
  region = i.region;
  pairs = i.pairs;
  basis = above_node F v c u (subst (λ (k : Region). IsParent k v c u) i.region h) i.basis;
}

-- ---- whole paths

have_paths : (k : Region) (top : MarkedPolynomials) (p : List (List ℤ)) (ps : List (List (List ℤ))) (nodes : List MarkedPolynomials) → IsPathOf k top p →
    LeadTo (IsParent k) top ps nodes → HavePaths k (map (λ q. p ++ q) ps) nodes
have_paths k top p [] [] a l = tt
have_paths k top p [] (x ∷ xs) a l = absurd l
have_paths k top p (q ∷ qs) [] a l = absurd l
have_paths k top p (q ∷ qs) (x ∷ xs) a l = (path_below k top x p q a l.0, have_paths k top p qs xs a l.1)

among_behind : (p : List (List ℤ)) (ps : List (List (List ℤ))) (r : List (List ℤ)) → Among (map (λ q. p ++ q) ps) r →
    (q : List (List ℤ)) × Among ps q × (p ++ q ≡ r)
among_behind p [] r j = absurd j
among_behind p (q ∷ qs) r (inl e) = (q, inl refl, e)
among_behind p (q ∷ qs) r (inr j) = (let a = among_behind p qs r j in (a.0, inr a.1, a.2))

rises_behind : (p : List (List ℤ)) (ps : List (List (List ℤ))) → Rises IsBefore ps → Rises IsBefore (map (λ q. p ++ q) ps)
rises_behind p [] h = tt
rises_behind p (q ∷ qs) h = (
  λ r j. (let a = among_behind p qs r j in subst (Precedes IsBefore (p ++ q)) a.2 (precedes_on IsBefore p q a.0 (h.0 a.0 a.1))),
  rises_behind p qs h.1,
)

-- the whole paths of what a walker has left
record HaveRisingPaths (k : Region) (nodes : List MarkedPolynomials) : Type 0 where
  paths : List (List (List ℤ))
  lead : HavePaths k paths nodes
  rises : Rises IsBefore paths

rising_paths : (k : Region) (m : Mark (List ℤ)) (here : MarkedPolynomials) (d : ℕ) (nodes : List MarkedPolynomials) → IsNode k here →
    Leaves IsBefore (IsParent k) m here d nodes → HaveRisingPaths k nodes
rising_paths k m here d nodes h l =
    let p = path_exists k l.top (root_own k here l.top h (root_above k here l.top l.path h l.at.leads)) in
    record {
      paths = map (λ q. p.0 ++ q) l.lists.paths;
      lead = have_paths k l.top p.0 l.lists.paths nodes p.1 l.lists.lead;
      rises = rises_behind p.0 l.lists.paths l.lists.rises;
    }

-- ---- bases in the order of their paths

path_at : (k : Region) (ps : List (List (List ℤ))) (xs : List MarkedPolynomials) → HavePaths k ps xs → (x : MarkedPolynomials) → Among xs x →
    (p : List (List ℤ)) × Among ps p × IsPathOf k x p
path_at k [] [] h x j = absurd j
path_at k [] (y ∷ ys) h x j = absurd h
path_at k (q ∷ ps) [] h x j = absurd h
path_at k (q ∷ ps) (y ∷ ys) h x (inl e) = (q, inl refl, subst (λ (z : MarkedPolynomials). IsPathOf k z q) e h.0)
path_at k (q ∷ ps) (y ∷ ys) h x (inr j) = (let a = path_at k ps ys h.1 x j in (a.0, inr a.1, a.2))

paths_sorted : (k : Region) (ps : List (List (List ℤ))) (xs : List MarkedPolynomials) → HavePaths k ps xs → Rises IsBefore ps → AreSorted (IsNotBehind k) xs
paths_sorted k [] [] h r = tt
paths_sorted k [] (x ∷ xs) h r = absurd h
paths_sorted k (p ∷ ps) [] h r = absurd h
paths_sorted k (p ∷ ps) (x ∷ xs) h r = (
  record { path = p; other = p; of_path = h.0; of_other = h.0; early = inl refl },
  (λ y j. (let a = path_at k ps xs h.1 y j in record { path = p; other = a.0; of_path = h.0; of_other = a.2; early = inr (r.0 a.0 a.1) })),
  paths_sorted k ps xs h.1 r.1,
)

precedes_longer : (p : List (List ℤ)) (c : List ℤ) → Precedes IsBefore p (p ++ c ∷ [])
precedes_longer [] c = tt
precedes_longer (a ∷ p) c = inr (refl, precedes_longer p c)

-- what is above a basis doesn't come behind what that doesn't come behind
higher : (F : Fan) (pairs : ℕ) (t : BasisTree) (v u : MarkedPolynomials) (c : List ℤ) (x : MarkedPolynomials) → up_in t v c u → IsOfIdeal F pairs t v →
    IsNotBehind F.region v x → IsNotBehind F.region u x
higher F pairs t v u c x h i n = record { path = above_path.0; other = n.other; of_path = above_path.1; of_other = n.of_other; early = inr (at n.early) }
  where
    up : IsParent F.region v c u
    up = subst (λ (k : Region). IsParent k v c u) i.region h

    above_path : (p : List (List ℤ)) × IsPathOf F.region u p
    above_path = path_exists F.region u (own F.region F u refl (of_ideal_rise F pairs t v u c h i).basis)

    longer : n.path ≡ above_path.0 ++ c ∷ []
    longer = path_one F.region v n.path (above_path.0 ++ c ∷ []) (own F.region F v refl i.basis) n.of_path
        (path_below F.region u v above_path.0 (c ∷ []) above_path.1 (v, up, refl))

    first : Precedes IsBefore above_path.0 n.path
    first = subst (Precedes IsBefore above_path.0) (sym longer) (precedes_longer above_path.0 c)

    at : (n.path ≡ n.other) ⊎ Precedes IsBefore n.path n.other → Precedes IsBefore above_path.0 n.other
    at (inl e) = subst (Precedes IsBefore above_path.0) e first
    at (inr l) = precedes_trans IsBefore before_strict above_path.0 n.path n.other first l

-- a walker doesn't stand behind what it has left
left_early : (k : Region) (m : Mark (List ℤ)) (here : MarkedPolynomials) (d : ℕ) (nodes : List MarkedPolynomials) → IsNode k here →
    Leaves IsBefore (IsParent k) m here d nodes → (x : MarkedPolynomials) → Among nodes x → IsNotBehind k here x
left_early k m here d nodes h l x j = record {
  path = top.0 ++ l.path;
  other = top.0 ++ found.0;
  of_path = path_below k l.top here top.0 l.path top.1 l.at.leads;
  of_other = path_below k l.top x top.0 found.0 top.1 found.2;
  early = at (by_mark m (l.lists.only found.0 found.1));
}
  where
    top : (p : List (List ℤ)) × IsPathOf k l.top p
    top = path_exists k l.top (root_own k here l.top h (root_above k here l.top l.path h l.at.leads))

    led : (ps : List (List (List ℤ))) (xs : List MarkedPolynomials) → LeadTo (IsParent k) l.top ps xs → Among xs x →
        (q : List (List ℤ)) × Among ps q × Leads (IsParent k) l.top q x
    led [] [] g i = absurd i
    led [] (y ∷ ys) g i = absurd g
    led (q ∷ ps) [] g i = absurd g
    led (q ∷ ps) (y ∷ ys) g (inl e) = (q, inl refl, subst (Leads (IsParent k) l.top q) e g.0)
    led (q ∷ ps) (y ∷ ys) g (inr i) = (let a = led ps ys g.1 i in (a.0, inr a.1, a.2))

    found : (q : List (List ℤ)) × Among l.lists.paths q × Leads (IsParent k) l.top q x
    found = led l.lists.paths nodes l.lists.lead j

    by_mark : (m : Mark (List ℤ)) → IsLeft IsBefore m l.path found.0 → (l.path ≡ found.0) ⊎ Precedes IsBefore l.path found.0
    by_mark Before i = i
    by_mark Listed i = inr i
    by_mark (After a) i = inr i.0
    by_mark Finished i = inr i.0

    at : (l.path ≡ found.0) ⊎ Precedes IsBefore l.path found.0 → (top.0 ++ l.path ≡ top.0 ++ found.0) ⊎ Precedes IsBefore (top.0 ++ l.path) (top.0 ++ found.0)
    at (inl e) = inl (ap (λ q. top.0 ++ q) e)
    at (inr g) = inr (precedes_on IsBefore top.0 l.path found.0 g)

-- ---- a row by its parts

abbrev pub row_of : Frontier BasisTree MarkedPolynomials (List ℤ) TreeError → ℕ → Region → MarkedPolynomials → ℕ → Row
row_of f pairs k s n = record { frontier = f; pairs = pairs; region = k; start = s; given = n }

-- ---- the beginning

pub start_leaves : (alloc : Global) (root : MarkedPolynomials) (k : Region) (workers pairs : ℕ) → IsNode k root → (nodes : List MarkedPolynomials) →
    AreLeft (walk_at root k pairs) nodes → AreLeftIn (first_row alloc root k workers pairs) nodes
start_leaves alloc root k workers pairs h nodes l =
    let g = gives IsBefore (IsParent k) before_strict (upward_tree k) Before root 0 Listed root 0 (Some root)
    (λ top r at. listed_here IsBefore (IsParent k) top r root root 0 refl at) nodes l in
    let p = rising_paths k Before root 0 nodes h l in
    let sorted : AreSorted (IsNotBehind k) (root ∷ g.0) = subst (AreSorted (IsNotBehind k)) g.1 (paths_sorted k p.paths nodes p.lead p.rises) in
    record {
      pieces = (g.0, g.1, (g.0, [], sym (append-nil g.0), g.2, refl));
      paths = p.paths;
      lead = p.lead;
      rises = p.rises;
      order = (g.0, g.1, (g.0, [], sym (append-nil g.0), g.2, (λ x j. sorted.1 x (subst (λ z. Among z x) (append-nil g.0) j)), refl));
    }

pub left_at_start : (alloc : Global) (root : MarkedPolynomials) (k : Region) (workers pairs : ℕ) → IsNode k root →
    HasRowLeft (first_row alloc root k workers pairs)
left_at_start alloc root k workers pairs h =
    let f = upward_finite k root h in
    record {
      own = h;
      bound = omega arith;
      refusals = tt;
      among = (h, (record { region = refl; pairs = refl; basis = h }, tt));
      rest = f.nodes;
      left = start_leaves alloc root k workers pairs h f.nodes f.leaves;
      few = (let w : length f.nodes ≤ count k root = f.few in let g : length f.nodes + 0 ≤ count k root = omega (arith, w) in g);
    }

-- ---- going on where a walker stands

module _ (walk : Walk) (p : Standing BasisTree MarkedPolynomials (List ℤ)) (workers : ℕ)
    (here : p.here ≡ walk.here) (mark : p.mark ≡ walk.mark) (depth : p.depth ≡
    walk.depth) (pairs : p.tree.pairs ≡ walk.pairs) (region : p.tree.region ≡ walk.region) (had : HasListLeft walk) where
  at_standing : (nodes : List MarkedPolynomials) → AreLeft walk nodes → IsLeftAt IsBefore up_in p nodes
  at_standing nodes l =
      subst (λ (j : ℕ). Leaves IsBefore (IsParent p.tree.region) p.mark p.here j nodes) (sym depth)
      (subst (λ (v : MarkedPolynomials). Leaves IsBefore (IsParent p.tree.region) p.mark v walk.depth nodes) (sym here)
      (subst (λ (m : Mark (List ℤ)). Leaves IsBefore (IsParent p.tree.region) m walk.here walk.depth nodes) (sym mark)
      (subst (λ (k : Region). Leaves IsBefore (IsParent k) walk.mark walk.here walk.depth nodes) (sym region) l)))

  leaves : (nodes : List MarkedPolynomials) → AreLeft walk nodes →
      AreLeftIn (row_of (record { workers = workers; batches = 0; pieces = Under p ∷ [] }) walk.pairs walk.region walk.here 0) nodes
  leaves nodes l = (let r = rising_paths walk.region walk.mark walk.here walk.depth nodes had.basis l in
      record {
        pieces = (nodes, [], sym (append-nil nodes), at_standing nodes l, refl);
        paths = r.paths;
        lead = r.lead;
        rises = r.rises;
        order = (
          nodes,
          [],
          sym (append-nil nodes),
          at_standing nodes l,
          (λ x j. subst (λ (v : MarkedPolynomials). IsNotBehind walk.region v x) (sym here)
              (left_early walk.region walk.mark walk.here walk.depth nodes had.basis l x (subst (λ z. Among z x) (append-nil nodes) j))),
          refl,
        );
      })

  pub left_as_resumed : HasRowLeft (row_of (record { workers = workers; batches = 0; pieces = Under p ∷ [] }) walk.pairs walk.region walk.here 0)
  left_as_resumed = record {
    own = had.basis;
    bound = omega arith;
    refusals = tt;
    among = (record { region = region; pairs = pairs; basis = subst (IsNodeIn (fan_of walk.region walk.here)) (sym here) had.basis }, tt);
    rest = had.rest;
    left = leaves had.rest had.left;
    few = (let w : length had.rest + walk.given ≤ count walk.region walk.here = had.few in let g : length had.rest + 0 ≤ count walk.region walk.here =
        omega (arith, w) in g);
  }

  pub resumed_as : IsResumedAs walk workers (row_of (record { workers = workers; batches = 0; pieces = Under p ∷ [] }) walk.pairs walk.region walk.here 0)
  resumed_as = record {
    workers = refl;
    batches = refl;
    standing = p;
    piece = refl;
    here = here;
    mark = mark;
    depth = depth;
    pairs = refl;
    region = refl;
    start = refl;
    given = refl;
    list = leaves;
  }

-- ---- a call

module _ (f g : Frontier BasisTree MarkedPolynomials (List ℤ) TreeError) (pairs : ℕ) (k : Region) (s : MarkedPolynomials) (n m : ℕ)
    (workers : g.workers ≡ f.workers) (bound : length g.pieces ≤ (g.workers + 1) * 128) (refusals : AreRefusals RefusesWalker g.pieces)
    (had : HasRowLeft (row_of f pairs k s n)) where
  same_list : IsSameList (row_of f pairs k s n) (row_of g pairs k s m)
  same_list = record { workers = workers; pairs = refl; region = refl; start = refl }

  among_after : (answer : Result (Option MarkedPolynomials) TreeError) → IsCall IsBefore up_in RefusesWalker (λ e. e ≡ Memory) f answer g →
      AreAmongAfter (IsOfIdeal (fan_of k s) pairs) (IsNodeIn (fan_of k s)) answer g.pieces
  among_after answer call =
      call_among IsBefore up_in RefusesWalker (IsOfIdeal (fan_of k s) pairs) (IsNodeIn (fan_of k s)) (λ t v i. i.basis) (of_ideal_down (fan_of k s) pairs)
      (of_ideal_rise (fan_of k s) pairs) before_strict (λ t. upward_tree t.region)
      (λ e. e ≡ Memory) f answer g call had.rest had.left.pieces had.among

  order_after : (answer : Result (Option MarkedPolynomials) TreeError) → IsCall IsBefore up_in RefusesWalker (λ e. e ≡ Memory) f answer g →
      (nodes : List MarkedPolynomials) → AreLeftIn (row_of f pairs k s n) nodes → IsInOrderAfter IsBefore up_in before_strict (λ t. upward_tree t.region)
      RefusesWalker (IsNotBehind k) (IsOfIdeal (fan_of k s) pairs) (IsNodeIn (fan_of k s)) (λ t v i. i.basis) (of_ideal_down (fan_of k s) pairs)
      (of_ideal_rise (fan_of k s) pairs) (higher (fan_of k s) pairs)
      answer nodes g.pieces
  order_after answer call nodes l =
      call_order IsBefore up_in before_strict (λ t. upward_tree t.region) RefusesWalker (IsNotBehind k) (IsOfIdeal (fan_of k s) pairs) (IsNodeIn (fan_of k s))
      (λ t v i. i.basis) (of_ideal_down (fan_of k s) pairs) (of_ideal_rise (fan_of k s) pairs) (higher (fan_of k s) pairs)
      (λ e. e ≡ Memory) f answer g call nodes had.among (paths_sorted k l.paths nodes l.lead l.rises) l.order

  -- a basis is given
  module _ (v : MarkedPolynomials) (call : IsCall IsBefore up_in RefusesWalker (λ e. e ≡ Memory) f (Ok (Some v)) g)
      (list : (nodes : List MarkedPolynomials) → PiecesLeave (IsLeftAt IsBefore up_in) f.pieces nodes →
      IsFirstOf (PiecesLeave (IsLeftAt IsBefore up_in) g.pieces) nodes (Some v)) (more : m ≡ n + 1) where
    basis : IsNodeIn (fan_of k s) v
    basis = (among_after (Ok (Some v)) call).0

    first : (nodes : List MarkedPolynomials) → AreLeftIn (row_of f pairs k s n) nodes →
        (rest : List MarkedPolynomials) × (nodes ≡ v ∷ rest) × AreLeftIn (row_of g pairs k s m) rest
    first nodes l =
        let a = list nodes l.pieces in
        let o = order_after (Ok (Some v)) call nodes l in
        let same : o.0 ≡ a.0 = cc in (
          a.0,
          a.1,
          at a.0 a.2 (subst (LeaveInOrder (IsLeftAt IsBefore up_in) (IsNotBehind k) [] g.pieces) same o.2) l.paths
              (subst (HavePaths k l.paths) a.1 l.lead) l.rises,
        )
      where
        at : (rest : List MarkedPolynomials) → PiecesLeave (IsLeftAt IsBefore up_in) g.pieces rest →
            LeaveInOrder (IsLeftAt IsBefore up_in) (IsNotBehind k) [] g.pieces rest → (paths : List (List (List ℤ))) → HavePaths k paths (v ∷ rest) →
            Rises IsBefore paths → AreLeftIn (row_of g pairs k s m) rest
        at rest a o [] h r = absurd h
        at rest a o (p ∷ ps) h r = record { pieces = a; paths = ps; lead = h.1; rises = r.1; order = o }

    pub left_after : HasRowLeft (row_of g pairs k s m)
    left_after =
        let a = first had.rest had.left in
        let long : length had.rest ≡ suc (length a.0) = ap length a.1 in
        record {
          own = had.own;
          bound = bound;
          refusals = refusals;
          among = (among_after (Ok (Some v)) call).1;
          rest = a.0;
          left = a.2;
          few = (let w : length had.rest + n ≤ count k s = had.few in let w0 : length a.0 + m ≤ count k s = omega (arith, w, long, more) in w0);
        }

    pub row_step : IsNextRow (row_of f pairs k s n) (row_of g pairs k s m) v
    row_step =
        let a = first had.rest had.left in
        let long : length had.rest ≡ suc (length a.0) = ap length a.1 in
        record {
          same = same_list;
          given = more;
          basis = basis;
          own = own k (fan_of k s) v refl basis;
          fewer = (let w : length had.rest + n ≤ count k s = had.few in let w0 : suc (count k s - m) ≤ count k s - n = omega (arith, w, long, more) in w0);
          first = first;
        }

  -- nothing is left
  module _ (call : IsCall IsBefore up_in RefusesWalker (λ e. e ≡ Memory) f (Ok None) g)
      (list : (nodes : List MarkedPolynomials) → PiecesLeave (IsLeftAt IsBefore up_in) f.pieces nodes →
      IsFirstOf (PiecesLeave (IsLeftAt IsBefore up_in) g.pieces) nodes None) (same : m ≡ n) where
    over : AreLeftIn (row_of g pairs k s m) []
    over = record { pieces = (list had.rest had.left.pieces).1; paths = []; lead = tt; rises = tt; order = order_after (Ok None) call had.rest had.left }

    pub left_at_end : HasRowLeft (row_of g pairs k s m)
    left_at_end = record {
      own = had.own;
      bound = bound;
      refusals = refusals;
      among = (among_after (Ok None) call).1;
      rest = [];
      left = over;
      few = (let w : length had.rest + n ≤ count k s = had.few in let w0 : 0 + m ≤ count k s = omega (arith, w, same) in w0);
    }

    pub row_end : IsRowEnd (row_of f pairs k s n) (row_of g pairs k s m)
    row_end = record {
      same = same_list;
      given = same;
      none = λ nodes l. (list nodes l.pieces).0;
      nothing = subst (AreLeftIn (row_of f pairs k s n)) (list had.rest had.left.pieces).0 had.left;
      over = over;
    }

  -- a refusal
  module _ (e : TreeError) (call : IsCall IsBefore up_in RefusesWalker (λ e. e ≡ Memory) f (Err e) g)
      (list : (nodes : List MarkedPolynomials) → PiecesLeave (IsLeftAt IsBefore up_in) f.pieces nodes → PiecesLeave (IsLeftAt IsBefore up_in) g.pieces nodes)
      (same : m ≡ n) where
    stays : (nodes : List MarkedPolynomials) → AreLeftIn (row_of f pairs k s n) nodes → AreLeftIn (row_of g pairs k s m) nodes
    stays nodes l = record { pieces = list nodes l.pieces; paths = l.paths; lead = l.lead; rises = l.rises; order = order_after (Err e) call nodes l }

    pub left_kept : HasRowLeft (row_of g pairs k s m)
    left_kept = record {
      own = had.own;
      bound = bound;
      refusals = refusals;
      among = (among_after (Err e) call).1;
      rest = had.rest;
      left = stays had.rest had.left;
      few = (let w : length had.rest + n ≤ count k s = had.few in let w0 : length had.rest + m ≤ count k s = omega (arith, w, same) in w0);
    }

    pub row_kept : IsRowKept (row_of f pairs k s n) (row_of g pairs k s m)
    row_kept = record { same = same_list; given = same; left = stays }

-- ---- refusals

-- the same by the region and the budget of the ideal
at_budget : (F : Fan) (pairs : ℕ) (t : BasisTree) (v : MarkedPolynomials) (e : TreeError) → IsOfIdeal F pairs t v → IsCallRefusal t.region t.pairs v e →
    IsCallRefusal F.region pairs v e
at_budget F pairs t v e i r = subst (λ (p : ℕ). IsCallRefusal F.region p v e) i.pairs (subst (λ (k : Region). IsCallRefusal k t.pairs v e) i.region r)

one_refused : (F : Fan) (pairs : ℕ) (w : Standing BasisTree MarkedPolynomials (List ℤ)) (e : TreeError) → RefusesWalker w e → IsOfIdeal F pairs w.tree w.here →
    IsTreeRefusal F pairs e
one_refused F pairs w e r i =
    let a = above IsBefore up_in RefusesWalker (IsOfIdeal F pairs) (IsNodeIn F) (λ t v j. j.basis) (of_ideal_down F pairs) (of_ideal_rise F pairs)
    w.tree r.node w.here r.path r.leads i in
    refusal_moved (fan_of F.region r.node) F pairs e (back_fan F (fan_of F.region r.node) (own_fan F r.node a.basis))
    (call_refused F.region pairs r.node e (own F.region F r.node refl a.basis) (at_budget F pairs w.tree r.node e a r.refused))

-- a refusal of the walker in front is one of a search over the bases of the ideal
pub front_refused : (F : Fan) (pairs : ℕ) (ps : List (Piece BasisTree MarkedPolynomials (List ℤ) TreeError)) (e : TreeError) →
    IsFrontRefused RefusesWalker ps e → AreAmong (IsOfIdeal F pairs) (IsNodeIn F) ps → IsTreeRefusal F pairs e
front_refused F pairs [] e r a = absurd r
front_refused F pairs (Ready v ∷ ps) e r a = absurd r
front_refused F pairs (Under w ∷ ps) e r a = one_refused F pairs w e r a.0
front_refused F pairs (Refused w f ∷ ps) e r a = one_refused F pairs w e r a.0

-- ---- and it comes of a call at a basis that is given, or is the next one

-- what is above a walker's basis doesn't come behind what that doesn't come behind
above_early : (F : Fan) (pairs : ℕ) (t : BasisTree) (s here : MarkedPolynomials) (q : List (List ℤ)) (x : MarkedPolynomials) → Leads (up_in t) s q here →
    IsOfIdeal F pairs t here → IsNotBehind F.region here x → IsNotBehind F.region s x
above_early F pairs t s here [] x l i n = subst (λ (z : MarkedPolynomials). IsNotBehind F.region z x) (sym l) n
above_early F pairs t s here (c ∷ q) x l i n =
    higher F pairs t l.0 s c x l.1 (above IsBefore up_in RefusesWalker (IsOfIdeal F pairs) (IsNodeIn F) (λ u v j. j.basis) (of_ideal_down F pairs)
    (of_ideal_rise F pairs) t l.0 here q l.2 i) (above_early F pairs t l.0 here q x l.2 i n)

-- a basis that doesn't come behind the first of those that are left isn't one of the others
not_later : (k : Region) (ps : List (List (List ℤ))) (nodes : List MarkedPolynomials) (v : MarkedPolynomials) → HavePaths k ps nodes → Rises IsBefore ps →
    IsNode k v → ((x : MarkedPolynomials) → Among nodes x → IsNode k x) → ((x : MarkedPolynomials) → Among nodes x → IsNotBehind k v x) → IsNotLater nodes v
not_later k ps [] v h r node own_nodes early = tt
not_later k [] (x ∷ xs) v h r node own_nodes early = absurd h
not_later k (p ∷ ps) (x ∷ xs) v h r node own_nodes early = λ j. behind (early x (inl refl)) (path_at k ps xs h.1 v j)
  where
    behind : IsNotBehind k v x → ((q : List (List ℤ)) × Among ps q × IsPathOf k v q) → ⊥
    behind n a = at n.early
      where
        mine : n.path ≡ a.0
        mine = path_one k v n.path a.0 node n.of_path a.2

        first : n.other ≡ p
        first = path_one k x n.other p (own_nodes x (inl refl)) n.of_other h.0

        after : Precedes IsBefore n.other n.path
        after = subst (λ z. Precedes IsBefore z n.path) (sym first) (subst (Precedes IsBefore p) (sym mine) (r.0 a.0 a.1))

        at : (n.path ≡ n.other) ⊎ Precedes IsBefore n.path n.other → ⊥
        at (inl e) = precedes_itself IsBefore before_strict n.other (subst (Precedes IsBefore n.other) e after)
        at (inr l) = precedes_itself IsBefore before_strict n.other (precedes_trans IsBefore before_strict n.other n.path n.other after l)

among_either : (xs ys : List MarkedPolynomials) (x : MarkedPolynomials) → Among (xs ++ ys) x → Among xs x ⊎ Among ys x
among_either [] ys x j = inr j
among_either (y ∷ xs) ys x (inl e) = inl (inl e)
among_either (y ∷ xs) ys x (inr j) = elim (among_either xs ys x j) [ inl i ↦ inl (inr i) | inr i ↦ inr i ]

-- what a walker has left are bases of the ideal
walker_nodes : (F : Fan) (pairs : ℕ) (w : Standing BasisTree MarkedPolynomials (List ℤ)) (nodes : List MarkedPolynomials) → IsOfIdeal F pairs w.tree w.here →
    IsLeftAt IsBefore up_in w nodes → (x : MarkedPolynomials) → Among nodes x → IsNodeIn F x
walker_nodes F pairs w nodes i l x j = at l.lists.paths nodes l.lists.lead j
  where
    top : IsOfIdeal F pairs w.tree l.top
    top = above IsBefore up_in RefusesWalker (IsOfIdeal F pairs) (IsNodeIn F) (λ u v k. k.basis) (of_ideal_down F pairs) (of_ideal_rise F pairs)
        w.tree l.top w.here l.path l.at.leads i

    at : (ps : List (List (List ℤ))) (xs : List MarkedPolynomials) → LeadTo (up_in w.tree) l.top ps xs → Among xs x → IsNodeIn F x
    at [] [] g k = absurd k
    at [] (y ∷ ys) g k = absurd g
    at (q ∷ ps) [] g k = absurd g
    at (q ∷ ps) (y ∷ ys) g (inl e) = subst (IsNodeIn F) e (below IsBefore up_in RefusesWalker (IsOfIdeal F pairs) (IsNodeIn F) (λ u v k. k.basis)
        (of_ideal_down F pairs) (of_ideal_rise F pairs) w.tree l.top y q g.0 top).basis
    at (q ∷ ps) (y ∷ ys) g (inr k) = at ps ys g.1 k

-- and so is what a row has left
left_nodes : (F : Fan) (pairs : ℕ) (ps : List (Piece BasisTree MarkedPolynomials (List ℤ) TreeError)) (nodes : List MarkedPolynomials) →
    AreAmong (IsOfIdeal F pairs) (IsNodeIn F) ps → PiecesLeave (IsLeftAt IsBefore up_in) ps nodes → (x : MarkedPolynomials) → Among nodes x → IsNodeIn F x
left_nodes F pairs [] nodes a l x j = absurd (subst (λ z. Among z x) l j)
left_nodes F pairs (Ready v ∷ ps) nodes a l x j = elim (subst (λ z. Among z x) l.1 j) [
  | inl e ↦ subst (IsNodeIn F) e a.0
  | inr i ↦ left_nodes F pairs ps l.0 a.1 l.2 x i
]
left_nodes F pairs (Under w ∷ ps) nodes a l x j = elim (among_either l.0 l.1 x (subst (λ z. Among z x) l.2 j)) [
  | inl i ↦ walker_nodes F pairs w l.0 a.0 l.3 x i
  | inr i ↦ left_nodes F pairs ps l.1 a.1 l.4 x i
]
left_nodes F pairs (Refused w e ∷ ps) nodes a l x j = elim (among_either l.0 l.1 x (subst (λ z. Among z x) l.2 j)) [
  | inl i ↦ walker_nodes F pairs w l.0 a.0 l.3 x i
  | inr i ↦ left_nodes F pairs ps l.1 a.1 l.4 x i
]

-- a refusal of a walker that doesn't stand behind what is left
one_early : (F : Fan) (pairs : ℕ) (w : Standing BasisTree MarkedPolynomials (List ℤ)) (e : TreeError) (paths : List (List (List ℤ)))
    (nodes : List MarkedPolynomials) → RefusesWalker w e → IsOfIdeal F pairs w.tree w.here → HavePaths F.region paths nodes → Rises IsBefore paths →
    ((x : MarkedPolynomials) → Among nodes x → IsNodeIn F x) → ((x : MarkedPolynomials) → Among (nodes ++ []) x → IsNotBehind F.region w.here x) →
    IsRefusedEarly F pairs nodes e
one_early F pairs w e paths nodes r i h rise inside early =
    let a = above IsBefore up_in RefusesWalker (IsOfIdeal F pairs) (IsNodeIn F) (λ t v j. j.basis) (of_ideal_down F pairs) (of_ideal_rise F pairs)
    w.tree r.node w.here r.path r.leads i in
    IsRefusedEarly.at r.node a.basis
    (not_later F.region paths nodes r.node h rise (own F.region F r.node refl a.basis) (λ x j. own F.region F x refl (inside x j))
    (λ x j. above_early F pairs w.tree r.node w.here r.path x r.leads i (early x (subst (λ z. Among z x) (sym (append-nil nodes)) j))))
    (at_budget F pairs w.tree r.node e a r.refused)

-- a refusal of the walker in front
pub front_early : (F : Fan) (pairs : ℕ) (ps : List (Piece BasisTree MarkedPolynomials (List ℤ) TreeError)) (e : TreeError) (paths : List (List (List ℤ)))
    (nodes : List MarkedPolynomials) → IsFrontRefused RefusesWalker ps e → AreAmong (IsOfIdeal F pairs) (IsNodeIn F) ps → HavePaths F.region paths nodes →
    Rises IsBefore paths → PiecesLeave (IsLeftAt IsBefore up_in) ps nodes → LeaveInOrder (IsLeftAt IsBefore up_in) (IsNotBehind F.region) [] ps nodes →
    IsRefusedEarly F pairs nodes e
front_early F pairs [] e paths nodes r a h rise l o = absurd r
front_early F pairs (Ready v ∷ ps) e paths nodes r a h rise l o = absurd r
front_early F pairs (Under w ∷ ps) e paths nodes r a h rise l o =
    one_early F pairs w e paths nodes r a.0 h rise (left_nodes F pairs (Under w ∷ ps) nodes a l) o.4
front_early F pairs (Refused w f ∷ ps) e paths nodes r a h rise l o =
    one_early F pairs w e paths nodes r a.0 h rise (left_nodes F pairs (Refused w f ∷ ps) nodes a l) o.4

-- ---- a refusal, of a call

-- it is early
pub row_early : (f g : Frontier BasisTree MarkedPolynomials (List ℤ) TreeError) (pairs : ℕ) (k : Region) (s : MarkedPolynomials) (n m : ℕ) (kept : IsRowKept
    (row_of f pairs k s n) (row_of g pairs k s m)) (e : TreeError) → AreAmong (IsOfIdeal (fan_of k s) pairs) (IsNodeIn (fan_of k s)) g.pieces →
    IsFrontRefused RefusesWalker g.pieces e → (nodes : List MarkedPolynomials) → AreLeftIn (row_of f pairs k s n) nodes →
    IsRefusedEarly (fan_of k s) pairs nodes e
row_early f g pairs k s n m kept e a r nodes l =
    let l0 = kept.left nodes l in
    front_early (fan_of k s) pairs g.pieces e l0.paths nodes r a l0.lead l0.rises l0.pieces l0.order

-- ---- early refusals

-- of the same ideal by other generators
pub early_moved : (F G : Fan) (pairs : ℕ) (nodes : List MarkedPolynomials) (e : TreeError) → SameFan F G → IsRefusedEarly F pairs nodes e →
    IsRefusedEarly G pairs nodes e
early_moved F G pairs nodes e s (IsRefusedEarly.at v h l r) =
    IsRefusedEarly.at v (node_moved F G v s h) l (subst (λ (k : Region). IsCallRefusal k pairs v e) s.region r)
early_moved F G pairs nodes e s (IsRefusedEarly.memory q) = IsRefusedEarly.memory q

-- each is one of a search over the bases of the ideal
pub early_refused : (F : Fan) (pairs : ℕ) (nodes : List MarkedPolynomials) (e : TreeError) → IsRefusedEarly F pairs nodes e → IsTreeRefusal F pairs e
early_refused F pairs nodes e (IsRefusedEarly.at v h l r) =
    refusal_moved (fan_of F.region v) F pairs e (back_fan F (fan_of F.region v) (own_fan F v h)) (call_refused F.region pairs v e (own F.region F v refl h) r)
early_refused F pairs nodes e (IsRefusedEarly.memory q) = IsTreeRefusal.memory q
