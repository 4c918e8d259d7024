-- A walker's step, in the words of bases and paths.
-- To cite: walk_of, count_along, left_at_top, left_after, step_to, step_end, parts_of, left_first, left_rest, resumed,
-- left_resumed.
use Rattle.std.proofs.Common.{◌≡◌, ℕ, suc, ◌+◌, ◌-◌, ◌≤◌, List, [], ◌∷◌, ◌++◌, ℤ, length, Some, None, arith, refl, sym, ap, ◌∙◌, subst, length-append}
use Rattle.gf_poly.specs.Marking.{MarkedPolynomials}
use Rattle.gf_reverse_search.specs.declared.mark.Mark.{Mark}
use Rattle.gf_reverse_search.specs.declared.mark.Mark.TheVariants.{Before, Listed, Finished}
use Rattle.gf_reverse_search.specs.Path.{Leads}
use Rattle.gf_reverse_search.specs.Standing.{Standing}
use Rattle.gf_reverse_search.specs.Listing.{Leaves, IsLeftAt, IsFirstOf}
use Rattle.gf_reverse_search.specs.Walk.{Steps, Advances}
use Rattle.gf_reverse_search.specs.Split.{AreSplitParts, AreCutAt}
use Rattle.gf_reverse_search.specs.Whole.{IsRootOf, StandsAfter}
use Rattle.gf_facets_theory.specs.LexPositive.{IsBefore}
use Rattle.gf_facets_theory.specs.Regions.{Region}
use Rattle.gf_reverse_theory.specs.Upward.{IsNode, IsNodeIn, IsParent, fan_of}
use Rattle.gf_reverse_theory.specs.Lists.{AnswersByPaths}
use Rattle.gf_reverse_theory.proofs.TreeLaws.{count, upward_level, upward_finite}
use Rattle.gf_reverse_theory.proofs.LeftLaws.{advance_answers, top_seen_below}
use Rattle.gf_reverse_theory.proofs.ListLaws.{own, root_above, below_node, same_root}
use Rattle.gf_tree.specs.declared.tree.BasisTree.{BasisTree}
use Rattle.gf_tree.specs.Walks.{Walk, AreLeft, HasListLeft}
use Rattle.gf_tree.specs.Steps.{IsStepTo, IsEnd, AreWalkParts, IsResumed}

-- where a walker over the tree stands, and how many bases it gave
abbrev pub walk_of : Standing BasisTree MarkedPolynomials (List ℤ) → ℕ → Walk
walk_of p n = record { here = p.here; mark = p.mark; depth = p.depth; pairs = p.tree.pairs; given = n; region = p.tree.region }

-- the parents of the tree
abbrev pub up_in : BasisTree → MarkedPolynomials → List ℤ → MarkedPolynomials → Type 0
up_in t = IsParent t.region

-- the number of bases stays along a path
pub count_along : (k : Region) (s : MarkedPolynomials) (q : List (List ℤ)) (x : MarkedPolynomials) → Leads (IsParent k) s q x → count k x ≡ count k s
count_along k s [] x h = ap (count k) (sym h)
count_along k s (c ∷ q) x h = count_along k h.0 q x h.2 ∙ upward_level k h.0 c s h.1

-- two bases below one top are bases of one ideal
pub beside : (k : Region) (top here v : MarkedPolynomials) (p q : List (List ℤ)) → IsNode k here → Leads (IsParent k) top p here → Leads (IsParent k) top q v →
    IsNodeIn (fan_of k here) v
beside k top here v p q h l m = below_node (fan_of k here) top q v (root_above k here top p h l) m

-- and count as many
pub count_beside : (k : Region) (top here v : MarkedPolynomials) (p q : List (List ℤ)) → Leads (IsParent k) top p here → Leads (IsParent k) top q v →
    count k v ≡ count k here
count_beside k top here v p q l m = count_along k top q v m ∙ sym (count_along k top p here l)

-- ---- before the first step

pub left_at_top : (k : Region) (n pairs : ℕ) (v : MarkedPolynomials) → n ≡ 0 → IsNode k v →
    HasListLeft (record { here = v; mark = Before; depth = 0; pairs = pairs; given = n; region = k })
left_at_top k n pairs v z node =
    let f = upward_finite k v node in
    record {
      basis = node;
      rest = f.nodes;
      left = f.leaves;
      few = (let w : length f.nodes ≤ count k v = f.few in let g : length f.nodes + n ≤ count k v = omega (arith, w, z) in g);
    }

-- ---- a step

-- the answer, in whole paths
answers_by_paths : (k : Region) (old new : Mark (List ℤ)) (here0 here1 : MarkedPolynomials) (d0 d1 : ℕ) (v : MarkedPolynomials) →
    Steps IsBefore (IsParent k) old here0 d0 new here1 d1 (Some v) → AnswersByPaths k old here0 d0 v
answers_by_paths k old new here0 here1 d0 d1 v s = λ top p r at h a.
    let n = s top r at in (
      p ++ n.path,
      advance_answers k top p r old new v here1 d1 h a
          (top_seen_below k top v n.path h (subst (Leads (IsParent k) top n.path) (sym n.node) n.at.leads)) n,
    )

module _ (p q : Standing BasisTree MarkedPolynomials (List ℤ)) (n m : ℕ) (v : MarkedPolynomials) (e : q.tree ≡ p.tree) (steps : Advances IsBefore up_in p q
    (Some v))
    (list : (nodes : List MarkedPolynomials) → IsLeftAt IsBefore up_in p nodes → IsFirstOf (IsLeftAt IsBefore up_in q) nodes (Some v))
    (more : m ≡ n + 1) (had : HasListLeft (walk_of p n)) where
  leads_q : Leads (IsParent p.tree.region) had.left.top (steps had.left.top had.left.path had.left.at).path q.here
  leads_q = (steps had.left.top had.left.path had.left.at).at.leads

  here_is : q.here ≡ v
  here_is = sym (steps had.left.top had.left.path had.left.at).node

  basis_q : IsNodeIn (fan_of p.tree.region p.here) q.here
  basis_q = beside p.tree.region had.left.top p.here q.here had.left.path (steps had.left.top had.left.path had.left.at).path had.basis had.left.at.leads
      leads_q

  own_q : IsNode q.tree.region q.here
  own_q = subst (λ (t : BasisTree). IsNode t.region q.here) (sym e) (own p.tree.region (fan_of p.tree.region p.here) q.here refl basis_q)

  same_count : count q.tree.region q.here ≡ count p.tree.region p.here
  same_count = subst (λ (t : BasisTree). count t.region q.here ≡ count p.tree.region p.here) (sym e)
      (count_beside p.tree.region had.left.top p.here q.here had.left.path (steps had.left.top had.left.path had.left.at).path had.left.at.leads leads_q)

  -- what is left after it
  pub left_after : HasListLeft (walk_of q m)
  left_after =
      let f = list had.rest had.left in
      let long : length had.rest ≡ suc (length f.0) = ap length f.1 in
      record {
        basis = own_q;
        rest = f.0;
        left = f.2;
        few = (let w : length had.rest + n ≤ count p.tree.region p.here = had.few in let g : length f.0 + m ≤ count q.tree.region q.here =
            (let c = same_count in omega (arith, long, w, c, more)) in g);
      }

  -- a step of the tree's walker
  pub step_to : IsStepTo (walk_of p n) (walk_of q m) v
  step_to =
      let f = list had.rest had.left in
      let long : length had.rest ≡ suc (length f.0) = ap length f.1 in
      record {
        here = here_is;
        listed = (steps had.left.top had.left.path had.left.at).listed;
        pairs = ap (λ (t : BasisTree). t.pairs) e;
        region = ap (λ (t : BasisTree). t.region) e;
        given = more;
        basis = subst (IsNodeIn (fan_of p.tree.region p.here)) here_is basis_q;
        own = subst (IsNode p.tree.region) here_is (subst (λ (t : BasisTree). IsNode t.region q.here) e own_q);
        fewer = (let w : length had.rest + n ≤ count p.tree.region p.here = had.few in let g : suc (count q.tree.region q.here - m) ≤
            count p.tree.region p.here - n = (let c = same_count in omega (arith, long, w, c, more)) in g);
        first = list;
        paths = answers_by_paths p.tree.region p.mark q.mark p.here q.here p.depth q.depth v steps;
      }

-- ---- the end

module _ (p q : Standing BasisTree MarkedPolynomials (List ℤ)) (n m : ℕ) (list : (nodes : List MarkedPolynomials) → IsLeftAt IsBefore up_in p nodes →
    IsFirstOf (IsLeftAt IsBefore up_in q) nodes None)
    (stays : q ≡ record p { mark = Finished }) (same : m ≡ n) (had : HasListLeft (walk_of p n)) where
  pub step_end : IsEnd (walk_of p n) (walk_of q m)
  step_end = record {
    none = λ nodes l. (list nodes l).0;
    nothing = subst (AreLeft (walk_of p n)) (list had.rest had.left).0 had.left;
    over = (list had.rest had.left).1;
    stays = ap (λ (r : Standing BasisTree MarkedPolynomials (List ℤ)). walk_of r m) stays ∙ ap (λ (j : ℕ). record {
      here = p.here;
      mark = Finished;
      depth = p.depth;
      pairs = p.tree.pairs;
      given = j;
      region = p.tree.region;
    }) same;
  }

-- ---- two parts

module _ (p f r : Standing BasisTree MarkedPolynomials (List ℤ)) (n a b : ℕ) (cut : AreCutAt IsBefore up_in p f r) (ef : f.tree ≡ p.tree) (er : r.tree ≡ p.tree)
    (list : (nodes : List MarkedPolynomials) → IsLeftAt IsBefore up_in p nodes → AreSplitParts IsBefore up_in nodes f r)
    (za : a ≡ 0) (zb : b ≡ 0) (had : HasListLeft (walk_of p n)) where
  at_is : r.here ≡ f.here
  at_is = sym (cut.next had.left.top had.left.path had.left.at).node

  basis_r : IsNodeIn (fan_of p.tree.region p.here) r.here
  basis_r = beside p.tree.region had.left.top p.here r.here had.left.path (cut.next had.left.top had.left.path had.left.at).path had.basis had.left.at.leads
      (cut.next had.left.top had.left.path had.left.at).at.leads

  count_r : count p.tree.region r.here ≡ count p.tree.region p.here
  count_r = count_beside p.tree.region had.left.top p.here r.here had.left.path (cut.next had.left.top had.left.path had.left.at).path had.left.at.leads
      (cut.next had.left.top had.left.path had.left.at).at.leads

  own_r : IsNode p.tree.region r.here
  own_r = own p.tree.region (fan_of p.tree.region p.here) r.here refl basis_r

  -- the first lists the next basis and what is below it, and the other what follows
  pub parts_of : AreWalkParts (walk_of p n) (walk_of f a) (walk_of r b)
  parts_of = record {
    before = cut.before;
    top = cut.top;
    past = cut.past;
    at = at_is;
    pairs = (ap (λ (t : BasisTree). t.pairs) ef, ap (λ (t : BasisTree). t.pairs) er);
    region = (ap (λ (t : BasisTree). t.region) ef, ap (λ (t : BasisTree). t.region) er);
    basis = subst (IsNodeIn (fan_of p.tree.region p.here)) at_is basis_r;
    joined = λ nodes l. (let s = list nodes l in (f.here ∷ s.front, s.back, s.whole, s.under, s.past));
  }

  -- how long the parts are
  few_parts : (s : AreSplitParts IsBefore up_in had.rest f r) → suc (length s.front + length s.back) ≤ count p.tree.region p.here
  few_parts s = (let e : length had.rest ≡ suc (length (s.front ++ s.back)) = ap length s.whole in let g : length (s.front ++ s.back) ≡ length s.front +
      length s.back = length-append s.front s.back in let w : length had.rest + n ≤ count p.tree.region p.here = had.few in omega (arith, e, g, w))

  pub left_first : HasListLeft (walk_of f a)
  left_first =
      let s = list had.rest had.left in
      let c : count f.tree.region f.here ≡ count p.tree.region p.here =
      subst (λ (t : BasisTree). count t.region f.here ≡ count p.tree.region p.here) (sym ef) (ap (count p.tree.region) (sym at_is) ∙ count_r) in
      record {
        basis = subst (λ (t : BasisTree). IsNode t.region f.here) (sym ef) (subst (IsNode p.tree.region) at_is own_r);
        rest = f.here ∷ s.front;
        left = s.under;
        few = (let w = few_parts s in let g : suc (length s.front) + a ≤ count f.tree.region f.here = omega (arith, w, c, za) in g);
      }

  pub left_rest : HasListLeft (walk_of r b)
  left_rest =
      let s = list had.rest had.left in
      let c : count r.tree.region r.here ≡ count p.tree.region p.here =
      subst (λ (t : BasisTree). count t.region r.here ≡ count p.tree.region p.here) (sym er) count_r in
      record {
        basis = subst (λ (t : BasisTree). IsNode t.region r.here) (sym er) own_r;
        rest = s.back;
        left = s.past;
        few = (let w = few_parts s in let g : length s.back + b ≤ count r.tree.region r.here = omega (arith, w, c, zb) in g);
      }

-- ---- going on after a basis

module _ (t : BasisTree) (v : MarkedPolynomials) (p : Standing BasisTree MarkedPolynomials (List ℤ)) (n : ℕ) (node : IsNode t.region v)
    (index : (p.tree ≡ t) × (p.here ≡ v) × (p.mark ≡ Listed)) (found : (root : MarkedPolynomials) × IsRootOf (up_in t) v root)
    (list : (root : MarkedPolynomials) → IsRootOf (up_in t) v root → StandsAfter IsBefore up_in v root p) (zero : n ≡ 0) where
  below : IsNodeIn (fan_of t.region v) found.0
  below = root_above t.region v found.0 found.1.path node found.1.leads

  owns : IsNode t.region found.0
  owns = own t.region (fan_of t.region v) found.0 refl below

  pub left_resumed : HasListLeft (walk_of p n)
  left_resumed =
      let f = upward_finite t.region found.0 owns in
      let s = list found.0 found.1 in
      let g = s.goes_on f.nodes (subst (λ (u : BasisTree). Leaves IsBefore (up_in u) Before found.0 0 f.nodes) (sym index.0) f.leaves) in
      let long : length f.nodes ≡ length g.front + suc (length g.rest) = ap length g.whole ∙ length-append g.front (v ∷ g.rest) in
      let c : count p.tree.region p.here ≡ count t.region found.0 = subst (λ (u : BasisTree). count u.region p.here ≡ count t.region found.0) (sym index.0)
      (ap (count t.region) index.1 ∙ count_along t.region found.0 found.1.path v found.1.leads) in
      record {
        basis = subst (λ (u : BasisTree). IsNode u.region p.here) (sym index.0) (subst (IsNode t.region) (sym index.1) node);
        rest = g.rest;
        left = g.left;
        few = (let w : length f.nodes ≤ count t.region found.0 = f.few in let g0 : length g.rest + n ≤ count p.tree.region p.here =
            omega (arith, w, long, c, zero) in g0);
      }

  pub resumed : IsResumed t.region v t.pairs (walk_of p n)
  resumed = record {
    here = index.1;
    mark = index.2;
    pairs = ap (λ (u : BasisTree). u.pairs) index.0;
    region = ap (λ (u : BasisTree). u.region) index.0;
    goes_on = λ root r nodes l.
        let e : root ≡ found.0 = same_root (fan_of t.region v) root found.0 r.basis r.is_root below found.1.is_root in
        let s = list found.0 found.1 in
        let a : Leaves IsBefore (IsParent t.region) Before root 0 nodes = l in
        let g = s.goes_on nodes (subst (λ (u : BasisTree). Leaves IsBefore (up_in u) Before found.0 0 nodes) (sym index.0)
        (subst (λ (w : MarkedPolynomials). Leaves IsBefore (IsParent t.region) Before w 0 nodes) e a)) in
        (g.front, g.rest, g.whole, g.left);
  }

-- ---- as a program reads the parts

pub left_read : (f g : Standing BasisTree MarkedPolynomials (List ℤ)) (a : ℕ) → g ≡ f → HasListLeft (walk_of f a) → HasListLeft (walk_of g a)
left_read f g a e h = subst (λ (z : Standing BasisTree MarkedPolynomials (List ℤ)). HasListLeft (walk_of z a)) (sym e) h

pub parts_read : (v w : Walk) (f g r s : Standing BasisTree MarkedPolynomials (List ℤ)) (a b : ℕ) → v ≡ w → g ≡ f → s ≡ r →
    AreWalkParts v (walk_of f a) (walk_of r b) → AreWalkParts w (walk_of g a) (walk_of s b)
parts_read v w f g r s a b i e o h =
    subst (λ (x : Walk). AreWalkParts x (walk_of g a) (walk_of s b)) i
    (subst (λ (z : Standing BasisTree MarkedPolynomials (List ℤ)). AreWalkParts v (walk_of g a) (walk_of z b)) (sym o)
    (subst (λ (z : Standing BasisTree MarkedPolynomials (List ℤ)). AreWalkParts v (walk_of z a) (walk_of r b)) (sym e) h))
