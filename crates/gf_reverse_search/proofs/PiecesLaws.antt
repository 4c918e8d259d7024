-- A walker's list in pieces: along the labels, and what the pieces leave.
-- To cite: expansion_leaves, and for the proofs of `expand` rises_next, first_least, among_after, below_more, goes_down, placed_above, insert_first.
use Rattle.std.proofs.Common.{◌≡◌, ℕ, zero, suc, ◌<◌, ◌≤◌, ◌+◌, List, [], ◌∷◌, ◌++◌, ◌⊎◌, length, refl, sym, ap, inl, inr, subst, ◌∙◌, arith, Some}
use Rattle.std.proofs.Common.{length-append, append-nil}
use Rattle.std.specs.List.{Contains, insert}
use Rattle.gf_reverse_search.specs.declared.mark.Mark.{Mark}
use Rattle.gf_reverse_search.specs.declared.mark.Mark.TheVariants.{Before, After, Listed, Finished}
use Rattle.gf_reverse_search.specs.declared.expand.Piece.{Piece}
use Rattle.gf_reverse_search.specs.declared.expand.Piece.TheVariants.{Ready, Under, Refused}
use Rattle.gf_reverse_search.specs.Path.{IsStrictOrder, IsTree, Leads, IsPath}
use Rattle.gf_reverse_search.specs.Left.{IsBelowMark, IsOpen}
use Rattle.gf_reverse_search.specs.Standing.{Standing, IsBelowSomeTop}
use Rattle.gf_reverse_search.specs.Tree.{RisesBy}
use Rattle.gf_reverse_search.specs.Walk.{HasNoChild, IsLeastChild, Steps}
use Rattle.gf_reverse_search.specs.Listing.{Among, LeadTo, Leaves, IsLeftAt}
use Rattle.gf_reverse_search.specs.Pieces.{PiecesLeave, ArePiecesBelow, Follows, GoesDown, Expands, subtree}
use Rattle.gf_reverse_search.proofs.LeftLaws.{open_from_left, left_from_open}
use Rattle.gf_reverse_search.proofs.StepLaws.{up_cases, up_from, finished_open, none_cases}
use Rattle.gf_reverse_search.proofs.ClimbLaws.{last_step, Stands-start, Stands-child}
use Rattle.gf_reverse_search.proofs.SearchLaws.{found, listed_here}
use Rattle.gf_reverse_search.proofs.ListLaws.{gives}
use Rattle.gf_reverse_search.proofs.CutLaws.{halves}

-- ---- along the labels

module _ {L : Type 0} (lt : L → L → Type 0) where
  pub rises_on : (c : L) (rs : List L) → RisesBy lt (c ∷ rs) → RisesBy lt rs
  rises_on c rs r i j a b h k e f = r (suc i) (suc j) a b (omega arith) (omega arith) e f

  first_of : (c : L) (rs : List L) (b : L) → RisesBy lt (c ∷ rs) → Contains rs b → lt c b
  first_of c rs b r p = r zero (suc p.0) c b (omega arith) (let k = p.1 in omega arith) refl p.2

  contains_cases : (c : L) (rs : List L) (b : L) → Contains (c ∷ rs) b → (c ≡ b) ⊎ Contains rs b
  contains_cases c rs b (zero, h, e) = inl e
  contains_cases c rs b (suc i, h, e) = inr (i, omega arith, e)

  past_mark : IsStrictOrder lt → (m : Mark L) (c b : L) → IsBelowMark lt m (c ∷ []) → lt c b → IsBelowMark lt m (b ∷ [])
  past_mark strict Before c b h k = tt
  past_mark strict (After a) c b h k = strict.transitive a c b h k
  past_mark strict Listed c b h k = tt
  past_mark strict Finished c b h k = h

  module _ {N : Type 0} (up : N → L → N → Type 0) (u : N) (m : Mark L) (c : L) (ls rs : List L) (is : ls ≡ c ∷ rs) (rises : RisesBy lt ls)
      (among : (b : L) (w : N) → up w b u → IsBelowMark lt m (b ∷ []) → Contains ls b) where
    pub rises_next : RisesBy lt rs
    rises_next = rises_on c rs (subst (RisesBy lt) is rises)

    -- the child under the first label is the least
    pub first_least : (v : N) → up v c u → IsBelowMark lt m (c ∷ []) → (h : IsLeastChild lt up u m v) × (h.label ≡ c)
    first_least v child past = (
      record {
        label = c;
        child = child;
        past = past;
        least = λ b w other open_to. elim (contains_cases c rs b (subst (λ l. Contains l b) is (among b w other open_to))) [
          | inl e ↦ inl e
          | inr k ↦ inr (first_of c rs b (subst (RisesBy lt) is rises) k)
        ];
      },
      refl,
    )

    -- the others are past the child there
    pub among_after : IsStrictOrder lt → IsBelowMark lt m (c ∷ []) → (b : L) (w : N) → up w b u → IsBelowMark lt (After c) (b ∷ []) → Contains rs b
    among_after strict past b w child k = elim (contains_cases c rs b (subst (λ l. Contains l b) is (among b w child (past_mark strict m c b past k)))) [
      | inl e ↦ absurd (strict.irreflexive c (subst (λ x. lt c x) (sym e) k))
      | inr j ↦ j
    ]

-- one more child
pub below_more : {T N L E : Type 0} (lt : L → L → Type 0) (up : T → N → L → N → Type 0) (t : T) (u : N) (m m1 : Mark L) (ps : List (Piece T N L E))
    (w : Standing T N L) (c : L) → ArePiecesBelow lt up t u m ps m1 → w ≡ subtree t w.here → (h : IsLeastChild lt (up t) u m1 w.here) → h.label ≡ c →
    ArePiecesBelow lt up t u m (ps ++ Under w ∷ []) (After c)
below_more lt up t u m m1 [] w c b is h e = (let p = subst (λ k. (j : IsLeastChild lt (up t) u k w.here) × (After j.label ≡ After c)) (sym b) (h, ap After e) in
    (is, p.0, p.1))
below_more lt up t u m m1 (Ready v ∷ ps) w c b is h e = absurd b
below_more lt up t u m m1 (Refused x f ∷ ps) w c b is h e = absurd b
below_more lt up t u m m1 (Under x ∷ ps) w c b is h e = (b.0, b.1, below_more lt up t u (After b.1.label) m1 ps w c b.2 is h e)

-- ---- what the children leave

after_first : {N : Type 0} (v : N) (nodes rest front back : List N) → nodes ≡ v ∷ rest → rest ≡ front ++ back → nodes ≡ (v ∷ front) ++ back
after_first v nodes rest front back e f = e ∙ ap (λ w. v ∷ w) f

module _ {N L : Type 0} (lt : L → L → Type 0) (up : N → L → N → Type 0) (strict : IsStrictOrder lt) (tree : IsTree up) where
  -- a step up, from a node all of whose paths are listed
  pub leaves_above : (v u : N) (c : L) (d e : ℕ) (nodes : List N) → up v c u → d + 1 ≡ e → Leaves lt up Finished v e nodes → Leaves lt up (After c) u d nodes
  leaves_above v u c d e nodes step less l =
      elim l.path as (λ p. p ≡ l.path → Leaves lt up (After c) u d nodes) [
        | [] ↦ λ is. absurd (let k : length l.path ≡ e = l.at.long in let j : length l.path ≡ 0 = ap length (sym is) in omega arith)
        | b ∷ p ↦ λ is. (let s = last_step up l.top b p v (subst (λ x. Leads up l.top x v) (sym is) l.at.leads) in
            let e1 : s.label ≡ c = tree.one_label v s.above u s.label c s.step step in
            let e2 : s.above ≡ u = tree.one_parent v s.above u s.label c s.step step in
            let w : l.path ≡ s.path ++ c ∷ [] = sym is ∙ s.whole ∙ ap (λ x. s.path ++ x ∷ []) e1 in
            record {
              top = l.top;
              path = s.path;
              at = record {
                leads = subst (λ x. Leads up l.top s.path x) e2 s.leads;
                long = (let k : length l.path ≡ e = l.at.long in let j : length l.path ≡ length s.path + 1 = ap length w ∙ length-append s.path (c ∷ []) in
                    omega arith);
              };
              lists = record {
                paths = l.lists.paths;
                lead = l.lists.lead;
                rises = l.lists.rises;
                all = λ q path left. l.lists.all q path (left_from_open lt strict Finished l.path q
                    (subst (λ x. IsOpen lt Finished x q) (sym w) (up_from lt s.path c q (open_from_left lt strict (After c) s.path q left))));
                only = λ q j. left_from_open lt strict (After c) s.path q
                    (up_cases lt s.path c q (subst (λ x. IsOpen lt Finished x q) w (open_from_left lt strict Finished l.path q (l.lists.only q j))));
              };
            })
      ] refl

  -- where no child is left, all below the node is listed
  pub leaves_finished : (v : N) (m : Mark L) (d : ℕ) (nodes : List N) → HasNoChild lt up v m → (IsBelowMark lt m [] → ⊥) → Leaves lt up m v d nodes →
      Leaves lt up Finished v d nodes
  leaves_finished v m d nodes none past l = record {
    top = l.top;
    path = l.path;
    at = l.at;
    lists = record {
      paths = l.lists.paths;
      lead = l.lists.lead;
      rises = l.lists.rises;
      all = λ q path left. l.lists.all q path (left_from_open lt strict m l.path q
          (finished_open lt m l.path q (open_from_left lt strict Finished l.path q left)));
      only = λ q j. (let path = l.lists.only q j in left_from_open lt strict Finished l.path q (none_cases lt up tree m v past none l.top l.path l.at.leads q
          (path_of l.lists.paths nodes l.top l.lists.lead q j) (open_from_left lt strict m l.path q path)));
    };
  }
    where
      path_of : (ps : List (List L)) (xs : List N) (top : N) → LeadTo up top ps xs → (q : List L) → Among ps q → IsPath up top q
      path_of [] xs top lead q j = absurd j
      path_of (p ∷ ps) [] top lead q j = absurd lead
      path_of (p ∷ ps) (x ∷ xs) top lead q (inl e) = subst (IsPath up top) e (x, lead.0)
      path_of (p ∷ ps) (x ∷ xs) top lead q (inr j) = path_of ps xs top lead.1 q j

  -- at the top nothing follows
  pub leaves_nothing : (v : N) (d : ℕ) (nodes : List N) → ((c : L) (u : N) → up v c u → 0 < d → ⊥) → Leaves lt up Finished v d nodes → nodes ≡ []
  leaves_nothing v d nodes ends l =
      elim l.path as (λ p. p ≡ l.path → nodes ≡ []) [
        | [] ↦ λ is. none l.top l.lists.paths nodes l.lists.lead (λ q j. subst (λ x. IsOpen lt Finished x q) (sym is)
            (open_from_left lt strict Finished l.path q (l.lists.only q j)))
        | b ∷ p ↦ λ is. (let s = last_step up l.top b p v (subst (λ x. Leads up l.top x v) (sym is) l.at.leads) in
            absurd (ends s.label s.above s.step (let k : length l.path ≡ d = l.at.long in let j : suc (length p) ≡ length l.path = ap length is in
            omega arith)))
      ] refl
    where
      none : (top : N) (ps : List (List L)) (xs : List N) → LeadTo up top ps xs → ((q : List L) → Among ps q → IsOpen lt Finished [] q) → xs ≡ []
      none top [] [] lead open_at = refl
      none top [] (x ∷ xs) lead open_at = absurd lead
      none top (p ∷ ps) xs lead open_at = absurd (open_at p (inl refl))

  -- the least child comes first, with its subtree, and then what is left after its label
  pub leaves_child : (u v : N) (m : Mark L) (d : ℕ) (nodes : List N) → (IsBelowMark lt m [] → ⊥) → (h : IsLeastChild lt up u m v) → Leaves lt up m u d nodes →
      (front : List N) × (back : List N) × (nodes ≡ front ++ back) × Leaves lt up Before v 0 front × Leaves lt up (After h.label) u d back
  leaves_child u v m d nodes past h left =
      let steps : Steps lt up m u d Listed v (d + 1) (Some v) = λ top r at. found lt up strict top m r v v (d + 1) (Stands-child lt up strict tree top m r u m d
      (d + 1) v (Stands-start lt up top m r u d at) past h refl) refl in
      let g = gives lt up strict tree m u d Listed v (d + 1) (Some v) steps nodes left in
      let l = g.2 in
      let k = halves lt up strict tree l.top v l.path l.at.leads g.0 l.lists in (
        v ∷ k.front,
        k.back,
        after_first v nodes g.0 k.front k.back g.1 k.whole,
        record { top = v; path = []; at = record { leads = refl; long = refl }; lists = k.under },
        leaves_above v u h.label d (d + 1) k.back h.child refl (record { top = l.top; path = l.path; at = l.at; lists = k.past }),
      )

-- ---- what the pieces leave

module _ {T N L E : Type 0} (lt : L → L → Type 0) (up : T → N → L → N → Type 0) (strict : IsStrictOrder lt) (trees : (t : T) → IsTree (up t)) where
  -- the children first, and then what is left after the last
  pub below_leave : (t : T) (u : N) (d : ℕ) (m m1 : Mark L) (ps rest : List (Piece T N L E)) → (IsBelowMark lt m [] → ⊥) → ArePiecesBelow lt up t u m ps m1 →
      ((IsBelowMark lt m1 [] → ⊥) → (back : List N) → Leaves lt (up t) m1 u d back → PiecesLeave (IsLeftAt lt up) rest back) → (nodes : List N) →
      Leaves lt (up t) m u d nodes → PiecesLeave (IsLeftAt lt up) (ps ++ rest) nodes
  below_leave t u d m m1 [] rest past b later nodes l =
      later (subst (λ k. IsBelowMark lt k [] → ⊥) b past) nodes (subst (λ k. Leaves lt (up t) k u d nodes) b l)
  below_leave t u d m m1 (Ready v ∷ ps) rest past b later nodes l = absurd b
  below_leave t u d m m1 (Refused x e ∷ ps) rest past b later nodes l = absurd b
  below_leave t u d m m1 (Under w ∷ ps) rest past b later nodes l =
      let k = leaves_child lt (up t) strict (trees t) u w.here m d nodes past b.1 l in
      (k.0, k.1, k.2, subst (λ x. IsLeftAt lt up x k.0) (sym b.0) k.3, below_leave t u d (After b.1.label) m1 ps rest (λ h. h) b.2 later k.1 k.4)

  -- what follows them leaves that
  follows_leave : (refuses : Standing T N L → E → Type 0) (Full : Type 0) (w : Standing T N L) (rest : List (Piece T N L E)) → (IsBelowMark lt w.mark [] → ⊥) →
      Follows lt up refuses w Full rest → (nodes : List N) → IsLeftAt lt up w nodes → PiecesLeave (IsLeftAt lt up) rest nodes
  follows_leave refuses Full w [] past f nodes l = leaves_nothing lt (up w.tree) strict (trees w.tree) w.here w.depth nodes f.1
      (leaves_finished lt (up w.tree) strict (trees w.tree) w.here w.mark w.depth nodes f.0 past l)
  follows_leave refuses Full w (Ready v ∷ ps) past f nodes l = absurd f
  follows_leave refuses Full w (Under x ∷ ps) past f nodes l =
      subst (λ r. PiecesLeave (IsLeftAt lt up) (Under x ∷ r) nodes) (sym f.0) (
        nodes,
        [],
        sym (append-nil nodes),
        elim f.1 [
          | inl s ↦ subst (λ y. IsLeftAt lt up y nodes) (sym s.0) l
          | inr s ↦ (let r = s.1 in
              subst (λ t. Leaves lt (up t) x.mark x.here x.depth nodes) (sym r.tree)
              (subst (λ m. Leaves lt (up w.tree) m x.here x.depth nodes) (sym r.mark)
              (leaves_above lt (up w.tree) strict (trees w.tree) w.here x.here r.label x.depth w.depth nodes r.step r.depth
              (leaves_finished lt (up w.tree) strict (trees w.tree) w.here w.mark w.depth nodes s.0 past l))))
        ],
        refl,
      )
  follows_leave refuses Full w (Refused x e ∷ ps) past f nodes l = subst (λ r. PiecesLeave (IsLeftAt lt up) (Refused x e ∷ r) nodes) (sym f.0) (
    nodes,
    [],
    sym (append-nil nodes),
    subst (λ y. IsLeftAt lt up y nodes) (sym f.1) l,
    refl,
  )

  pub down_leaves : (refuses : Standing T N L → E → Type 0) (most : ℕ) (w : Standing T N L) (ps : List (Piece T N L E)) → GoesDown lt up refuses most w ps →
      (nodes : List N) → IsLeftAt lt up w nodes → PiecesLeave (IsLeftAt lt up) ps nodes
  down_leaves refuses most w ps g nodes l =
      subst (λ k. PiecesLeave (IsLeftAt lt up) k nodes) (sym g.whole)
      (below_leave w.tree w.here w.depth w.mark g.mark g.below g.rest g.listed g.children
      (λ past back k. follows_leave refuses (most ≤ length g.below) (record { tree = w.tree; here = w.here; mark = g.mark; depth = w.depth })
      g.rest past g.follows back k) nodes l)

  -- an expansion leaves what the walker leaves
  pub expansion_leaves : (refuses : Standing T N L → E → Type 0) (most : ℕ) (w : Standing T N L) (ps : List (Piece T N L E)) → Expands lt up refuses most w ps →
      (nodes : List N) → IsLeftAt lt up w nodes → PiecesLeave (IsLeftAt lt up) ps nodes
  expansion_leaves refuses most w ps (inl g) nodes l = down_leaves refuses most w ps g nodes l
  expansion_leaves refuses most w ps (inr h) nodes l =
      let g = gives lt (up w.tree) strict (trees w.tree) Before w.here w.depth Listed w.here w.depth (Some w.here)
      (λ top r at. listed_here lt (up w.tree) top r w.here w.here w.depth refl at) nodes (subst (λ m. Leaves lt (up w.tree) m w.here w.depth nodes)
      h.0 l) in
      subst (λ k. PiecesLeave (IsLeftAt lt up) k nodes) (sym h.1.1) (
        g.0,
        g.1,
        down_leaves refuses most (record { tree = w.tree; here = w.here; mark = Listed; depth = w.depth }) h.1.0 h.1.2 g.0 g.2,
      )

-- a walker a step up stands in its tree
pub placed_above : {T N L : Type 0} (is_node : T → N → Type 0) (up : T → N → L → N → Type 0) (w x : Standing T N L) → IsTree (up w.tree) →
    ((v : N) (c : L) (u : N) → up w.tree v c u → is_node w.tree v × is_node w.tree u) → IsBelowSomeTop is_node up w → x.tree ≡ w.tree → (c : L) →
    up w.tree w.here c x.here → x.depth + 1 ≡ w.depth → IsBelowSomeTop is_node up x
placed_above is_node up w x tree nodes p same c step less =
    elim p.path as (λ r. r ≡ p.path → IsBelowSomeTop is_node up x) [
      | [] ↦ λ is. absurd (let k : length p.path ≡ w.depth = p.at.long in let j : length p.path ≡ 0 = ap length (sym is) in omega arith)
      | b ∷ r ↦ λ is. (let s = last_step (up w.tree) p.top b r w.here (subst (λ k. Leads (up w.tree) p.top k w.here) (sym is) p.at.leads) in
          let e : s.above ≡ x.here = tree.one_parent w.here s.above x.here s.label c s.step step in
          record {
            node = subst (λ t. is_node t x.here) (sym same) (nodes w.here c x.here step).1;
            top = p.top;
            path = s.path;
            at = record {
              leads = subst (λ t. Leads (up t) p.top s.path x.here) (sym same) (subst (λ k. Leads (up w.tree) p.top s.path k) e s.leads);
              long = (let k : length p.path ≡ w.depth = p.at.long in let j : suc (length r) ≡ length p.path = ap length is in
                  let i : suc (length r) ≡ length s.path + 1 = ap length s.whole ∙ length-append s.path (s.label ∷ []) in omega arith);
            };
          })
    ] refl

-- the children and what follows them, put together
pub goes_down : {T N L E : Type 0} (lt : L → L → Type 0) (up : T → N → L → N → Type 0) (refuses : Standing T N L → E →
    Type 0) (most count : ℕ) (w : Standing T N L)
    (mark : Mark L) (below rest pieces : List (Piece T N L E)) → pieces ≡ below ++ rest → (IsBelowMark lt w.mark [] → ⊥) →
    ArePiecesBelow lt up w.tree w.here w.mark below mark → length below ≤ most → count ≡ length below →
    Follows lt up refuses (record { tree = w.tree; here = w.here; mark = mark; depth = w.depth }) (most ≤ count) rest → GoesDown lt up refuses most w pieces
goes_down lt up refuses most count w mark below rest pieces whole listed children few counted follows = record {
  below = below;
  rest = rest;
  whole = whole;
  mark = mark;
  listed = listed;
  children = children;
  few = few;
  follows = subst (λ n. Follows lt up refuses (record { tree = w.tree; here = w.here; mark = mark; depth = w.depth }) (most ≤ n) rest) counted follows;
}

pub insert_first : {X : Type 0} (xs : List X) (x : X) → insert xs 0 x ≡ x ∷ xs
insert_first [] x = refl
insert_first (y ∷ xs) x = refl
