-- No walker of a row stands behind a node that is left from it on; a wave and a call keep that.
-- `early v x` says that v doesn't come behind x.
-- To cite: AreSorted, sorted_right, IsInOrderAfter, call_order. The rest are steps.
use Rattle.std.proofs.Common.{◌≡◌, ℕ, zero, suc, ◌+◌, ◌-◌, ◌*◌, min, replicate, List, [], ◌∷◌, ◌++◌, ◌⊎◌, length, refl, sym, ap, inl, inr, subst, ◌∙◌}
use Rattle.std.proofs.Common.{append_assoc, append-nil, Option, Some, None, Ok, Err}
use Rattle.std.specs.declared.result.Result.{Result}
use Rattle.gf_reverse_search.specs.declared.mark.Mark.{Mark}
use Rattle.gf_reverse_search.specs.declared.mark.Mark.TheVariants.{Before, Listed, After}
use Rattle.gf_reverse_search.specs.declared.expand.Piece.{Piece}
use Rattle.gf_reverse_search.specs.declared.expand.Piece.TheVariants.{Ready, Under, Refused}
use Rattle.gf_reverse_search.specs.Path.{IsStrictOrder, IsTree}
use Rattle.gf_reverse_search.specs.Standing.{Standing}
use Rattle.gf_reverse_search.specs.Listing.{Among, Leaves, IsLeftAt}
use Rattle.gf_reverse_search.specs.Pieces.{ArePiecesBelow, Follows, GoesDown, PiecesLeave}
use Rattle.gf_reverse_search.proofs.ListLaws.{gives}
use Rattle.gf_reverse_search.proofs.SearchLaws.{listed_here}
use Rattle.gf_reverse_search.proofs.PiecesLaws.{expansion_leaves}
use Rattle.gf_waves.specs.Frontier.{Frontier, due_at, room_at, times_at, first_batch, behind_batch}
use Rattle.gf_waves.specs.Wave.{IsWaved, IsExpansion, ExpandsOn, IsAsked, IsGiven, IsReadied, IsCall}
use Rattle.gf_waves.proofs.WaveLaws.{over_leaves}
use Rattle.gf_subtree.specs.Rows.{AreAmong, LeaveInOrder}
use Rattle.gf_subtree.proofs.RowLaws.{among_both, one_among, cut_among}
use Rattle.gf_reverse_theory.proofs.WeightListLaws.{among-right}

-- ---- nodes in order

-- none comes behind itself or one that follows
abbrev pub AreSorted : {N : Type 0} → (N → N → Type 0) → List N → Type 0
AreSorted early [] = Unit {0}
AreSorted {N} early (x ∷ xs) = early x x × ((y : N) → Among xs y → early x y) × AreSorted early xs

pub sorted_right : {N : Type 0} (early : N → N → Type 0) (xs ys : List N) → AreSorted early (xs ++ ys) → AreSorted early ys
sorted_right early [] ys s = s
sorted_right early (x ∷ xs) ys s = sorted_right early xs ys s.2

first_early : {N : Type 0} (early : N → N → Type 0) (v : N) (rest : List N) → AreSorted early (v ∷ rest) → (x : N) → Among (v ∷ rest) x → early v x
first_early early v rest s x (inl e) = subst (early v) e s.0
first_early early v rest s x (inr j) = s.1 x j

module _ {T N L E : Type 0} (lt : L → L → Type 0) (up : T → N → L → N → Type 0) (strict : IsStrictOrder lt) (trees : (t : T) → IsTree (up t))
    (refuses : Standing T N L → E → Type 0) (early : N → N → Type 0)
    (In : T → N → Type 0) (Is : N → Type 0) (ready : (t : T) (v : N) → In t v → Is v) (down : (t : T) (v u : N) (c : L) → up t v c u → In t u → In t v)
    (rise : (t : T) (v u : N) (c : L) → up t v c u → In t v → In t u)
    (higher : (t : T) (v u : N) (c : L) (x : N) → up t v c u → In t v → early v x → early u x) where
  abbrev Orders : List N → List (Piece T N L E) → List N → Type 0
  Orders later ps nodes = LeaveInOrder (IsLeftAt lt up) early later ps nodes

  -- ---- walkers that don't stand behind any of some nodes, or stand before their own

  abbrev Fine : List N → Standing T N L → Type 0
  Fine nodes w = (w.mark ≡ Before) ⊎ ((x : N) → Among nodes x → early w.here x)

  abbrev AreFine : List N → List (Piece T N L E) → Type 0
  AreFine nodes [] = Unit {0}
  AreFine nodes (Ready v ∷ ps) = AreFine nodes ps
  AreFine nodes (Under w ∷ ps) = Fine nodes w × AreFine nodes ps
  AreFine nodes (Refused w e ∷ ps) = Fine nodes w × AreFine nodes ps

  fine_fewer : (all fewer : List N) (w : Standing T N L) → ((x : N) → Among fewer x → Among all x) → Fine all w → Fine fewer w
  fine_fewer all fewer w i (inl e) = inl e
  fine_fewer all fewer w i (inr h) = inr (λ x j. h x (i x j))

  are_fewer : (all fewer : List N) (ps : List (Piece T N L E)) → ((x : N) → Among fewer x → Among all x) → AreFine all ps → AreFine fewer ps
  are_fewer all fewer [] i f = tt
  are_fewer all fewer (Ready v ∷ ps) i f = are_fewer all fewer ps i f
  are_fewer all fewer (Under w ∷ ps) i f = (fine_fewer all fewer w i f.0, are_fewer all fewer ps i f.1)
  are_fewer all fewer (Refused w e ∷ ps) i f = (fine_fewer all fewer w i f.0, are_fewer all fewer ps i f.1)

  fine_both : (nodes : List N) (ps qs : List (Piece T N L E)) → AreFine nodes ps → AreFine nodes qs → AreFine nodes (ps ++ qs)
  fine_both nodes [] qs a b = b
  fine_both nodes (Ready v ∷ ps) qs a b = fine_both nodes ps qs a b
  fine_both nodes (Under w ∷ ps) qs a b = (a.0, fine_both nodes ps qs a.1 b)
  fine_both nodes (Refused w e ∷ ps) qs a b = (a.0, fine_both nodes ps qs a.1 b)

  -- a walker before its node has it left first
  first_here : (w : Standing T N L) (front : List N) → w.mark ≡ Before → IsLeftAt lt up w front → (rest : List N) × (front ≡ w.here ∷ rest)
  first_here w front e l =
      let g = gives lt (up w.tree) strict (trees w.tree) Before w.here w.depth Listed w.here w.depth (Some w.here)
      (λ top r at. listed_here lt (up w.tree) top r w.here w.here w.depth refl at) front (subst (λ m. Leaves lt (up w.tree) m w.here w.depth front) e l) in
      (g.0, g.1)

  fine_early : (nodes front back : List N) (w : Standing T N L) → nodes ≡ front ++ back → IsLeftAt lt up w front → AreSorted early nodes → Fine nodes w →
      (x : N) → Among nodes x → early w.here x
  fine_early nodes front back w e l s (inl m) x j =
      let f = first_here w front m l in
      let whole : nodes ≡ w.here ∷ (f.0 ++ back) = e ∙ ap (λ z. z ++ back) f.1 in
      first_early early w.here (f.0 ++ back) (subst (AreSorted early) whole s) x (subst (λ z. Among z x) whole j)
  fine_early nodes front back w e l s (inr h) x j = h x j

  -- ---- pieces of fine walkers are in order

  over_both : (later nodes front back : List N) → nodes ≡ front ++ back → nodes ++ later ≡ front ++ (back ++ later)
  over_both later nodes front back e = ap (λ z. z ++ later) e ∙ append_assoc front back later

  arrange : (later : List N) (ps : List (Piece T N L E)) (nodes : List N) → PiecesLeave (IsLeftAt lt up) ps nodes → AreSorted early (nodes ++ later) →
      AreFine (nodes ++ later) ps → Orders later ps nodes
  arrange later [] nodes l s f = l
  arrange later (Ready v ∷ ps) nodes l s f =
      let whole : nodes ++ later ≡ v ∷ (l.0 ++ later) = ap (λ z. z ++ later) l.1 in (
        l.0,
        l.1,
        arrange later ps l.0 l.2 (subst (AreSorted early) whole s).2
            (are_fewer (nodes ++ later) (l.0 ++ later) ps (λ x j. subst (λ z. Among z x) (sym whole) (inr j)) f),
      )
  arrange later (Under w ∷ ps) nodes l s f =
      let whole : nodes ++ later ≡ l.0 ++ (l.1 ++ later) = over_both later nodes l.0 l.1 l.2 in (
        l.0,
        l.1,
        l.2,
        l.3,
        fine_early (nodes ++ later) l.0 (l.1 ++ later) w whole l.3 s f.0,
        arrange later ps l.1 l.4 (sorted_right early l.0 (l.1 ++ later) (subst (AreSorted early) whole s))
            (are_fewer (nodes ++ later) (l.1 ++ later) ps (λ x j. subst (λ z. Among z x) (sym whole) (among-right l.0 (l.1 ++ later) x j)) f.1),
      )
  arrange later (Refused w e ∷ ps) nodes l s f =
      let whole : nodes ++ later ≡ l.0 ++ (l.1 ++ later) = over_both later nodes l.0 l.1 l.2 in (
        l.0,
        l.1,
        l.2,
        l.3,
        fine_early (nodes ++ later) l.0 (l.1 ++ later) w whole l.3 s f.0,
        arrange later ps l.1 l.4 (sorted_right early l.0 (l.1 ++ later) (subst (AreSorted early) whole s))
            (are_fewer (nodes ++ later) (l.1 ++ later) ps (λ x j. subst (λ z. Among z x) (sym whole) (among-right l.0 (l.1 ++ later) x j)) f.1),
      )

  order_both : (later : List N) (ps qs : List (Piece T N L E)) (front back : List N) → Orders (back ++ later) ps front → Orders later qs back →
      Orders later (ps ++ qs) (front ++ back)
  order_both later [] qs front back a b = subst (λ f. Orders later qs (f ++ back)) (sym a) b
  order_both later (Ready v ∷ ps) qs front back a b = (a.0 ++ back, ap (λ f. f ++ back) a.1, order_both later ps qs a.0 back a.2 b)
  order_both later (Under w ∷ ps) qs front back a b = (
    a.0,
    a.1 ++ back,
    ap (λ f. f ++ back) a.2 ∙ append_assoc a.0 a.1 back,
    a.3,
    (λ x j. a.4 x (subst (λ z. Among z x) (append_assoc front back later) j)),
    order_both later ps qs a.1 back a.5 b,
  )
  order_both later (Refused w e ∷ ps) qs front back a b = (
    a.0,
    a.1 ++ back,
    ap (λ f. f ++ back) a.2 ∙ append_assoc a.0 a.1 back,
    a.3,
    (λ x j. a.4 x (subst (λ z. Among z x) (append_assoc front back later) j)),
    order_both later ps qs a.1 back a.5 b,
  )

  -- ---- an expansion

  fine_children : (nodes : List N) (t : T) (u : N) (m m1 : Mark L) (ps : List (Piece T N L E)) → ArePiecesBelow lt up t u m ps m1 → AreFine nodes ps
  fine_children nodes t u m m1 [] b = tt
  fine_children nodes t u m m1 (Ready v ∷ ps) b = absurd b
  fine_children nodes t u m m1 (Under w ∷ ps) b = (inl (ap (λ (x : Standing T N L). x.mark) b.0), fine_children nodes t u (After b.1.label) m1 ps b.2)
  fine_children nodes t u m m1 (Refused w e ∷ ps) b = absurd b

  fine_follows : (nodes : List N) (Full : Type 0) (w : Standing T N L) (ps : List (Piece T N L E)) → Follows lt up refuses w Full ps → In w.tree w.here →
      ((x : N) → Among nodes x → early w.here x) → AreFine nodes ps
  fine_follows nodes Full w [] f i h = tt
  fine_follows nodes Full w (Ready v ∷ ps) f i h = absurd f
  fine_follows nodes Full w (Under x ∷ ps) f i h = (
    inr (elim f.1 [
      | inl q ↦ λ y j. subst (λ (z : Standing T N L). early z.here y) (sym q.0) (h y j)
      | inr q ↦ λ y j. higher w.tree w.here x.here q.1.label y q.1.step i (h y j)
    ]),
    subst (AreFine nodes) (sym f.0) tt,
  )
  fine_follows nodes Full w (Refused x e ∷ ps) f i h = (
    inr (λ y j. subst (λ (z : Standing T N L). early z.here y) (sym f.1) (h y j)),
    subst (AreFine nodes) (sym f.0) tt,
  )

  fine_down : (nodes : List N) (most : ℕ) (w : Standing T N L) (ps : List (Piece T N L E)) → GoesDown lt up refuses most w ps → In w.tree w.here →
      ((x : N) → Among nodes x → early w.here x) → AreFine nodes ps
  fine_down nodes most w ps g i h = subst (AreFine nodes) (sym g.whole)
      (fine_both nodes g.below g.rest (fine_children nodes w.tree w.here w.mark g.mark g.below g.children) (fine_follows nodes _ _ g.rest g.follows i h))

  fine_expansion : (nodes : List N) (w : Standing T N L) (ps : List (Piece T N L E)) → IsExpansion lt up refuses w ps → In w.tree w.here →
      ((x : N) → Among nodes x → early w.here x) → AreFine nodes ps
  fine_expansion nodes w ps (inl (inl g)) i h = fine_down nodes 1 w ps g i h
  fine_expansion nodes w ps (inl (inr q)) i h = subst (AreFine nodes) (sym q.1.1) (fine_down nodes 1 _ q.1.0 q.1.2 i h)
  fine_expansion nodes w ps (inr q) i h = subst (AreFine nodes) (sym q.1) (inr h, tt)

  leaves_expanded : (w : Standing T N L) (ps : List (Piece T N L E)) → IsExpansion lt up refuses w ps → (nodes : List N) → IsLeftAt lt up w nodes →
      PiecesLeave (IsLeftAt lt up) ps nodes
  leaves_expanded w ps (inl h) nodes l = expansion_leaves lt up strict trees refuses 1 w ps h nodes l
  leaves_expanded w ps (inr h) nodes l = subst (λ k. PiecesLeave (IsLeftAt lt up) k nodes) (sym h.1) (nodes, [], sym (append-nil nodes), l, refl)

  -- ---- a batch

  on_order : (k n : ℕ) (olds : List (Piece T N L E)) (j i : ℕ) (news : List (Piece T N L E)) → ExpandsOn lt up refuses k n olds j i news →
      (later nodes : List N) → AreAmong In Is olds → AreSorted early (nodes ++ later) → Orders later olds nodes → Orders later news nodes
  on_order zero n olds j i news h later nodes a s l = subst (λ r. Orders later r nodes) (sym h.0) l
  on_order (suc k) zero olds j i news h later nodes a s l = subst (λ r. Orders later r nodes) (sym h.0) l
  on_order (suc k) (suc zero) olds j i news h later nodes a s l = subst (λ r. Orders later r nodes) (sym h.0) l
  on_order (suc k) (suc (suc n)) [] j i news h later nodes a s l = subst (λ r. Orders later r nodes) (sym h.0) l
  on_order (suc k) (suc (suc n)) (Ready v ∷ ps) j i news h later nodes a s l =
      subst (λ r. Orders later r nodes) (sym h.1) (
        l.0,
        l.1,
        on_order (suc k) (suc (suc n)) ps j i h.0 h.2 later l.0 a.1
            (subst (AreSorted early) (ap (λ z. z ++ later) l.1) s).2 l.2,
      )
  on_order (suc k) (suc (suc n)) (Under w ∷ ps) j i news h later nodes a s l =
      on_order k (n + 3 - length h.0) (h.0 ++ ps) j i news h.2 later nodes
      (among_both lt up refuses In Is ready down rise h.0 ps (one_among lt up refuses In Is ready down rise w h.0 h.1 a.0) a.1) s
      (subst (Orders later (h.0 ++ ps)) (sym l.2) (order_both later h.0 ps l.0 l.1
      (arrange (l.1 ++ later) h.0 l.0 (leaves_expanded w h.0 h.1 l.0 l.3) (subst (AreSorted early) (over_both later nodes l.0 l.1 l.2) s)
      (fine_expansion (l.0 ++ (l.1 ++ later)) w h.0 h.1 a.0 (λ x j. l.4 x (subst (λ z. Among z x) (sym (over_both later nodes l.0 l.1 l.2)) j))))
      l.5))
  on_order (suc k) (suc (suc n)) (Refused w e ∷ ps) j i news h later nodes a s l = subst (λ r. Orders later r nodes) (sym h.0) l

  -- ---- a wave

  -- the pieces of a batch, and then those behind it
  cut_order : (c m : ℕ) (ps : List (Piece T N L E)) (later nodes : List N) → Orders later ps nodes →
      (front : List N) × (back : List N) × (nodes ≡ front ++ back) × Orders (back ++ later) (first_batch c m ps) front × Orders later (behind_batch c m ps) back
  cut_order zero m ps later nodes l = ([], nodes, refl, refl, l)
  cut_order (suc c) zero ps later nodes l = ([], nodes, refl, refl, l)
  cut_order (suc c) (suc m) [] later nodes l = ([], nodes, refl, refl, l)
  cut_order (suc c) (suc m) (Ready v ∷ ps) later nodes l =
      (let k = cut_order c (suc m - 0) ps later l.0 l.2 in (v ∷ k.0, k.1, l.1 ∙ ap (λ r. v ∷ r) k.2, (k.0, refl, k.3), k.4))
  cut_order (suc c) (suc m) (Under w ∷ ps) later nodes l =
      let k = cut_order c (suc m - 1) ps later l.1 l.5 in
      let whole : nodes ≡ (l.0 ++ k.0) ++ k.1 = l.2 ∙ ap (λ r. l.0 ++ r) k.2 ∙ sym (append_assoc l.0 k.0 k.1) in
      (l.0 ++ k.0, k.1, whole, (l.0, k.0, refl, l.3, (λ x j. l.4 x (subst (λ z. Among z x) (sym (over_both later nodes (l.0 ++ k.0) k.1 whole)) j)), k.3), k.4)
  cut_order (suc c) (suc m) (Refused w e ∷ ps) later nodes l =
      let k = cut_order c (suc m - 1) ps later l.1 l.5 in
      let whole : nodes ≡ (l.0 ++ k.0) ++ k.1 = l.2 ∙ ap (λ r. l.0 ++ r) k.2 ∙ sym (append_assoc l.0 k.0 k.1) in
      (l.0 ++ k.0, k.1, whole, (l.0, k.0, refl, l.3, (λ x j. l.4 x (subst (λ z. Among z x) (sym (over_both later nodes (l.0 ++ k.0) k.1 whole)) j)), k.3), k.4)

  waved_order : (m : ℕ) (batches : List (ℕ × ℕ)) (olds news : List (Piece T N L E)) → IsWaved lt up refuses m batches olds news → (later nodes : List N) →
      AreAmong In Is olds → AreSorted early (nodes ++ later) → Orders later olds nodes → Orders later news nodes
  waved_order zero batches olds news h later nodes a s l = subst (λ r. Orders later r nodes) (sym h) l
  waved_order (suc m) [] olds news h later nodes a s l = absurd h
  waved_order (suc m) (b ∷ batches) olds news h later nodes a s l =
      let k = cut_order 8 1 olds later nodes l in
      let among = cut_among lt up refuses In Is ready down rise 8 1 olds a in
      let sorted = subst (AreSorted early) (over_both later nodes k.0 k.1 k.2) s in
      subst (λ r. Orders later r nodes) (sym h.4) (subst (Orders later (h.0 ++ h.1)) (sym k.2) (order_both later h.0 h.1 k.0 k.1
      (on_order b.0 b.1 (first_batch 8 1 olds) h.2 h.3 h.0 h.5 (k.1 ++ later) k.0 among.0 sorted k.3)
      (waved_order m (batches ++ (h.2, min h.3 56) ∷ []) (behind_batch 8 1 olds) h.1 h.6 later k.1 among.1 (sorted_right early k.0 (k.1 ++ later) sorted) k.4)))

  readied_order : (workers batches next : ℕ) (olds worked : List (Piece T N L E)) → IsReadied lt up refuses workers batches olds next worked →
      (nodes : List N) → AreAmong In Is olds → AreSorted early (nodes ++ []) → Orders [] olds nodes → Orders [] worked nodes
  readied_order workers batches next olds worked (inl h) nodes a s l =
      waved_order (due_at workers olds * 12) (replicate (due_at workers olds) (times_at batches, room_at workers olds)) olds worked h.3 [] nodes a s l
  readied_order workers batches next olds worked (inr h) nodes a s l = subst (λ r. Orders [] r nodes) (sym h.2) l

  -- ---- an answer

  -- what is left after an answer is in order: the rest, or all where it was a refusal
  abbrev pub IsInOrderAfter : Result (Option N) E → List N → List (Piece T N L E) → Type 0
  IsInOrderAfter (Ok (Some v)) nodes news = (rest : List N) × (nodes ≡ v ∷ rest) × Orders [] news rest
  IsInOrderAfter (Ok None) nodes news = Orders [] news []
  IsInOrderAfter (Err e) nodes news = Orders [] news nodes

  asked_order : (w : Standing T N L) (ps : List (Piece T N L E)) (answer : Result (Option N) E) (news : List (Piece T N L E)) →
      IsAsked lt up refuses w ps answer news → (nodes : List N) → AreSorted early nodes → Orders [] (Under w ∷ ps) nodes → IsInOrderAfter answer nodes news
  asked_order w ps (Ok None) news a nodes s l = absurd a
  asked_order w ps (Err e) news a nodes s l = subst (λ r. Orders [] r nodes) (sym a.1) l
  asked_order w ps (Ok (Some v)) news a nodes s l =
      let x = a.0 in
      let g = gives lt (up w.tree) strict (trees w.tree) w.mark w.here w.depth x.mark x.here x.depth (Some v) a.1 l.0 l.3 in
      let whole : nodes ≡ v ∷ (g.0 ++ l.1) = l.2 ∙ ap (λ f. f ++ l.1) g.1 in
      let is_here : v ≡ x.here = (a.1 l.3.top l.3.path l.3.at).node in
      let sorted : AreSorted early (v ∷ (g.0 ++ l.1)) = subst (AreSorted early) whole s in (
        g.0 ++ l.1,
        whole,
        subst (λ r. Orders [] r (g.0 ++ l.1)) (sym a.3) (
          g.0,
          l.1,
          refl,
          subst (λ t. Leaves lt (up t) x.mark x.here x.depth g.0) (sym a.2) g.2,
          (λ y j. subst (λ z. early z y) is_here (sorted.1 y (subst (λ z. Among z y) (append-nil (g.0 ++ l.1)) j))),
          l.5,
        ),
      )

  given_order : (olds : List (Piece T N L E)) (answer : Result (Option N) E) (news : List (Piece T N L E)) → IsGiven lt up refuses olds answer news →
      (nodes : List N) → AreSorted early nodes → Orders [] olds nodes → IsInOrderAfter answer nodes news
  given_order [] answer news h nodes s l = subst (λ r. IsInOrderAfter r nodes news) (sym h.0) (subst (λ r. Orders [] r []) (sym h.1) refl)
  given_order (Ready v ∷ ps) answer news h nodes s l = subst (λ r. IsInOrderAfter r nodes news) (sym h.0) (l.0, l.1, subst (λ r. Orders [] r l.0) (sym h.1) l.2)
  given_order (Refused w e ∷ ps) answer news h nodes s l = subst (λ r. IsInOrderAfter r nodes news) (sym h.0) (subst (λ r. Orders [] r nodes) (sym h.1) l)
  given_order (Under w ∷ ps) answer news (inl a) nodes s l = asked_order w ps answer news a nodes s l
  given_order (Under w ∷ ps) answer news (inr h) nodes s l =
      let none = over_leaves lt up strict trees refuses w h.0 l.0 l.3 in
      let whole : nodes ≡ l.1 = l.2 ∙ ap (λ f. f ++ l.1) none in
      given_order ps answer news h.1 nodes s (subst (Orders [] ps) (sym whole) l.5)

  -- ---- a call

  pub call_order : (is_memory : E → Type 0) (old : Frontier T N L E) (answer : Result (Option N) E) (new : Frontier T N L E) →
      IsCall lt up refuses is_memory old answer new → (nodes : List N) → AreAmong In Is old.pieces → AreSorted early nodes → Orders [] old.pieces nodes →
      IsInOrderAfter answer nodes new.pieces
  call_order is_memory old answer new (inl h) nodes a s l =
      given_order h.0 answer new.pieces h.2 nodes s (readied_order old.workers old.batches new.batches old.pieces h.0 h.1 nodes a
      (subst (AreSorted early) (sym (append-nil nodes)) s) l)
  call_order is_memory old answer new (inr h) nodes a s l =
      subst (λ r. IsInOrderAfter r nodes new.pieces) (sym h.1) (subst (λ (f : Frontier T N L E). Orders [] f.pieces nodes) (sym h.5) l)
