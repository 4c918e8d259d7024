-- A wave and a call keep what is left.
-- To cite: over_leaves, given_leaves, readied_leaves.
use Rattle.std.proofs.Common.{◌≡◌, ℕ, zero, suc, ◌+◌, ◌-◌, ◌*◌, min, replicate, List, [], ◌∷◌, ◌++◌, length, refl, sym, ap, inl, inr, subst, ◌∙◌, append_assoc}
use Rattle.std.proofs.Common.{append-nil, Option, Some, None, Ok, Err}
use Rattle.std.specs.declared.result.Result.{Result}
use Rattle.gf_reverse_search.specs.Path.{IsPath, IsStrictOrder, IsTree}
use Rattle.gf_reverse_search.specs.Standing.{Standing}
use Rattle.gf_reverse_search.specs.Listing.{Among, LeadTo, Leaves, IsLeftAt}
use Rattle.gf_reverse_search.specs.Pieces.{PiecesLeave}
use Rattle.gf_reverse_search.specs.declared.expand.Piece.{Piece}
use Rattle.gf_reverse_search.specs.declared.expand.Piece.TheVariants.{Ready, Under, Refused}
use Rattle.gf_reverse_search.proofs.PiecesLaws.{expansion_leaves}
use Rattle.gf_waves.specs.Wave.{IsWaved, IsExpansion, ExpandsOn, IsGiven, IsAsked, IsReadied, IsAfter}
use Rattle.gf_waves.specs.Frontier.{due_at, room_at, times_at, first_batch, behind_batch}
use Rattle.gf_reverse_search.specs.Walk.{IsOver}
use Rattle.gf_reverse_search.proofs.ListLaws.{gives}

-- the pieces of two rows, one after the other
leave_both : {T N L E : Type 0} (left : Standing T N L → List N → Type 0) (ps qs : List (Piece T N L E)) (front back : List N) → PiecesLeave left ps front →
    PiecesLeave left qs back → PiecesLeave left (ps ++ qs) (front ++ back)
leave_both left [] qs front back a b = subst (λ f. PiecesLeave left qs (f ++ back)) (sym a) b
leave_both left (Ready v ∷ ps) qs front back a b = (a.0 ++ back, ap (λ f. f ++ back) a.1, leave_both left ps qs a.0 back a.2 b)
leave_both left (Under w ∷ ps) qs front back a b = (
  a.0,
  a.1 ++ back,
  ap (λ f. f ++ back) a.2 ∙ append_assoc a.0 a.1 back,
  a.3,
  leave_both left ps qs a.1 back a.4 b,
)
leave_both left (Refused w e ∷ ps) qs front back a b = (
  a.0,
  a.1 ++ back,
  ap (λ f. f ++ back) a.2 ∙ append_assoc a.0 a.1 back,
  a.3,
  leave_both left ps qs a.1 back a.4 b,
)

-- the pieces of a batch, and then those behind it
cut_leaves : {T N L E : Type 0} (left : Standing T N L → List N → Type 0) (c m : ℕ) (ps : List (Piece T N L E)) (nodes : List N) → PiecesLeave left ps nodes →
    (front : List N) × (back : List N) × (nodes ≡ front ++ back) × PiecesLeave left (first_batch c m ps) front × PiecesLeave left (behind_batch c m ps) back
cut_leaves left zero m ps nodes l = ([], nodes, refl, refl, l)
cut_leaves left (suc c) zero ps nodes l = ([], nodes, refl, refl, l)
cut_leaves left (suc c) (suc m) [] nodes l = ([], nodes, refl, refl, l)
cut_leaves left (suc c) (suc m) (Ready v ∷ ps) nodes l =
    (let k = cut_leaves left c (suc m - 0) ps l.0 l.2 in (v ∷ k.0, k.1, l.1 ∙ ap (λ r. v ∷ r) k.2, (k.0, refl, k.3), k.4))
cut_leaves left (suc c) (suc m) (Under w ∷ ps) nodes l = (let k = cut_leaves left c (suc m - 1) ps l.1 l.4 in
    (l.0 ++ k.0, k.1, l.2 ∙ ap (λ r. l.0 ++ r) k.2 ∙ sym (append_assoc l.0 k.0 k.1), (l.0, k.0, refl, l.3, k.3), k.4))
cut_leaves left (suc c) (suc m) (Refused w e ∷ ps) nodes l = (let k = cut_leaves left c (suc m - 1) ps l.1 l.4 in
    (l.0 ++ k.0, k.1, l.2 ∙ ap (λ r. l.0 ++ r) k.2 ∙ sym (append_assoc l.0 k.0 k.1), (l.0, k.0, refl, l.3, k.3), k.4))

module _ {T N L E : Type 0} (lt : L → L → Type 0) (up : T → N → L → N → Type 0) (strict : IsStrictOrder lt) (trees : (t : T) → IsTree (up t))
    (refuses : Standing T N L → E → Type 0) where
  one_leaves : (w : Standing T N L) (ps : List (Piece T N L E)) → IsExpansion lt up refuses w ps → (nodes : List N) → IsLeftAt lt up w nodes →
      PiecesLeave (IsLeftAt lt up) ps nodes
  one_leaves w ps (inl h) nodes l = expansion_leaves lt up strict trees refuses 1 w ps h nodes l
  one_leaves w ps (inr h) nodes l = subst (λ k. PiecesLeave (IsLeftAt lt up) k nodes) (sym h.1) (nodes, [], sym (append-nil nodes), l, refl)

  -- a batch leaves what was left
  on_leaves : (k n : ℕ) (olds : List (Piece T N L E)) (j i : ℕ) (news : List (Piece T N L E)) → ExpandsOn lt up refuses k n olds j i news → (nodes : List N) →
      PiecesLeave (IsLeftAt lt up) olds nodes → PiecesLeave (IsLeftAt lt up) news nodes
  on_leaves zero n olds j i news h nodes l = subst (λ r. PiecesLeave (IsLeftAt lt up) r nodes) (sym h.0) l
  on_leaves (suc k) zero olds j i news h nodes l = subst (λ r. PiecesLeave (IsLeftAt lt up) r nodes) (sym h.0) l
  on_leaves (suc k) (suc zero) olds j i news h nodes l = subst (λ r. PiecesLeave (IsLeftAt lt up) r nodes) (sym h.0) l
  on_leaves (suc k) (suc (suc n)) [] j i news h nodes l = subst (λ r. PiecesLeave (IsLeftAt lt up) r nodes) (sym h.0) l
  on_leaves (suc k) (suc (suc n)) (Ready v ∷ ps) j i news h nodes l =
      subst (λ r. PiecesLeave (IsLeftAt lt up) r nodes) (sym h.1) (l.0, l.1, on_leaves (suc k) (suc (suc n)) ps j i h.0 h.2 l.0 l.2)
  on_leaves (suc k) (suc (suc n)) (Under w ∷ ps) j i news h nodes l = on_leaves k (n + 3 - length h.0) (h.0 ++ ps) j i news h.2 nodes
      (subst (PiecesLeave (IsLeftAt lt up) (h.0 ++ ps)) (sym l.2) (leave_both (IsLeftAt lt up) h.0 ps l.0 l.1 (one_leaves w h.0 h.1 l.0 l.3) l.4))
  on_leaves (suc k) (suc (suc n)) (Refused w e ∷ ps) j i news h nodes l = subst (λ r. PiecesLeave (IsLeftAt lt up) r nodes) (sym h.0) l

  -- a wave leaves what was left
  pub waved_leaves : (m : ℕ) (batches : List (ℕ × ℕ)) (olds news : List (Piece T N L E)) → IsWaved lt up refuses m batches olds news → (nodes : List N) →
      PiecesLeave (IsLeftAt lt up) olds nodes → PiecesLeave (IsLeftAt lt up) news nodes
  waved_leaves zero batches olds news h nodes l = subst (λ r. PiecesLeave (IsLeftAt lt up) r nodes) (sym h) l
  waved_leaves (suc m) [] olds news h nodes l = absurd h
  waved_leaves (suc m) (b ∷ batches) olds news h nodes l =
      let k = cut_leaves (IsLeftAt lt up) 8 1 olds nodes l in
      subst (λ r. PiecesLeave (IsLeftAt lt up) r nodes) (sym h.4) (subst (PiecesLeave (IsLeftAt lt up) (h.0 ++ h.1)) (sym k.2)
      (leave_both (IsLeftAt lt up) h.0 h.1 k.0 k.1 (on_leaves b.0 b.1 (first_batch 8 1 olds) h.2 h.3 h.0 h.5 k.0 k.3)
      (waved_leaves m (batches ++ (h.2, min h.3 56) ∷ []) (behind_batch 8 1 olds) h.1 h.6 k.1 k.4)))

-- ---- an answer

module _ {T N L E : Type 0} (lt : L → L → Type 0) (up : T → N → L → N → Type 0) (strict : IsStrictOrder lt) (trees : (t : T) → IsTree (up t))
    (refuses : Standing T N L → E → Type 0) where
  pub over_leaves : (w : Standing T N L) → IsOver lt up w → (nodes : List N) → IsLeftAt lt up w nodes → nodes ≡ []
  over_leaves w over nodes l = none l.lists.paths nodes l.lists.lead (λ q j path. over l.top l.path l.at q path (l.lists.only q j))
    where
      none : (ps : List (List L)) (xs : List N) → LeadTo (up w.tree) l.top ps xs → ((q : List L) → Among ps q → IsPath (up w.tree) l.top q → ⊥) → xs ≡ []
      none [] [] lead empty = refl
      none [] (x ∷ xs) lead empty = absurd lead
      none (p ∷ ps) [] lead empty = absurd lead
      none (p ∷ ps) (x ∷ xs) lead empty = absurd (empty p (inl refl) (x, lead.0))

  asked_leaves : (w : Standing T N L) (ps : List (Piece T N L E)) (answer : Result (Option N) E) (news : List (Piece T N L E)) →
      IsAsked lt up refuses w ps answer news → (nodes : List N) → PiecesLeave (IsLeftAt lt up) (Under w ∷ ps) nodes → IsAfter (IsLeftAt lt up) answer nodes news
  asked_leaves w ps (Ok None) news a nodes l = absurd a
  asked_leaves w ps (Err e) news a nodes l = subst (λ r. PiecesLeave (IsLeftAt lt up) r nodes) (sym a.1) l
  asked_leaves w ps (Ok (Some v)) news a nodes l =
      let x = a.0 in
      let g = gives lt (up w.tree) strict (trees w.tree) w.mark w.here w.depth x.mark x.here x.depth (Some v) a.1 l.0 l.3 in (
        g.0 ++ l.1,
        l.2 ∙ ap (λ f. f ++ l.1) g.1,
        subst (λ r. PiecesLeave (IsLeftAt lt up) r (g.0 ++ l.1)) (sym a.3) (
          g.0,
          l.1,
          refl,
          subst (λ t. Leaves lt (up t) x.mark x.here x.depth g.0) (sym a.2) g.2,
          l.4,
        ),
      )

  -- an answer is the first of what is left
  pub given_leaves : (olds : List (Piece T N L E)) (answer : Result (Option N) E) (news : List (Piece T N L E)) → IsGiven lt up refuses olds answer news →
      (nodes : List N) → PiecesLeave (IsLeftAt lt up) olds nodes → IsAfter (IsLeftAt lt up) answer nodes news
  given_leaves [] answer news h nodes l = subst (λ a. IsAfter (IsLeftAt lt up) a nodes news) (sym h.0)
      (l, subst (λ r. PiecesLeave (IsLeftAt lt up) r []) (sym h.1) refl)
  given_leaves (Ready v ∷ ps) answer news h nodes l = subst (λ a. IsAfter (IsLeftAt lt up) a nodes news) (sym h.0) (
    l.0,
    l.1,
    subst (λ r. PiecesLeave (IsLeftAt lt up) r l.0) (sym h.1) l.2,
  )
  given_leaves (Refused w e ∷ ps) answer news h nodes l = subst (λ a. IsAfter (IsLeftAt lt up) a nodes news) (sym h.0)
      (subst (λ r. PiecesLeave (IsLeftAt lt up) r nodes) (sym h.1) l)
  given_leaves (Under w ∷ ps) answer news (inl a) nodes l = asked_leaves w ps answer news a nodes l
  given_leaves (Under w ∷ ps) answer news (inr h) nodes l =
      given_leaves ps answer news h.1 nodes (subst (λ k. PiecesLeave (IsLeftAt lt up) ps k) (sym (l.2 ∙ ap (λ f. f ++ l.1) (over_leaves w h.0 l.0 l.3))) l.4)

  pub readied_leaves : (workers batches next : ℕ) (olds worked : List (Piece T N L E)) → IsReadied lt up refuses workers batches olds next worked →
      (nodes : List N) → PiecesLeave (IsLeftAt lt up) olds nodes → PiecesLeave (IsLeftAt lt up) worked nodes
  readied_leaves workers batches next olds worked (inl h) nodes l =
      waved_leaves lt up strict trees refuses (due_at workers olds * 12) (replicate (due_at workers olds) (times_at batches, room_at workers olds))
      olds worked h.3 nodes l
  readied_leaves workers batches next olds worked (inr h) nodes l = subst (λ r. PiecesLeave (IsLeftAt lt up) r nodes) (sym h.2) l
