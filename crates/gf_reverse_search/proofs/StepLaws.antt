-- The steps of a walk, by what each leaves.
-- To cite: up_cases, up_from, none_cases, down_cases, down_from, finished_open, Leads-snoc.
use Rattle.std.proofs.Common.{◌≡◌, List, [], ◌∷◌, ◌++◌, ◌⊎◌, refl, sym, inl, inr, subst}
use Rattle.gf_reverse_search.specs.declared.mark.Mark.{Mark}
use Rattle.gf_reverse_search.specs.declared.mark.Mark.TheVariants.{Before, After, Listed, Finished}
use Rattle.gf_reverse_search.specs.Path.{IsTree, Leads, IsPath}
use Rattle.gf_reverse_search.specs.Left.{IsBelowMark, IsOpen}

-- a way down, one step longer
pub Leads-snoc : {N L : Type 0} (up : N → L → N → Type 0) (s : N) (r : List L) (x : N) (c : L) (v : N) → Leads up s r x → up v c x → Leads up s (r ++ c ∷ []) v
Leads-snoc up s [] x c v h k = (v, subst (λ y. up v c y) (sym h) k, refl)
Leads-snoc up s (b ∷ r) x c v h k = (h.0, h.1, Leads-snoc up h.0 r x c v h.2 k)

-- whether a mark lets a path pass depends on its first label
pub below_head : {L : Type 0} (lt : L → L → Type 0) (m : Mark L) (b : L) (q p : List L) → IsBelowMark lt m (b ∷ q) → IsBelowMark lt m (b ∷ p)
below_head lt Before b q p h = h
below_head lt (After a) b q p h = h
below_head lt Listed b q p h = h
below_head lt Finished b q p h = h

-- up from a node all of whose paths are listed
pub up_cases : {L : Type 0} (lt : L → L → Type 0) (r : List L) (c : L) (q : List L) → IsOpen lt Finished (r ++ c ∷ []) q → IsOpen lt (After c) r q
up_cases lt [] c [] h = absurd h
up_cases lt [] c (b ∷ q) (inl h) = h
up_cases lt [] c (b ∷ q) (inr h) = absurd h.1
up_cases lt (d ∷ r) c [] h = h
up_cases lt (d ∷ r) c (b ∷ q) (inl h) = inl h
up_cases lt (d ∷ r) c (b ∷ q) (inr h) = inr (h.0, up_cases lt r c q h.1)

pub up_from : {L : Type 0} (lt : L → L → Type 0) (r : List L) (c : L) (q : List L) → IsOpen lt (After c) r q → IsOpen lt Finished (r ++ c ∷ []) q
up_from lt [] c [] h = absurd h
up_from lt [] c (b ∷ q) h = inl h
up_from lt (d ∷ r) c [] h = h
up_from lt (d ∷ r) c (b ∷ q) (inl h) = inl h
up_from lt (d ∷ r) c (b ∷ q) (inr h) = inr (h.0, up_from lt r c q h.1)

-- all that is left when all below a node is listed was left before
pub finished_open : {L : Type 0} (lt : L → L → Type 0) (m : Mark L) (r q : List L) → IsOpen lt Finished r q → IsOpen lt m r q
finished_open lt m [] q h = absurd h
finished_open lt m (d ∷ r) [] h = h
finished_open lt m (d ∷ r) (b ∷ q) (inl h) = inl h
finished_open lt m (d ∷ r) (b ∷ q) (inr h) = inr (h.0, finished_open lt m r q h.1)

module _ {N L : Type 0} (lt : L → L → Type 0) (up : N → L → N → Type 0) (tree : IsTree up) where
  -- no child after the mark
  pub none_cases : (m : Mark L) (x : N) → (IsBelowMark lt m [] → ⊥) → ((b : L) (w : N) → up w b x → IsBelowMark lt m (b ∷ []) → ⊥) →
      (s : N) (r : List L) → Leads up s r x → (q : List L) → IsPath up s q → IsOpen lt m r q → IsOpen lt Finished r q
  none_cases m x past none s [] way [] path h = absurd (past h)
  none_cases m x past none s [] way (b ∷ q) path h =
      let w = path.1 in
      none b w.0 (subst (λ y. up w.0 b y) way w.1) (below_head lt m b q [] h)
  none_cases m x past none s (d ∷ r) way [] path h = absurd h
  none_cases m x past none s (d ∷ r) way (b ∷ q) path (inl h) = inl h
  none_cases m x past none s (d ∷ r) way (b ∷ q) path (inr h) =
      let w = path.1 in
      let e : way.0 ≡ w.0 = tree.one_child way.0 w.0 s d way.1 (subst (λ y. up w.0 y s) (sym h.0) w.1) in
      inr (h.0, none_cases m x past none way.0 r way.2 q (path.0, subst (λ y. Leads up y q path.0) (sym e) w.2) h.1)

  -- the least child after the mark, and what is left after it
  pub down_cases : (m : Mark L) (x : N) (c : L) → (IsBelowMark lt m [] → ⊥) → ((b : L) (w : N) → up w b x → IsBelowMark lt m (b ∷ []) → (c ≡ b) ⊎ lt c b) →
      (s : N) (r : List L) → Leads up s r x → (q : List L) → IsPath up s q → IsOpen lt m r q → (r ++ c ∷ [] ≡ q) ⊎ IsOpen lt Listed (r ++ c ∷ []) q
  down_cases m x c past least s [] way [] path h = absurd (past h)
  down_cases m x c past least s [] way (b ∷ q) path h =
      let w = path.1 in
      elim (least b w.0 (subst (λ y. up w.0 b y) way w.1) (below_head lt m b q [] h)) [
        | inl e ↦ elim q as (λ t. (c ∷ [] ≡ b ∷ t) ⊎ IsOpen lt Listed (c ∷ []) (b ∷ t)) [ [] ↦ inl cc | _ ∷ _ ↦ inr (inr (e, tt)) ]
        | inr k ↦ inr (inl k)
      ]
  down_cases m x c past least s (d ∷ r) way [] path h = absurd h
  down_cases m x c past least s (d ∷ r) way (b ∷ q) path (inl h) = inr (inl h)
  down_cases m x c past least s (d ∷ r) way (b ∷ q) path (inr h) =
      let w = path.1 in
      let e : way.0 ≡ w.0 = tree.one_child way.0 w.0 s d way.1 (subst (λ y. up w.0 y s) (sym h.0) w.1) in
      elim (down_cases m x c past least way.0 r way.2 q (path.0, subst (λ y. Leads up y q path.0) (sym e) w.2) h.1) [
        | inl k ↦ inl (let f : d ≡ b = h.0 in cc)
        | inr k ↦ inr (inr (h.0, k))
      ]

open_child : {L : Type 0} (lt : L → L → Type 0) (m : Mark L) (c : L) → IsBelowMark lt m (c ∷ []) → (r : List L) → IsOpen lt m r (r ++ c ∷ [])
open_child lt m c at [] = at
open_child lt m c at (d ∷ r) = inr (refl, open_child lt m c at r)

-- and back: no path is needed
pub down_from : {L : Type 0} (lt : L → L → Type 0) (m : Mark L) (c : L) → IsBelowMark lt m (c ∷ []) → ((b : L) → lt c b → IsBelowMark lt m (b ∷ [])) →
    (r q : List L) → (r ++ c ∷ [] ≡ q) ⊎ IsOpen lt Listed (r ++ c ∷ []) q → IsOpen lt m r q
down_from lt m c at above r q (inl e) = subst (λ x. IsOpen lt m r x) e (open_child lt m c at r)
down_from lt m c at above [] [] (inr h) = absurd h
down_from lt m c at above [] (b ∷ q) (inr h) = elim h [
  | inl k ↦ below_head lt m b [] q (above b k)
  | inr k ↦ below_head lt m b [] q (subst (λ y. IsBelowMark lt m (y ∷ [])) k.0 at)
]
down_from lt m c at above (d ∷ r) [] (inr h) = absurd h
down_from lt m c at above (d ∷ r) (b ∷ q) (inr h) = elim h [
  | inl k ↦ inl k
  | inr k ↦ inr (k.0, down_from lt m c at above r q (inr k.1))
]
