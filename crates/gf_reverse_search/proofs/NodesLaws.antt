-- An iterator over what a walker has left: how many items may come, and that each call leaves fewer.
-- To cite: bounded, bounded-open, bounded-next, fewer-next.
use Rattle.std.proofs.Common.{◌≡◌, ℕ, suc, ◌+◌, ◌-◌, ◌<◌, List, [], ◌∷◌, length, sym, ap, subst, ◌∙◌, arith, Some, Bool, true, false, cond, ◌⊎◌, inl, inr}
use Rattle.gf_reverse_search.specs.Path.{IsStrictOrder, IsTree, Leads}
use Rattle.gf_reverse_search.specs.Standing.{Standing, IsBelowSomeTop}
use Rattle.gf_reverse_search.specs.Walk.{Advances}
use Rattle.gf_reverse_search.specs.Listing.{Lists, IsLeftAt, IsFirstOf}
use Rattle.gf_reverse_search.specs.Whole.{IsFinite}
use Rattle.gf_reverse_search.specs.Nodes.{HasFewLeft}
use Rattle.gf_reverse_search.proofs.ListLaws.{lists_of}
use Rattle.gf_reverse_search.proofs.KeptLaws.{kept}

module _ {N L : Type 0} (up : N → L → N → Type 0) (count : N → ℕ) (level : (v : N) (c : L) (u : N) → up v c u → count v ≡ count u) where
  count_below : (s : N) (q : List L) (x : N) → Leads up s q x → count x ≡ count s
  count_below s [] x h = ap count (sym h)
  count_below s (c ∷ q) x h = count_below h.0 q x h.2 ∙ level h.0 c s h.1

module _ {N L : Type 0} (up : N → L → N → Type 0) (is_node : N → Type 0) (nodes : (v : N) (c : L) (u : N) → up v c u → is_node v × is_node u) where
  top_is_node : (s : N) (q : List L) (x : N) → Leads up s q x → is_node x → is_node s
  top_is_node s [] x h n = subst is_node (sym h) n
  top_is_node s (c ∷ q) x h n = (nodes h.0 c s h.1).1

module _ {T N L : Type 0} (lt : L → L → Type 0) (up : T → N → L → N → Type 0) (is_node : T → N → Type 0) (count : T → N → ℕ) where
  -- before any item
  pub bounded : (strict : IsStrictOrder lt) (t : T) → IsTree (up t) → ((v : N) (c : L) (u : N) → up t v c u → is_node t v × is_node t u) →
      ((v : N) (c : L) (u : N) → up t v c u → count t v ≡ count t u) → ((top : N) → is_node t top → IsFinite lt (up t) top (count t top)) →
      (p : Standing T N L) → p.tree ≡ t → IsBelowSomeTop is_node up p → (n : ℕ) → n ≡ 0 → HasFewLeft lt up count p n
  bounded strict t tree nodes level finite p e placed n none =
      let at = subst (λ w. Leads (up w) placed.top placed.path p.here) e placed.at.leads in
      let f = finite placed.top (top_is_node (up t) (is_node t) nodes placed.top placed.path p.here at (subst (λ w. is_node w p.here) e placed.node)) in
      let k = kept lt (up t) strict placed.top p.mark placed.path f.nodes (lists_of lt (up t) strict tree placed.top f.nodes f.leaves) in
      let same : count t p.here ≡ count t placed.top = count_below (up t) (count t) level placed.top placed.path p.here at in
      record {
        rest = k.nodes;
        left = record {
          top = placed.top;
          path = placed.path;
          at = placed.at;
          lists = subst (λ w. Lists lt (up w) placed.top p.mark placed.path k.nodes) (sym e) k.lists;
        };
        few = (let a = k.few in let b = f.few in let c : count p.tree p.here ≡ count t p.here = ap (λ w. count w p.here) e in omega arith);
      }

  -- after an item
  pub bounded-next : (p q : Standing T N L) → ((v : N) (c : L) (u : N) → up p.tree v c u → count p.tree v ≡ count p.tree u) → q.tree ≡ p.tree → (v : N) →
      Advances lt up p q (Some v) → ((nodes : List N) → IsLeftAt lt up p nodes → IsFirstOf (IsLeftAt lt up q) nodes (Some v)) → (n m : ℕ) → m ≡ n + 1 →
      HasFewLeft lt up count p n → HasFewLeft lt up count q m × (n < count p.tree p.here) × (count q.tree q.here ≡ count p.tree p.here)
  bounded-next p q level e v steps gives n m more b =
      let f = gives b.rest b.left in
      let long : length b.rest ≡ suc (length f.0) = ap length f.1 in
      let next = steps b.left.top b.left.path b.left.at in
      let same : count q.tree q.here ≡ count p.tree p.here =
      ap (λ w. count w q.here) e ∙ count_below (up p.tree) (count p.tree) level b.left.top next.path q.here next.at.leads ∙
      sym (count_below (up p.tree) (count p.tree) level b.left.top b.left.path p.here b.left.at.leads) in
      (record { rest = f.0; left = f.2; few = (let w = b.few in omega arith) }, (let w = b.few in omega arith), same)

-- an iterator that has not ended is bounded
pub bounded-open : (ended : Bool) (B : Type 0) → ended ≡ false → (ended ≡ true) ⊎ B → B
bounded-open ended B open_at (inl e) = absurd (let f : true ≡ false = sym e ∙ open_at in cc)
bounded-open ended B open_at (inr b) = b

-- fewer are to come
pub fewer-next : (n m count0 count1 : ℕ) (ended0 ended1 : Bool) → ended0 ≡ false → ended1 ≡ false → m ≡ n + 1 → n < count0 → count1 ≡ count0 →
    cond ended1 0 (suc (count1 - m)) < cond ended0 0 (suc (count0 - n))
fewer-next n m count0 count1 ended0 ended1 at0 at1 more small same = rw (at0, at1) (omega arith)
