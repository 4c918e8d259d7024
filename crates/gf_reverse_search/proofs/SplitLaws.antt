-- A walker's step, said of its two parts.
-- To cite: split_parts.
use Rattle.std.proofs.Common.{◌≡◌, ℕ, List, [], ◌∷◌, refl, sym, ap, subst, ◌∙◌, Some}
use Rattle.gf_reverse_search.specs.declared.mark.Mark.{Mark}
use Rattle.gf_reverse_search.specs.declared.mark.Mark.TheVariants.{Before, Listed, Finished}
use Rattle.gf_reverse_search.specs.Path.{IsStrictOrder, IsTree}
use Rattle.gf_reverse_search.specs.Standing.{Standing}
use Rattle.gf_reverse_search.specs.Walk.{Steps, Advances}
use Rattle.gf_reverse_search.specs.Listing.{Leaves, Lists, IsLeftAt}
use Rattle.gf_reverse_search.specs.Split.{AreSplitParts}
use Rattle.gf_reverse_search.proofs.ListLaws.{gives}
use Rattle.gf_reverse_search.proofs.CutLaws.{halves}

module _ {T N L : Type 0} (lt : L → L → Type 0) (up : T → N → L → N → Type 0) (strict : IsStrictOrder lt) (t : T) (tree : IsTree (up t)) where
  parts_here : (m0 : Mark L) (here0 : N) (d0 : ℕ) (m1 : Mark L) (here : N) (d : ℕ) → Steps lt (up t) m0 here0 d0 m1 here d (Some here) → m1 ≡ Listed →
      (nodes : List N) → Leaves lt (up t) m0 here0 d0 nodes → AreSplitParts {T = T} {N = N} {L = L} lt up nodes
      (record { tree = t; here = here; mark = Before; depth = 0 }) (record { tree = t; here = here; mark = Finished; depth = d })
  parts_here m0 here0 d0 m1 here d steps listed nodes left =
      let g = gives lt (up t) strict tree m0 here0 d0 m1 here d (Some here) steps nodes left in
      let l = g.2 in
      let h = halves lt (up t) strict tree l.top here l.path l.at.leads g.0 (subst (λ m. Lists lt (up t) l.top m l.path g.0) listed l.lists) in
      record {
        front = h.front;
        back = h.back;
        whole = g.1 ∙ ap (λ w. here ∷ w) h.whole;
        under = record { top = here; path = []; at = record { leads = refl; long = refl }; lists = h.under };
        past = record { top = l.top; path = l.path; at = l.at; lists = h.past };
      }

  parts : (m0 : Mark L) (here0 : N) (d0 : ℕ) (m1 : Mark L) (here v : N) (d : ℕ) (t1 t2 : T) → t1 ≡ t → t2 ≡ t → Steps lt (up t) m0 here0 d0 m1 here d (Some v) →
      (nodes : List N) → Leaves lt (up t) m0 here0 d0 nodes → AreSplitParts {T = T} {N = N} {L = L} lt up nodes
      (record { tree = t1; here = v; mark = Before; depth = 0 }) (record { tree = t2; here = here; mark = Finished; depth = d })
  parts m0 here0 d0 m1 here v d t1 t2 e1 e2 steps nodes left =
      let n = steps left.top left.path left.at in
      let whole = parts_here m0 here0 d0 m1 here d (subst (λ w. Steps lt (up t) m0 here0 d0 m1 here d (Some w)) n.node steps) n.listed nodes left in
      subst (λ w. AreSplitParts {T = T} {N = N} {L = L} lt up nodes (record { tree = w; here = v; mark = Before; depth = 0 })
      (record { tree = t2; here = here; mark = Finished; depth = d })) (sym e1)
      (subst (λ w. AreSplitParts {T = T} {N = N} {L = L} lt up nodes (record { tree = t; here = v; mark = Before; depth = 0 })
      (record { tree = w; here = here; mark = Finished; depth = d })) (sym e2)
      (subst (λ w. AreSplitParts {T = T} {N = N} {L = L} lt up nodes (record { tree = t; here = w; mark = Before; depth = 0 })
      (record { tree = t; here = here; mark = Finished; depth = d })) (sym n.node) whole))

-- a step from one standing to the next: the node answered with its subtree, and the next standing with that subtree done
pub split_parts : {T N L : Type 0} (lt : L → L → Type 0) (up : T → N → L → N → Type 0) (strict : IsStrictOrder lt) (old new : Standing T N L) →
    IsTree (up old.tree) → (v : N) (t : T) → t ≡ old.tree → new.tree ≡ old.tree → Advances lt up old new (Some v) → (nodes : List N) →
    IsLeftAt lt up old nodes → AreSplitParts lt up nodes (record { tree = t; here = v; mark = Before; depth = 0 })
    (record { tree = new.tree; here = new.here; mark = Finished; depth = new.depth })
split_parts lt up strict old new tree v t e f steps nodes left =
    parts lt up strict old.tree tree old.mark old.here old.depth new.mark new.here v new.depth t new.tree e f steps nodes left
