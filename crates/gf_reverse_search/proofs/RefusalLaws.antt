-- Refusals at a node, and above it.
-- To cite: refused_here, refused_at, refused_above, refused_below.
use Rattle.std.proofs.Common.{◌≡◌, ℕ, zero, suc, ◌+◌, ◌-◌, List, [], ◌∷◌, ◌++◌, ◌∙◌, refl, sym, subst, length, length-append, arith}
use Rattle.gf_reverse_search.specs.Path.{Leads, IsTree}
use Rattle.gf_reverse_search.specs.Walk.{IsRefused, IsRefusedBelow}
use Rattle.gf_reverse_search.proofs.StepLaws.{Leads-snoc}

module _ {N L E : Type 0} (up : N → L → N → Type 0) (refuses : N → E → Type 0) where
  -- here itself
  pub refused_here : (here : N) (d : ℕ) (e : E) → refuses here e → IsRefused up refuses here d e
  refused_here here d e h = record { node = here; path = []; leads = refl; near = omega arith; refused = h }

  -- at a node that a path leads from
  pub refused_at : (node here : N) (q : List L) (d d0 : ℕ) (e : E) → Leads up node q here → length q + d ≡ d0 → refuses node e → IsRefused up refuses here d0 e
  refused_at node here q d d0 e way long h = record { node = node; path = q; leads = way; near = omega arith; refused = h }

  -- a step further up
  pub refused_above : (here above : N) (c : L) (d d0 : ℕ) (e : E) → up here c above → d + 1 ≡ d0 → IsRefused up refuses above d e →
      IsRefused up refuses here d0 e
  refused_above here above c d d0 e h less r = record {
    node = r.node;
    path = r.path ++ c ∷ [];
    leads = Leads-snoc up r.node r.path above c here r.leads h;
    near = (let l = length-append r.path (c ∷ []) in let n = r.near in omega arith);
    refused = r.refused;
  }

  module _ (tree : IsTree up) where
    same_above : (node top here : N) (p r : List L) → Leads up node p here → Leads up top r here → length p ≡ length r → node ≡ top
    same_above node top here [] [] way down long = way ∙ sym down
    same_above node top here [] (c ∷ r) way down long = absurd (omega arith)
    same_above node top here (a ∷ p) [] way down long = absurd (omega arith)
    same_above node top here (a ∷ p) (c ∷ r) way down long =
        let e : way.0 ≡ down.0 = same_above way.0 down.0 here p r way.2 down.2 (omega arith) in
        tree.one_parent down.0 node top a c (subst (λ v. up v a node) e way.1) down.1

    between : (n : ℕ) (node top here : N) (p r : List L) → Leads up node p here → Leads up top r here → n + length p ≡ length r →
        (q : List L) × Leads up top q node
    between zero node top here p r way down long = ([], sym (same_above node top here p r way down (omega arith)))
    between (suc n) node top here p [] way down long = absurd (omega arith)
    between (suc n) node top here p (c ∷ r) way down long =
        let b = between n node down.0 here p r way down.2 (omega arith) in
        (c ∷ b.0, (down.0, down.1, b.1))

    -- a node above here, by no more steps than the top is, is below the top
    pub refused_below : (top here : N) (r : List L) (d : ℕ) (e : E) → Leads up top r here → length r ≡ d → IsRefused up refuses here d e →
        IsRefusedBelow up refuses top e
    refused_below top here r d e down long f =
        let b = between (length r - length f.path) f.node top here f.path r f.leads down (let n = f.near in omega arith) in
        record { node = f.node; path = b.0; leads = b.1; refused = f.refused }
