-- What is left at a path, where both paths go on from a common front.
-- To cite: left_over, left_under, precedes_on, precedes_off.
use Rattle.std.proofs.Common.{List, [], ◌∷◌, ◌++◌, refl, sym, ap, ◌∙◌, subst, inl, inr, append_assoc}
use Rattle.gf_reverse_search.specs.declared.mark.Mark.{Mark}
use Rattle.gf_reverse_search.specs.declared.mark.Mark.TheVariants.{Before, After, Listed, Finished}
use Rattle.gf_reverse_search.specs.Path.{Precedes, Begins, IsStrictOrder}
use Rattle.gf_reverse_search.specs.Left.{IsLeft}
use Rattle.std.proofs.lemmas.List.{append_cancel_left}

begins_on : {L : Type 0} (p y z : List L) → Begins y z → Begins (p ++ y) (p ++ z)
begins_on p y z b = (b.0, ap (λ w. p ++ w) b.1 ∙ sym (append_assoc p y b.0))

begins_off : {L : Type 0} (p y z : List L) → Begins (p ++ y) (p ++ z) → Begins y z
begins_off p y z b = (b.0, append_cancel_left p z (y ++ b.0) (b.1 ∙ append_assoc p y b.0))

module _ {L : Type 0} (lt : L → L → Type 0) where
  -- a path that comes before another does so behind any front
  pub precedes_on : (p y z : List L) → Precedes lt y z → Precedes lt (p ++ y) (p ++ z)
  precedes_on [] y z h = h
  precedes_on (c ∷ p) y z h = inr (refl, precedes_on p y z h)

  module _ (strict : IsStrictOrder lt) where
    -- and only then
    pub precedes_off : (p y z : List L) → Precedes lt (p ++ y) (p ++ z) → Precedes lt y z
    precedes_off [] y z h = h
    precedes_off (c ∷ p) y z (inl h) = absurd (strict.irreflexive c h)
    precedes_off (c ∷ p) y z (inr h) = precedes_off p y z h.1

    -- what is left below a node is left behind the path to the node
    pub left_over : (m : Mark L) (p r q : List L) → IsLeft lt m r q → IsLeft lt m (p ++ r) (p ++ q)
    left_over Before p r q (inl e) = inl (ap (λ w. p ++ w) e)
    left_over Before p r q (inr h) = inr (precedes_on p r q h)
    left_over Listed p r q h = precedes_on p r q h
    left_over (After a) p r q h =
        (precedes_on p r q h.0, λ b l g. h.1 b l (begins_off p (r ++ b ∷ []) q (subst (λ w. Begins w (p ++ q)) (append_assoc p r (b ∷ [])) g)))
    left_over Finished p r q h = (precedes_on p r q h.0, λ g. h.1 (begins_off p r q g))

    -- and what is left behind that path is left below the node
    pub left_under : (m : Mark L) (p r q : List L) → IsLeft lt m (p ++ r) (p ++ q) → IsLeft lt m r q
    left_under Before p r q (inl e) = inl (append_cancel_left p r q e)
    left_under Before p r q (inr h) = inr (precedes_off p r q h)
    left_under Listed p r q h = precedes_off p r q h
    left_under (After a) p r q h =
        (precedes_off p r q h.0, λ b l g. h.1 b l (subst (λ w. Begins w (p ++ q)) (sym (append_assoc p r (b ∷ []))) (begins_on p (r ++ b ∷ []) q g)))
    left_under Finished p r q h = (precedes_off p r q h.0, λ g. h.1 (begins_on p r q g))
