-- The least child past a mark, found along the labels.
-- To cite: least_at.
use Rattle.std.proofs.Common.{◌≡◌, ℕ, ◌<◌, List, [], ◌∷◌, get_or, sym, subst, inl, inr, ◌∙◌}
use Rattle.std.proofs.lemmas.Bool.{cases_order}
use Rattle.std.proofs.lemmas.List.{get_or_default}
use Rattle.gf_reverse_search.specs.declared.mark.Mark.{Mark}
use Rattle.gf_reverse_search.specs.Left.{IsBelowMark}
use Rattle.gf_reverse_search.specs.Tree.{RisesBy, HasLabels}
use Rattle.gf_reverse_search.specs.Walk.{IsLeastChild}

pub least_at : {N L : Type 0} (lt : L → L → Type 0) (up : N → L → N → Type 0) (u v : N) (m : Mark L) (cs : List L) (i : ℕ) (c : L) →
    RisesBy lt cs → HasLabels up u cs → get_or cs i c ≡ c →
    ((k : ℕ) (b : L) (w : N) → k < i → get_or cs k b ≡ b → up w b u → IsBelowMark lt m (b ∷ []) → ⊥) →
    up v c u → IsBelowMark lt m (c ∷ []) → IsLeastChild lt up u m v
least_at lt up u v m cs i c rises all at before child past = record {
  label = c;
  child = child;
  past = past;
  least = λ b w other open_to.
      let p = all w b other in
      elim (cases_order i p.0) [
        | inl e ↦ inl (sym at ∙ subst (λ k. get_or cs k c ≡ b) (sym e) (get_or_default cs p.0 c b p.1 ∙ p.2))
        | inr k ↦ elim k [
          | inl k ↦ inr (rises i p.0 c b k p.1 at p.2)
          | inr k ↦ absurd (before p.0 b w k p.2 other open_to)
        ]
      ];
}
