use Rattle.std.proofs.Common.{◌∙◌, sym, subst, Contains, List, ℤ}
use Rattle.gf_duality_theory.specs.Rays.{IsRays}
use Rattle.gf_cuts.specs.Heights.{HasItsRays}
use Rattle.gf_cuts.proofs.OuterLaws.{inside_by}
use Rattle.gf_cuts.proofs.inside.is_inside.Goals as goal

pub returns-then-same_vectors : goal.returns-then-same_vectors
returns-then-same_vectors c = λ t.
    let x = c.args.c.now in
    let y = c.args.d.now in
    let r : HasItsRays x = subst (IsRays x.ambient x.inequalities x.equations x.lineality) c.rays.ensures.value c.rays.ensures.rays in
    let s : HasItsRays y =
    subst (IsRays y.ambient y.inequalities y.equations y.lineality) c.rays-then-same_vectors.ensures.value c.rays-then-same_vectors.ensures.rays in
    inside_by x y r s c.requires
    (sym c.lineality-2.ensures.value ∙ sym (c.same_vectors.ensures.0 c.if-same_vectors.true) ∙ c.lineality.ensures.value)
    (λ z k. subst (λ (l : List (List ℤ)). Contains l z) c.rays-then-same_vectors.ensures.value
    (c.are_some.ensures t z (subst (λ (l : List (List ℤ)). Contains l z) (sym c.rays.ensures.value) k)))
