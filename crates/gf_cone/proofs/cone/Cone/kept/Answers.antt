use Rattle.std.proofs.Common.{◌++◌, ◌∙◌, sym, ap, subst, length, List, ℤ, ◌≤◌}
use Rattle.gf_facets_theory.specs.Systems.{units}
use Rattle.gf_cone.proofs.AnswerLaws.{kept_all, kept_front, kept_units}
use Rattle.gf_cone.proofs.cone.Cone.kept.Goals as goal

pub returns-clause-value : goal.returns-clause-value
returns-clause-value c = kept_all c.args.self.now c.self.inside.variables c.self.inside.count c.self.inside.vectors.items (sym c.self.view_is)
    ∙ ap (λ (z : List (List ℤ)). z ++ units c.args.self.now.variables c.args.self.now.variables) (sym c.as_slice.ensures.value)

pub returns-clause-front : goal.returns-clause-front
returns-clause-front c = subst (λ (z : List (List ℤ)). length c.args.self.now.normals ≤ length z) (sym c.as_slice.ensures.value)
    (kept_front c.args.self.now c.self.inside.variables c.self.inside.count c.self.inside.vectors.items (sym c.self.view_is))

pub returns-clause-units : goal.returns-clause-units
returns-clause-units c = kept_units c.args.self.now c.self.inside.variables c.self.inside.count c.self.inside.vectors.items (sym c.self.view_is)
