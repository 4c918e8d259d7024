use Rattle.std.proofs.Common.{◌≡◌, ◌++◌, ◌∙◌, sym, ap, subst, ℕ, List, ℤ}
use Rattle.gf_gordan.specs.Alternative.{AreRows}
use Rattle.gf_facets_theory.specs.Systems.{units}
use Rattle.gf_cone.specs.Cones.{ConeRows}
use Rattle.gf_cone.proofs.AnswerLaws.{kept_units, kept_wide, IfOk-weaker}
use Rattle.gf_cone.proofs.cone.Cone.vectors.Goals as goal

pub returns-in_err-with_capacity-clause-units : goal.returns-in_err-with_capacity-clause-units
returns-in_err-with_capacity-clause-units c = kept_units c.args.self.now c.self.inside.variables c.self.inside.count c.self.inside.vectors.items
    (sym c.self.view_is)

pub returns-clause-widths : goal.returns-clause-widths
returns-clause-widths c =
    let m = c.self.inside.variables in
    let d = c.args.self.now in
    let wide = kept_wide d m c.self.inside.count c.self.inside.vectors.items (sym c.self.view_is) c.self.invariant in
    let e = c.in_ok-list.ensures ∙ ap (λ (z : List (List ℤ)). z ++ c.kept.result.now) c.in_ok-with_capacity.ensures.items in
    IfOk-weaker (λ v. v.items ≡ c.in_ok-list.list.items ++ units m m) (λ v. AreRows d.variables v.items) c.with_units.result
    (λ v h. subst (AreRows d.variables) (sym (h ∙ ap (λ (z : List (List ℤ)). z ++ units m m) e ∙ ap (λ (j : ℕ). c.kept.result.now ++ units j j)
    (ap (λ (z : ConeRows). z.variables) c.self.view_is) ∙ sym c.kept.ensures.value)) wide)
    c.with_units.ensures
