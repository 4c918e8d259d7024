use Rattle.std.proofs.Common.{◌≡◌, ◌<◌, ◌∙◌, ℕ, length, sym, subst, ap}
use Rattle.gf_poly.specs.Polynomial.{Terms, HasVariables}
use Rattle.gf_poly.specs.InitialForms.{IsInitialForm}
use Rattle.gf_division.proofs.StepLaws.{head_length}
use Rattle.gf_small.proofs.InitialFormsLaws.{form_nonempty, marked_some}
use Rattle.gf_small.proofs.initial.marked_form.Goals as goal

pub index_or_first-index-requires-clause-some : goal.index_or_first-index-requires-clause-some
index_or_first-index-requires-clause-some c =
    let form : IsInitialForm c.args.weight.now c.args.b.now.poly c.in_ok-form.form =
    subst (λ (f : Terms). IsInitialForm c.args.weight.now f c.in_ok-form.form) c.poly.ensures c.in_ok-form.ensures.value in
    subst (λ (f : Terms). 0 < length f) (sym c.terms.ensures.value)
    (form_nonempty (length c.args.weight.now) c.args.weight.now c.args.b.now.poly c.in_ok-form.form c.requires.same_variables c.head.ensures.marked.descending
    (marked_some c.args.b.now c.head.ensures.marked) form)

pub index_or_first-index-requires-clause-same_variables : goal.index_or_first-index-requires-clause-same_variables
index_or_first-index-requires-clause-same_variables c =
    let long : length c.head.result.now ≡ length c.args.weight.now =
    ap length c.head.ensures.value ∙ head_length (length c.args.weight.now) c.args.b.now c.requires.same_variables c.head.ensures.marked in
    let wide : HasVariables (length c.args.weight.now) c.in_ok-form.form = c.in_ok-form.ensures.variables.at (length c.args.weight.now)
    (subst (HasVariables (length c.args.weight.now)) (sym c.poly.ensures) c.requires.same_variables) in
    subst (λ (n : ℕ). HasVariables n c.terms.result.now) (sym long) (subst (HasVariables (length c.args.weight.now)) (sym c.terms.ensures.value) wide)
