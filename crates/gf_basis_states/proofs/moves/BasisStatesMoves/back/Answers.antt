use Rattle.std.proofs.Common.{◌≡◌, sym, ap, ◌∙◌, subst}
use Rattle.std.proofs.lemmas.Result.{IfOk-weaker, IfErr-weaker, err_from_is_err_and}
use Rattle.gf_poly.specs.Marking.{MarkedPolynomials}
use Rattle.gf_facets_theory.specs.Rows.{negated}
use Rattle.gf_facets_theory.specs.Regions.{all_positive}
use Rattle.gf_flip.specs.Operations.{IsFlipRefusal}
use Rattle.gf_back.specs.Back.{IsCrossed}
use Rattle.gf_tree.specs.Refusals.{IsRefusedAtBasis}
use Rattle.gf_basis_states.specs.BasisRules.{IsBasisState}
use Rattle.gf_basis_states.proofs.StepLaws.{was_crossed, came_back, before_state, step_back, back_here, beside}
use Rattle.gf_basis_states.proofs.moves.BasisStatesMoves.back.Goals as goal

pub flip_back-requires : goal.flip_back-requires
flip_back-requires c =
    let j = c.requires.joined in (
      j.0.items,
      subst (λ (z : MarkedPolynomials). IsCrossed z.variables j.0.items c.args.step.now z.items) (sym c.basis.ensures)
          (was_crossed j.0 c.args.here.now c.args.step.now j.1),
    )

pub returns-in_err-before-clause-err : goal.returns-in_err-before-clause-err
returns-in_err-before-clause-err c =
    let j = c.requires.joined in
    let pairs = c.args.self.now.pairs in
    let a = c.args.step.now in
    let r = c.in_err-before.field-0.0 in
    let p = err_from_is_err_and c.from_residual.result c.from_residual.ensures.1 in
    rw p.1 (back_here pairs j.0 c.args.here.now a r p.0 j.1 (subst (λ (z : MarkedPolynomials). IsFlipRefusal z.variables z.items (negated a) pairs r)
    c.basis.ensures c.in_err-before.ensures.cause) p.2)

pub returns-clause-ok : goal.returns-clause-ok
returns-clause-ok c =
    let here = c.args.here.now in
    let a = c.args.step.now in
    let t = c.in_ok-before.before in
    IfOk-weaker c.new.result (λ p. p ≡ t) _ (λ p e before s.
    e ∙ came_back before here t a s (λ bs h. c.in_ok-before.ensures.value bs (subst (λ (z : MarkedPolynomials). IsCrossed z.variables bs a z.items)
    (sym c.basis.ensures) h))
    (c.in_ok-before.ensures.variables ∙ ap (λ (z : MarkedPolynomials). z.variables) c.basis.ensures)) c.new.ensures.ok

pub returns-clause-state : goal.returns-clause-state
returns-clause-state c =
    let j = c.requires.joined in
    let here = c.args.here.now in
    let a = c.args.step.now in
    let t = c.in_ok-before.before in
    let back = came_back j.0 here t a j.1 (λ bs h. c.in_ok-before.ensures.value bs (subst (λ (z : MarkedPolynomials). IsCrossed z.variables bs a z.items)
    (sym c.basis.ensures) h))
    (c.in_ok-before.ensures.variables ∙ ap (λ (z : MarkedPolynomials). z.variables) c.basis.ensures) in
    IfOk-weaker c.new.result (λ p. p ≡ t) _ (λ p e. subst (IsBasisState _) (sym (e ∙ back)) (before_state _ j.0 here a c.requires.state j.1)) c.new.ensures.ok

pub returns-clause-err : goal.returns-clause-err
returns-clause-err c =
    let j = c.requires.joined in
    let here = c.args.here.now in
    let a = c.args.step.now in
    let t = c.in_ok-before.before in
    let pairs = c.args.self.now.pairs in
    let back = came_back j.0 here t a j.1 (λ bs h. c.in_ok-before.ensures.value bs (subst (λ (z : MarkedPolynomials). IsCrossed z.variables bs a z.items)
    (sym c.basis.ensures) h))
    (c.in_ok-before.ensures.variables ∙ ap (λ (z : MarkedPolynomials). z.variables) c.basis.ensures) in
    IfErr-weaker c.new.result (IsRefusedAtBasis (all_positive t.variables) pairs t) _
    (λ e h. beside pairs here j.0 (negated a) e (step_back j.0 here a j.1)
    (subst (λ (z : MarkedPolynomials). IsRefusedAtBasis (all_positive z.variables) pairs z e) back h)) (c.new.ensures.err pairs)
