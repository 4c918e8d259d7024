use Rattle.std.proofs.Common.{ℕ, sym, ap, ◌∙◌, subst, length, arith}
use Rattle.std.proofs.lemmas.Result.{err_from_is_err_and}
use Rattle.gf_exponents_theory.specs.Exponents.{plus}
use Rattle.gf_poly.specs.Polynomial.{Terms, HasVariables, IsDescending}
use Rattle.gf_division.specs.Dividends.{split_of, joined_terms}
use Rattle.gf_division.proofs.DividendLaws.{terms_up}
use Rattle.gf_division.proofs.StepLaws.{shared_sound, shared_poly, first_variables, sound_up, some_terms, greatest_over, front_descends, sound_along}
use Rattle.gf_division.proofs.StepLaws.{step_taken, step_facts, first_refused, step_refused}
use Rattle.gf_division.proofs.dividend.Dividend.step.Goals as goal

pub quotient-quotient-requires-clause-sound : goal.quotient-quotient-requires-clause-sound
quotient-quotient-requires-clause-sound c = sound_along _ _ (split_of c.args.self.now) (ap length (sym c.head.ensures.value))
    (shared_sound c.args.by.now (split_of c.args.self.now) c.requires.variables c.head.ensures.marked)

pub mul-requires : goal.mul-requires
mul-requires c =
    let e = c.terms-terms.ensures.value ∙ c.poly.ensures in
    first_variables c.args.by.now (split_of c.args.self.now) c.terms-terms.result.now c.index-terms-0.result _ e c.requires.variables c.head.ensures.marked
    c.index-terms-0.is (c.quotient-quotient.ensures.variables ∙ ap length c.head.ensures.value)

pub subtract-requires-clause-sound : goal.subtract-requires-clause-sound
subtract-requires-clause-sound c = sound_up _ (split_of c.args.self.now) (split_of c.ascend.new.self) c.in_ok-ascend.ensures.moves
    (sound_along _ _ (split_of c.args.self.now) (sym (c.quotient-quotient.ensures.variables ∙ ap length c.head.ensures.value))
    (shared_sound c.args.by.now (split_of c.args.self.now) c.requires.variables c.head.ensures.marked))

pub subtract-requires-clause-variables : goal.subtract-requires-clause-variables
subtract-requires-clause-variables c =
    let e = c.terms-terms.ensures.value ∙ c.poly.ensures in
    subst (λ (g : Terms). HasVariables (length c.quotient-quotient.result.mono) g) (sym e) (subst (λ (n : ℕ). HasVariables n c.args.by.now.poly)
    (sym (c.quotient-quotient.ensures.variables ∙ ap length c.head.ensures.value)) (shared_poly c.args.by.now (split_of c.args.self.now)
    c.requires.variables c.head.ensures.marked))

pub returns-in_err-greatest-clause-cause : goal.returns-in_err-greatest-clause-cause
returns-in_err-greatest-clause-cause c =
    let q = c.quotient-quotient.ensures in
    let k = step_facts _ (joined_terms (split_of c.args.self.now)) c.args.by.now _ c.quotient-quotient.result c.poly.result.now q.coefficient q.nonzero
    (ap (plus c.quotient-quotient.result.mono) (sym c.head.ensures.value) ∙ q.product) (shared_poly c.args.by.now (split_of c.args.self.now)
    c.requires.variables c.head.ensures.marked) c.poly.ensures c.terms-terms.ensures.descending in
    let e = c.terms-terms.ensures.value ∙ c.poly.ensures in
    let p = err_from_is_err_and c.from_residual.result c.from_residual.ensures.1 in
    rw (p.1, p.2) (first_refused _ c.args.by.now _ c.quotient-quotient.result c.index-terms-0.result c.terms-terms.result.now c.in_err-greatest.field-0.0 k e
    (some_terms c.args.by.now c.terms-terms.result.now e c.head.ensures.marked) c.index-terms-0.is c.in_err-greatest.ensures.overflow)

pub ascend-requires : goal.ascend-requires
ascend-requires c =
    front_descends _ (split_of c.args.self.now) (shared_sound c.args.by.now (split_of c.args.self.now) c.requires.variables c.head.ensures.marked)

pub subtract-requires-clause-over : goal.subtract-requires-clause-over
subtract-requires-clause-over c =
    let e = c.terms-terms.ensures.value ∙ c.poly.ensures in
    greatest_over c.quotient-quotient.result.mono c.in_ok-greatest.greatest c.terms-terms.result.now c.ascend.new.self.above.items c.index-terms-0.result
    (some_terms c.args.by.now c.terms-terms.result.now e c.head.ensures.marked) c.index-terms-0.is c.in_ok-greatest.ensures.product
    (subst (λ (g : Terms). HasVariables (length c.quotient-quotient.result.mono) g) (sym e) (subst (λ (n : ℕ). HasVariables n c.args.by.now.poly)
    (sym (c.quotient-quotient.ensures.variables ∙ ap length c.head.ensures.value)) (shared_poly c.args.by.now (split_of c.args.self.now)
    c.requires.variables c.head.ensures.marked))) (subst IsDescending (sym c.terms-terms.ensures.value) c.terms-terms.ensures.descending)
    c.in_ok-ascend.ensures.over

pub returns-in_err-subtract-clause-cause : goal.returns-in_err-subtract-clause-cause
returns-in_err-subtract-clause-cause c =
    let q = c.quotient-quotient.ensures in
    let k = step_facts _ (joined_terms (split_of c.args.self.now)) c.args.by.now _ c.quotient-quotient.result c.poly.result.now q.coefficient q.nonzero
    (ap (plus c.quotient-quotient.result.mono) (sym c.head.ensures.value) ∙ q.product) (shared_poly c.args.by.now (split_of c.args.self.now)
    c.requires.variables c.head.ensures.marked) c.poly.ensures c.terms-terms.ensures.descending in
    let e = c.terms-terms.ensures.value ∙ c.poly.ensures in
    let p = err_from_is_err_and c.from_residual-in_err-subtract.result c.from_residual-in_err-subtract.ensures.1 in
    rw (p.1, p.2) (step_refused _ _ c.args.by.now _ c.quotient-quotient.result c.terms-terms.result.now c.in_err-subtract.field-0.0 k
    (terms_up (split_of c.args.self.now) (split_of c.ascend.new.self) c.in_ok-ascend.ensures.moves) e c.in_err-subtract.ensures.cause)

pub returns-clause-step : goal.returns-clause-step
returns-clause-step c =
    let q = c.quotient-quotient.ensures in
    let e = c.terms-terms.ensures.value ∙ c.poly.ensures in
    step_taken c.args.by.now (split_of c.args.self.now) (split_of c.ascend.new.self) (split_of c.subtract.new.self) (split_of c.rise.new.self)
    c.quotient-quotient.result c.terms-terms.result.now c.len-index.result e c.requires.divides (shared_sound c.args.by.now (split_of c.args.self.now)
    c.requires.variables c.head.ensures.marked) (q.variables ∙ ap length c.head.ensures.value) q.coefficient q.nonzero
    (ap (plus c.quotient-quotient.result.mono) (sym c.head.ensures.value) ∙ q.product) c.in_ok-ascend.ensures.moves (omega arith)
    c.in_ok-subtract.ensures.ok c.in_ok-rise.ensures.moves c.in_ok-rise.ensures.index
