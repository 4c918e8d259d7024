use Rattle.std.proofs.Common.{refl, sym, ap, ◌∙◌, subst, length, ℕ}
use Rattle.std.proofs.lemmas.Result.{on_ok_weaker, IfErr-weaker}
use Rattle.gf_exponents_theory.specs.Exponents.{plus}
use Rattle.gf_poly.specs.Polynomial.{Terms, HasVariables, IsDescending}
use Rattle.gf_poly.proofs.MonomialLaws.{length-minus}
use Rattle.gf_division.specs.Steps.{IsStepRefusal}
use Rattle.gf_division.specs.Dividends.{joined_terms, IsSubtractionRefusal}
use Rattle.gf_division.specs.Tables.{table_of}
use Rattle.gf_division.proofs.StepLaws.{shared_sound, shared_poly, sound_along}
use Rattle.gf_division.proofs.TableLaws.{cut_length, cut_nonzero, table_step, table_refused}
use Rattle.gf_division.proofs.table.Table.step.Goals as goal

pub quotient-quotient-requires-clause-same_variables : goal.quotient-quotient-requires-clause-same_variables
quotient-quotient-requires-clause-same_variables c = cut_length _ _ c.args.t.now (shared_sound c.args.by.now (table_of c.args.self.now)
    c.requires.variables c.head.ensures.marked) c.requires.there ∙ ap length (sym c.head.ensures.value)

pub subtract-requires-clause-sound : goal.subtract-requires-clause-sound
subtract-requires-clause-sound c =
    let v = shared_sound c.args.by.now (table_of c.args.self.now) c.requires.variables c.head.ensures.marked in
    let e = cut_length _ _ c.args.t.now v c.requires.there in
    let l = ap length c.quotient-quotient.ensures.value ∙ length-minus c.args.t.now.mono c.head.result.now (e ∙ ap length (sym c.head.ensures.value)) ∙ e in
    sound_along _ _ (table_of c.args.self.now) (sym l) v

pub subtract-requires-clause-variables : goal.subtract-requires-clause-variables
subtract-requires-clause-variables c =
    let v = shared_sound c.args.by.now (table_of c.args.self.now) c.requires.variables c.head.ensures.marked in
    let e = cut_length _ _ c.args.t.now v c.requires.there in
    let l = ap length c.quotient-quotient.ensures.value ∙ length-minus c.args.t.now.mono c.head.result.now (e ∙ ap length (sym c.head.ensures.value)) ∙ e in
    subst (λ (g : Terms). HasVariables (length c.quotient-quotient.result) g)
    (sym (c.terms.ensures.value ∙ c.poly.ensures)) (subst (λ (n : ℕ). HasVariables n c.args.by.now.poly) (sym l)
    (shared_poly c.args.by.now (table_of c.args.self.now) c.requires.variables c.head.ensures.marked))

pub subtract-requires-clause-nonzero : goal.subtract-requires-clause-nonzero
subtract-requires-clause-nonzero c =
    cut_nonzero _ _ c.args.t.now (shared_sound c.args.by.now (table_of c.args.self.now) c.requires.variables c.head.ensures.marked) c.requires.there

pub returns-clause-step : goal.returns-clause-step
returns-clause-step c =
    let v = shared_sound c.args.by.now (table_of c.args.self.now) c.requires.variables c.head.ensures.marked in
    let e = cut_length _ _ c.args.t.now v c.requires.there in
    let l = ap length c.quotient-quotient.ensures.value ∙ length-minus c.args.t.now.mono c.head.result.now (e ∙ ap length (sym c.head.ensures.value)) ∙ e in
    on_ok_weaker c.subtract.result (table_step c.args.by.now (joined_terms (table_of c.args.self.now)) c.terms.result.now c.args.t.now
    c.quotient-quotient.result (table_of c.subtract.new.self) refl (c.terms.ensures.value ∙ c.poly.ensures) v c.requires.divides e
    (ap (plus c.quotient-quotient.result) (sym c.head.ensures.value) ∙ c.quotient-quotient.ensures.product) l) c.subtract.ensures.ok

pub returns-clause-cause : goal.returns-clause-cause
returns-clause-cause c =
    let v = shared_sound c.args.by.now (table_of c.args.self.now) c.requires.variables c.head.ensures.marked in
    IfErr-weaker c.subtract.result (IsSubtractionRefusal (joined_terms (table_of c.args.self.now)) c.args.t.now.coef c.quotient-quotient.result
    c.terms.result.now) (IsStepRefusal (joined_terms (table_of c.args.self.now)) c.args.by.now c.args.t.now.mono)
    (λ y r. table_refused c.args.by.now (joined_terms (table_of c.args.self.now)) c.terms.result.now c.args.t.now c.quotient-quotient.result y
    (c.terms.ensures.value ∙ c.poly.ensures) (subst IsDescending (sym c.terms.ensures.value) c.terms.ensures.descending)
    (shared_poly c.args.by.now (table_of c.args.self.now) c.requires.variables c.head.ensures.marked) v c.requires.there
    (ap (plus c.quotient-quotient.result) (sym c.head.ensures.value) ∙ c.quotient-quotient.ensures.product) r) c.subtract.ensures.cause
