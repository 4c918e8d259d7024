use Rattle.std.proofs.Common.{refl, sym, ap, ◌∙◌, subst, length, ℕ}
use Rattle.std.proofs.lemmas.Result.{on_ok_weaker}
use Rattle.gf_exponents_theory.specs.Exponents.{plus}
use Rattle.gf_poly.specs.Polynomial.{Terms, HasVariables}
use Rattle.gf_poly.proofs.MonomialLaws.{length-minus}
use Rattle.gf_division.specs.Dividends.{joined_terms}
use Rattle.gf_division.proofs.StepLaws.{shared_sound, shared_poly, sound_along}
use Rattle.gf_division.proofs.TableLaws.{cut_length, cut_nonzero, table_step}
use Rattle.gf_wide_division.specs.Dividends.{dividend_of}
use Rattle.gf_wide_division.specs.Values.{term_value}
use Rattle.gf_wide_division.proofs.dividend.WideDividend.step.Goals as goal

pub quotient-quotient-requires-clause-same_variables : goal.quotient-quotient-requires-clause-same_variables
quotient-quotient-requires-clause-same_variables c = cut_length _ _ (term_value c.args.t.now) (shared_sound c.args.member.now (dividend_of c.args.self.now)
    c.requires.variables c.head.ensures.marked) c.requires.there ∙ ap length (sym c.head.ensures.value)

pub subtract-requires-clause-sound : goal.subtract-requires-clause-sound
subtract-requires-clause-sound c =
    let v = shared_sound c.args.member.now (dividend_of c.args.self.now) c.requires.variables c.head.ensures.marked in
    let e = cut_length _ _ (term_value c.args.t.now) v c.requires.there in
    let l = ap length c.quotient-quotient.ensures.value ∙ length-minus c.args.t.now.mono c.head.result.now (e ∙ ap length (sym c.head.ensures.value)) ∙ e in
    sound_along _ _ (dividend_of c.args.self.now) (sym l) v

pub subtract-requires-clause-variables : goal.subtract-requires-clause-variables
subtract-requires-clause-variables c =
    let v = shared_sound c.args.member.now (dividend_of c.args.self.now) c.requires.variables c.head.ensures.marked in
    let e = cut_length _ _ (term_value c.args.t.now) v c.requires.there in
    let l = ap length c.quotient-quotient.ensures.value ∙ length-minus c.args.t.now.mono c.head.result.now (e ∙ ap length (sym c.head.ensures.value)) ∙ e in
    subst (λ (g : Terms). HasVariables (length c.quotient-quotient.result) g)
    (sym (c.terms.ensures.value ∙ c.poly.ensures)) (subst (λ (n : ℕ). HasVariables n c.args.member.now.poly) (sym l)
    (shared_poly c.args.member.now (dividend_of c.args.self.now) c.requires.variables c.head.ensures.marked))

pub subtract-requires-clause-nonzero : goal.subtract-requires-clause-nonzero
subtract-requires-clause-nonzero c = cut_nonzero _ _ (term_value c.args.t.now) (shared_sound c.args.member.now (dividend_of c.args.self.now)
    c.requires.variables c.head.ensures.marked) c.requires.there

pub returns : goal.returns
returns c =
    let v = shared_sound c.args.member.now (dividend_of c.args.self.now) c.requires.variables c.head.ensures.marked in
    let e = cut_length _ _ (term_value c.args.t.now) v c.requires.there in
    let l = ap length c.quotient-quotient.ensures.value ∙ length-minus c.args.t.now.mono c.head.result.now (e ∙ ap length (sym c.head.ensures.value)) ∙ e in
    on_ok_weaker c.subtract.result (table_step c.args.member.now (joined_terms (dividend_of c.args.self.now)) c.terms.result.now (term_value c.args.t.now)
    c.quotient-quotient.result (dividend_of c.subtract.new.self) refl (c.terms.ensures.value ∙ c.poly.ensures) v c.requires.divides e
    (ap (plus c.quotient-quotient.result) (sym c.head.ensures.value) ∙ c.quotient-quotient.ensures.product) l) c.subtract.ensures
