use Rattle.std.proofs.Common.{refl, ap, sym, subst, ◌∙◌, [], Vec, Global}
use Rattle.gf_frac.specs.Fraction.{whole}
use Rattle.gf_poly.specs.Polynomial.{SamePolynomial, times}
use Rattle.gf_whole_division.specs.declared.dividend.WholeDividend.{WholeDividend}
use Rattle.gf_whole_division.specs.declared.terms.WholeTerm.{WholeTerm}
use Rattle.gf_whole_division.specs.Values.{whole_terms}
use Rattle.gf_whole_division.proofs.ReductionLaws.{added, plain_times}
use Rattle.gf_whole_division.proofs.dividend.WholeDividend.add.Goals as goal
use Rattle.gf_whole_division.proofs.dividend.WholeDividend.add.Goals.{then-not-is_one+in_ok-self, else-not-is_one}

pub returns : goal.returns
returns c = elim c.if-not-is_one.branch [
  | then-not-is_one+in_ok-self w ↦ added c.args.by.now c.args.m.now.factor c.args.m.now.mono c.args.self.now.done.items c.args.self.now.rest.items
      w.replace-done.result.items c.replace-rest.result.items c.if-not-is_one.self.done.items c.in_ok-self-2.field-0.items c.args.more.now
      (ap (λ (v : Vec WholeTerm Global). v.items) w.replace-done.ensures.value)
      (ap (λ (v : Vec WholeTerm Global). v.items) c.replace-rest.ensures.value ∙ ap (λ (d : WholeDividend). d.rest.items) w.self-is)
      (subst (λ (d : WholeDividend). SamePolynomial (whole_terms d.done.items) (times (whole c.args.by.now) [] (whole_terms w.replace-done.result.items)))
      (sym w.self-is) w.in_ok-self.ensures)
      c.in_ok-self-2.ensures
  | else-not-is_one w ↦ added c.args.by.now c.args.m.now.factor c.args.m.now.mono c.args.self.now.done.items c.args.self.now.rest.items
      c.args.self.now.done.items c.replace-rest.result.items c.if-not-is_one.self.done.items c.in_ok-self-2.field-0.items c.args.more.now refl
      (ap (λ (v : Vec WholeTerm Global). v.items) c.replace-rest.ensures.value ∙ ap (λ (d : WholeDividend). d.rest.items) w.self-is)
      (subst (λ (d : WholeDividend). SamePolynomial (whole_terms d.done.items) (times (whole c.args.by.now) [] (whole_terms c.args.self.now.done.items)))
      (sym w.self-is) (plain_times c.args.by.now c.args.self.now.done.items (w.if-not-is_one.ensures.0 refl)))
      c.in_ok-self-2.ensures
]
