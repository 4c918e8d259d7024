use Rattle.std.proofs.Common.{refl, sym, ap, ◌∙◌}
use Rattle.std.specs.Prelude.{◌+ℤ◌, ◌*ℤ◌, ℤ}
use Rattle.gf_exponents_theory.specs.Exponents.{plus}
use Rattle.gf_frac.specs.Fraction.{whole}
use Rattle.gf_poly.specs.declared.Term.{Term}
use Rattle.gf_poly.specs.Polynomial.{times_term}
use Rattle.gf_whole_division.specs.Values.{term_value}
use Rattle.gf_whole_division.proofs.CombinationLaws.{merged_none, merged_sum, sum_value}
use Rattle.gf_whole_division.proofs.combinations.Halves.merge.Goals as goal

pub returns-then-is_zero : goal.returns-then-is_zero
returns-then-is_zero c =
    merged_none (whole c.args.by.now) c.args.self.now (record { above = c.args.self.now.above; below = c.pop.new.self }) c.pop.new.self.items
    c.in-Some.first (term_value c.scale.new.self) (times_term (whole c.args.m.now.factor) c.args.m.now.mono (term_value c.args.t.now))
    c.in-Some.ensures.items c.in_ok-scale.ensures
    (ap (λ (z : Term). z.mono) c.in_ok-scale.ensures ∙ sym c.mono.ensures ∙ c.if-not-is_product.ensures refl
    ∙ ap (plus c.args.m.now.mono) c.mono-2.ensures)
    (sym (sum_value c.in_ok-coef.coef c.scale.new.self.kept.value.coef c.args.t.now.kept.value.coef c.args.m.now.factor
    (c.in_ok-coef.ensures ∙ ap (λ (z : ℤ). z +ℤ c.args.t.now.kept.value.coef *ℤ c.args.m.now.factor) c.coef.ensures))
    ∙ ap whole (c.is_zero.ensures.0 c.if-is_zero.true)) refl refl

pub returns : goal.returns
returns c =
    merged_sum (whole c.args.by.now) c.args.self.now (record { above = c.push.new.self; below = c.pop.new.self }) c.pop.new.self.items
    c.in-Some.first c.set_coef.new.self (term_value c.scale.new.self)
    (times_term (whole c.args.m.now.factor) c.args.m.now.mono (term_value c.args.t.now))
    c.in-Some.ensures.items c.in_ok-scale.ensures
    (ap (λ (z : Term). z.mono) c.in_ok-scale.ensures ∙ sym c.mono.ensures ∙ c.if-not-is_product.ensures refl
    ∙ ap (plus c.args.m.now.mono) c.mono-2.ensures)
    (λ q. record {
      coef = (ap whole c.set_coef.ensures.coef
          ∙ sum_value c.in_ok-coef.coef c.scale.new.self.kept.value.coef c.args.t.now.kept.value.coef c.args.m.now.factor
          (c.in_ok-coef.ensures ∙ ap (λ (z : ℤ). z +ℤ c.args.t.now.kept.value.coef *ℤ c.args.m.now.factor) c.coef.ensures)) q;
      mono = c.set_coef.ensures.mono q;
    })
    c.in_ok-push.ensures.items refl
