use Rattle.std.proofs.Common.{refl, sym, ap, ◌∙◌}
use Rattle.gf_exponents_theory.specs.Exponents.{Exponents, plus}
use Rattle.gf_whole_division.proofs.ValueLaws.{product_more, product_all}
use Rattle.gf_whole_division.proofs.terms.is_product.Goals as goal

pub variables-preserved : goal.variables-preserved
variables-preserved c =
    product_more c.exponents-x.result.now c.exponents-y.result.now c.exponents-z.result.now c.variables.i c.variables-test.true c.if-x-y.false c.if-x-z.false
    (c.if-not-is_sum.ensures refl) c.variables.invariant

pub returns : goal.returns
returns c = λ _.
    sym c.exponents-x.ensures.value
    ∙ product_all c.exponents-x.result.now c.exponents-y.result.now c.exponents-z.result.now c.variables.i c.variables-test.false c.if-x-y.false c.if-x-z.false
    c.variables.invariant
    ∙ ap (λ (w : Exponents). plus w c.exponents-z.result.now) c.exponents-y.ensures.value ∙ ap (plus c.args.y.now) c.exponents-z.ensures.value
