use Rattle.gf_saturate.proofs.ChoiceLaws.{inside_more, inside_along, inside_all}
use Rattle.gf_saturate.proofs.choice.are_inside.Goals as goal

pub variables-preserved : goal.variables-preserved
variables-preserved c = inside_more _ _ _ _ c.min.ensures c.if-right-i.false c.variables.invariant

pub returns : goal.returns
returns c =
    λ t. inside_along _ _ _ _ c.exponents-left.ensures.value c.exponents-right.ensures.value
    (inside_all _ _ _ c.variables-test.false c.variables.invariant)
