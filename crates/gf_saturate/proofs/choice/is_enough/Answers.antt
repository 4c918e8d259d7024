use Rattle.std.proofs.Common.{sym, ◌∙◌}
use Rattle.gf_saturation_theory.specs.Saturations.{product_power}
use Rattle.gf_saturate.proofs.ChoiceLaws.{enough_all, enough_twice}
use Rattle.gf_saturate.proofs.choice.is_enough.Goals as goal

pub are_inside-requires : goal.are_inside-requires
are_inside-requires c = c.product-whole.ensures.long ∙ sym c.closed-all.ensures.long

pub returns : goal.returns
returns c = λ t.
    enough_twice c.args.n c.args.set.now c.args.some.now c.closed-all.result (product_power c.args.n 1)
    (enough_all c.args.n c.args.set.now c.closed-all.result c.requires.variables c.closed-all.ensures.long c.product-whole.result c.product-whole.ensures.all
    (c.are_inside.ensures t))
    c.closed-all.ensures.enough
