use Rattle.std.proofs.Common.{◌∙◌, sym, subst}
use Rattle.gf_poly.specs.Marking.{HaveVariables}
use Rattle.gfan_fans.proofs.HomogeneitySpaceLaws.{nonzero_in}
use Rattle.gfan_fans.proofs.homogeneity_space.space_of.Goals as goal

pub homogeneity-requires : goal.homogeneity-requires
homogeneity-requires c =
    subst (HaveVariables c.args.n) (sym (c.deref.ensures.value ∙ c.in_ok-polynomials.ensures)) (nonzero_in c.args.n c.args.set.now c.requires)
