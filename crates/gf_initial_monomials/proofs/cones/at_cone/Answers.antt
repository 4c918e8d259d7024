use Rattle.std.proofs.lemmas.Result.{IfErr-weaker}
use Rattle.gf_rays.specs.Cones.{rows_of}
use Rattle.gf_initial_monomials.proofs.LimitLaws.{only_memory}
use Rattle.gf_initial_monomials.proofs.cones.at_cone.Goals as goal

pub returns-clause-complete : goal.returns-clause-complete
returns-clause-complete c = λ w. IfErr-weaker c.first_failing.result _ _
    (λ e h. only_memory c.args.basis.now.variables c.args.basis.now.items c.args.normals.now (rows_of c.args.cone.now) c.args.pairs e w h)
    c.first_failing.ensures.err
