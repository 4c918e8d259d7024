use Rattle.std.specs.Prelude.{IfOk, IfErr}
use Rattle.std.proofs.Common.{subst}
use Rattle.gf_facets_theory.specs.Regions.{Region}
use Rattle.gf_weights.specs.Weights.{IsWeightIn}
use Rattle.gf_weights.specs.Refusals.{IsWeightCauseIn}
use Rattle.gf_weights.proofs.RefusalLaws.{only_memory}
use Rattle.gf_cone.proofs.RegionLaws.{positive_is, positive_wide}
use Rattle.gf_weights.proofs.certificates.weight.Goals as goal

pub weight_in-requires : goal.weight_in-requires
weight_in-requires c = positive_wide c.args.set.now.variables c.variables.result c.in_ok-region.region c.variables.ensures c.in_ok-region.ensures

pub returns-clause-value : goal.returns-clause-value
returns-clause-value c = subst (λ (k : Region). IfOk c.weight_in.result (IsWeightIn c.args.set.now.variables k c.args.set.now.items))
    (positive_is c.args.set.now.variables c.variables.result c.in_ok-region.region c.variables.ensures c.in_ok-region.ensures) c.weight_in.ensures.value

pub returns-clause-err : goal.returns-clause-err
returns-clause-err c = subst (λ (k : Region). IfErr c.weight_in.result (IsWeightCauseIn c.args.set.now.variables k c.args.set.now.items))
    (positive_is c.args.set.now.variables c.variables.result c.in_ok-region.region c.variables.ensures c.in_ok-region.ensures) c.weight_in.ensures.err

pub returns-clause-complete : goal.returns-clause-complete
returns-clause-complete c = λ within. only_memory _ c.weight_in.result
    (subst (λ (k : Region). IfErr c.weight_in.result (IsWeightCauseIn c.args.set.now.variables k c.args.set.now.items))
    (positive_is c.args.set.now.variables c.variables.result c.in_ok-region.region c.variables.ensures c.in_ok-region.ensures) c.weight_in.ensures.err) within
