use Rattle.std.specs.Prelude.{IfOk, IfErr}
use Rattle.std.proofs.Common.{subst}
use Rattle.gf_facets_theory.specs.Regions.{Region}
use Rattle.gf_weights.specs.Weights.{AreCertificatesIn}
use Rattle.gf_weights.specs.Refusals.{IsCertificateCauseIn}
use Rattle.gf_weights.proofs.RefusalLaws.{only_memory}
use Rattle.gf_cone.proofs.RegionLaws.{positive_is, positive_wide}
use Rattle.gf_weights.proofs.certificates.certify.Goals as goal

pub certify_in-requires : goal.certify_in-requires
certify_in-requires c = positive_wide c.args.set.now.variables c.variables.result c.in_ok-region.region c.variables.ensures c.in_ok-region.ensures

pub returns-clause-value : goal.returns-clause-value
returns-clause-value c = subst (λ (k : Region). IfOk c.certify_in.result (AreCertificatesIn c.args.set.now.variables k c.args.set.now.items))
    (positive_is c.args.set.now.variables c.variables.result c.in_ok-region.region c.variables.ensures c.in_ok-region.ensures) c.certify_in.ensures.value

pub returns-clause-err : goal.returns-clause-err
returns-clause-err c = subst (λ (k : Region). IfErr c.certify_in.result (IsCertificateCauseIn c.args.set.now.variables k c.args.set.now.items))
    (positive_is c.args.set.now.variables c.variables.result c.in_ok-region.region c.variables.ensures c.in_ok-region.ensures) c.certify_in.ensures.err

pub returns-clause-complete : goal.returns-clause-complete
returns-clause-complete c = λ within. only_memory _ c.certify_in.result
    (subst (λ (k : Region). IfErr c.certify_in.result (IsCertificateCauseIn c.args.set.now.variables k c.args.set.now.items))
    (positive_is c.args.set.now.variables c.variables.result c.in_ok-region.region c.variables.ensures c.in_ok-region.ensures) c.certify_in.ensures.err) within
