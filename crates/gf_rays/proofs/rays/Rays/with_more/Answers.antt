use Rattle.std.proofs.lemmas.Result.{IfErr-weaker}
use Rattle.gf_rays.proofs.StepLaws.{only_memory}
use Rattle.gf_rays.proofs.rays.Rays.with_more.Goals as goal

pub returns-clause-complete : goal.returns-clause-complete
returns-clause-complete c = λ none. IfErr-weaker c.taken_further.result _ _ (λ e f. only_memory _ e none f) c.taken_further.ensures.err
