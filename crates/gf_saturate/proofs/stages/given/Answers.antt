use Rattle.std.proofs.Common.{inl, refl}
use Rattle.gf_saturate.proofs.StageLaws.{given_stage}
use Rattle.gf_saturate.proofs.stages.given.Goals as goal

pub returns-clause-way : goal.returns-clause-way
returns-clause-way c = inl c.in_ok-polys.ensures

pub returns-clause-stage : goal.returns-clause-stage
returns-clause-stage c = given_stage c.args.n c.args.set.now _ c.requires.variables c.in_ok-polys.ensures c.product.ensures.long c.product.ensures.all refl
