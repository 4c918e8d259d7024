use Rattle.std.proofs.Common.{rules, IsTrue, pos, ◌≡◌}
use Rattle.gf_vec.specs.Vector.{dot}
use Rattle.gf_initial_monomials.proofs.OutcomeLaws.{pass_none, pass_more, pass_all}
use Rattle.gf_initial_monomials.proofs.cutting.is_zero_on_all.Goals as goal

pub loop-v-init : goal.loop-v-init
loop-v-init c = pass_none (λ v. dot c.args.row.now v ≡ pos 0) c.args.vectors.now

pub loop-v-preserved : goal.loop-v-preserved
loop-v-preserved c = let t : IsTrue c.is_zero.result = search rules in pass_more (λ v. dot c.args.row.now v ≡ pos 0) c.args.vectors.now
    c.loop-v.v-index c.v-item.result c.loop-v-test.true c.v-item.is (c.is_zero.ensures t) c.loop-v.invariant

pub returns : goal.returns
returns c = λ t. pass_all (λ v. dot c.args.row.now v ≡ pos 0) c.args.vectors.now c.loop-v.v-index c.loop-v-test.false c.loop-v.invariant
