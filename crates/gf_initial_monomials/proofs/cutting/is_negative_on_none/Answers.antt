use Rattle.std.proofs.Common.{rules, IsTrue, pos, ◌≤ℤ◌}
use Rattle.gf_vec.specs.Vector.{dot}
use Rattle.gf_initial_monomials.proofs.OutcomeLaws.{pass_none, pass_more, pass_all}
use Rattle.gf_initial_monomials.proofs.cutting.is_negative_on_none.Goals as goal

pub loop-v-init : goal.loop-v-init
loop-v-init c = pass_none (λ v. pos 0 ≤ℤ dot c.args.row.now v) c.args.vectors.now

pub loop-v-preserved : goal.loop-v-preserved
loop-v-preserved c = let t : IsTrue c.is_not_negative.result = search rules in pass_more (λ v. pos 0 ≤ℤ dot c.args.row.now v) c.args.vectors.now
    c.loop-v.v-index c.v-item.result c.loop-v-test.true c.v-item.is (c.is_not_negative.ensures t) c.loop-v.invariant

pub returns : goal.returns
returns c = λ t. pass_all (λ v. pos 0 ≤ℤ dot c.args.row.now v) c.args.vectors.now c.loop-v.v-index c.loop-v-test.false c.loop-v.invariant
