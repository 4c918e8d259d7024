use Rattle.std.proofs.Common.{◌≡◌, rules, arith, subst, sym, pos, All, IsTrue, length}
use Rattle.std.proofs.lemmas.List.{take_all}
use Rattle.gf_vec.specs.Vector.{dot}
use Rattle.gf_refine.proofs.InsideLaws.{all_more, row_long}
use Rattle.gf_refine.proofs.inside.is_zero_on.Goals as goal

pub is_zero_at-requires : goal.is_zero_at-requires
is_zero_at-requires c = sym (row_long (length c.args.h.now) c.loop-x.x-index c.args.xs.now c.x-item.result c.loop-x-test.true c.x-item.is c.requires)

pub loop-x-preserved : goal.loop-x-preserved
loop-x-preserved c = let t : IsTrue c.is_zero_at.result = search rules in all_more (λ x. dot c.args.h.now x ≡ pos 0)
    c.args.xs.now c.x-item.result c.loop-x.x-index c.loop-x-test.true c.x-item.is (c.is_zero_at.ensures t) c.loop-x.invariant

pub returns : goal.returns
returns c = λ t. subst (All (λ x. dot c.args.h.now x ≡ pos 0)) (take_all c.loop-x.x-index c.args.xs.now (omega (arith, c.loop-x-test.false))) c.loop-x.invariant
