use Rattle.std.proofs.Common.{arith}
use Rattle.gf_fan_files.proofs.WrittenFansLaws.{cones_writable}
use Rattle.gf_fan_files.proofs.again.fan_cones_are_writable.Goals as goal

pub returns-clause-all : goal.returns-clause-all
returns-clause-all c = cones_writable c.args.cones.now (λ i d l. c.cones.invariant i d (let out = c.cones-test.false in omega (arith, l, out)))
