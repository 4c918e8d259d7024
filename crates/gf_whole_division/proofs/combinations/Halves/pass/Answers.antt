use Rattle.std.proofs.Common.{refl}
use Rattle.gf_frac.specs.Fraction.{whole}
use Rattle.gf_whole_division.proofs.CombinationLaws.{pass_moved}
use Rattle.gf_whole_division.proofs.combinations.Halves.pass.Goals as goal

pub returns-in_ok-push-clause-moved : goal.returns-in_ok-push-clause-moved
returns-in_ok-push-clause-moved c =
    pass_moved (whole c.args.by.now) c.args.self.now (record { above = c.push.new.self; below = c.pop.new.self }) c.pop.new.self.items c.in-Some.first
    c.scale.new.self c.in-Some.ensures.items c.in_ok-scale.ensures c.in_ok-push.ensures.items refl
