use Rattle.std.proofs.Common.{refl}
use Rattle.std.proofs.lemmas.Result.{on_ok_weaker}
use Rattle.gf_frac.specs.Fraction.{whole}
use Rattle.gf_poly.specs.Polynomial.{times_term}
use Rattle.gf_whole_division.specs.Values.{term_value}
use Rattle.gf_whole_division.proofs.CombinationLaws.{sum_after_move, pushed_sum}
use Rattle.gf_whole_division.proofs.combinations.Halves.add.Goals as goal

pub returns-then-is_next_equal : goal.returns-then-is_next_equal
returns-then-is_next_equal c =
    on_ok_weaker c.merge.result
    (sum_after_move (whole c.args.by.now) c.args.self.now c.descend.new.self c.merge.new.self
    (times_term (whole c.args.m.now.factor) c.args.m.now.mono (term_value c.args.t.now)) c.in_ok-descend.ensures) c.merge.ensures

pub returns : goal.returns
returns c =
    sum_after_move (whole c.args.by.now) c.args.self.now c.descend.new.self (record { above = c.push.new.self; below = c.descend.new.self.below })
    (times_term (whole c.args.m.now.factor) c.args.m.now.mono (term_value c.args.t.now)) c.in_ok-descend.ensures
    (pushed_sum (whole c.args.by.now) c.descend.new.self (record { above = c.push.new.self; below = c.descend.new.self.below }) c.in_ok-new.new
    (times_term (whole c.args.m.now.factor) c.args.m.now.mono (term_value c.args.t.now)) c.in_ok-new.ensures c.in_ok-push.ensures.items refl)
