use Rattle.std.proofs.Common.{◌≡◌, pos, arith, subst}
use Rattle.std.specs.Int.{w128}
use Rattle.std.proofs.lemmas.Int.{ints, to_z_pos}
use Rattle.gf_int_theory.specs.Content.{IsContent, quotients}
use Rattle.gf_vec.proofs.DividedLaws.{IsContent-unit, IsDivided-one, IsDivided-quotients, range-quotients}
use Rattle.gf_vec.proofs.content.divide_by_content.Goals as goal

pub returns-then-has_unit-clause-divided : goal.returns-then-has_unit-clause-divided
returns-then-has_unit-clause-divided c = IsDivided-one c.args.xs.now (IsContent-unit c.args.xs.now (c.has_unit.ensures.0 c.if-has_unit.true))

pub returns-then-by-ne1-clause-divided : goal.returns-then-by-ne1-clause-divided
returns-then-by-ne1-clause-divided c =
    let e : c.divide_all.new.xs ≡ quotients (pos c.content-by.result) c.args.xs.now =
    rw (← to_z_pos w128 c.content-by.result c.content-by.ensures.bound) c.divide_all.ensures in
    rw (to_z_pos w128 c.content-by.result c.content-by.ensures.bound, e) (IsDivided-quotients c.args.xs.now c.content-by.result c.content-by.ensures.content)

pub returns-then-by-ne1-clause-range : goal.returns-then-by-ne1-clause-range
returns-then-by-ne1-clause-range c =
    let e : c.divide_all.new.xs ≡ quotients (pos c.content-by.result) c.args.xs.now =
    rw (← to_z_pos w128 c.content-by.result c.content-by.ensures.bound) c.divide_all.ensures in
    rw e (range-quotients c.args.xs.now c.content-by.result c.requires)

pub returns-else-by-ne1-clause-divided : goal.returns-else-by-ne1-clause-divided
returns-else-by-ne1-clause-divided c =
    let e : c.content-by.result ≡ 1 = omega (arith, ints, c.if-by-ne1.false) in
    rw (
      to_z_pos w128 c.content-by.result c.content-by.ensures.bound,
      e,
    ) (IsDivided-one c.args.xs.now (subst (IsContent c.args.xs.now) e c.content-by.ensures.content))
