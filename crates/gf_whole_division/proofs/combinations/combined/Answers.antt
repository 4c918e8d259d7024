use Rattle.std.proofs.Common.{arith, refl}
use Rattle.std.proofs.lemmas.Result.{IfOk-weaker}
use Rattle.gf_frac.specs.Fraction.{whole}
use Rattle.gf_whole_division.proofs.CombinationLaws.{combining_start, combining_more, combining_end}
use Rattle.gf_whole_division.proofs.combinations.combined.Goals as goal

pub terms-init : goal.terms-init
terms-init c =
    combining_start (whole c.args.by.now) (whole c.args.m.now.factor) c.args.m.now.mono c.args.old.items c.args.more.now
    (record { above = c.in_ok-with_capacity.field-0; below = c.args.old }) _ c.in_ok-with_capacity.ensures.items refl refl

pub bounds-more-j : goal.bounds-more-j
bounds-more-j c = omega (arith, c.terms.invariant.inside, c.terms-test.true)

pub terms-preserved : goal.terms-preserved
terms-preserved c =
    combining_more (whole c.args.by.now) (whole c.args.m.now.factor) c.args.m.now.mono c.args.old.items c.args.more.now c.terms.all c.add.new.self c.terms.j
    c.index-more-j.result c.terms-test.true c.index-more-j.is c.in_ok-add.ensures c.terms.invariant

pub returns : goal.returns
returns c =
    IfOk-weaker c.joined.result _ _
    (λ h. combining_end (whole c.args.by.now) (whole c.args.m.now.factor) c.args.m.now.mono c.args.old.items c.args.more.now c.terms.all c.finish.new.self
    c.terms.j h.items c.terms-test.false c.terms.invariant c.in_ok-finish.ensures) c.joined.ensures
