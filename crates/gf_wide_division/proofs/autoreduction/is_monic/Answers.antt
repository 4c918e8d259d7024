use Rattle.gf_division.proofs.MonicLaws.{mark_one, monic_already}
use Rattle.gf_wide_division.proofs.autoreduction.is_monic.Goals as goal

pub returns : goal.returns
returns c = λ t. monic_already c.args.b.now c.requires c.head.ensures.marked
    (mark_one c.args.b.now c.coefficient.result c.narrow_one.result c.eq.result c.coefficient.ensures.term c.narrow_one.ensures c.eq.ensures t)
