use Rattle.std.proofs.Common.{below_more, refl, sym, subst}
use Rattle.gf_cone.specs.Small.{IsSmall}
use Rattle.gf_cone.specs.Crossing.{IsShownBy}
use Rattle.gf_cone.proofs.CrossingLaws.{shown_next}
use Rattle.gf_cone.proofs.checks.normals_show.Goals as goal

pub loop-k-preserved : goal.loop-k-preserved
loop-k-preserved c = below_more (IsShownBy c.args.normals.now c.args.index c.args.w.now) c.loop-k.k c.loop-k.invariant
    (shown_next c.args.normals.now c.args.index c.loop-k.k c.args.w.now c.index-normals-k.result c.loop-k-test.true c.index-normals-k.is
    (c.if-not-is_as_asked.ensures.zero refl) (c.if-not-is_as_asked.ensures.positive refl))

pub is_as_asked-requires-clause-small : goal.is_as_asked-requires-clause-small
is_as_asked-requires-clause-small c = subst IsSmall (sym c.index-normals-k.is) (c.requires.small c.loop-k.k c.index-normals-k.result c.loop-k-test.true)
