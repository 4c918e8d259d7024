use Rattle.std.proofs.Common.{◌≡◌, sym, subst}
use Rattle.gf_gordan.specs.Alternative.{AreRows}
use Rattle.gf_rays.specs.Cones.{RowsAndRays}
use Rattle.gf_tropical.proofs.CutLaws.{width_none, width_more, entries_all}
use Rattle.gf_tropical.proofs.levels.have_entries.Goals as goal

pub loop-c-init : goal.loop-c-init
loop-c-init c = width_none c.args.n

pub loop-c-preserved : goal.loop-c-preserved
loop-c-preserved c =
    let x : RowsAndRays = c.c-item.result in
    let e : x.ambient ≡ c.args.n = subst (λ (d : RowsAndRays). d.ambient ≡ c.args.n) (sym c.c-item.is)
    (c.requires c.loop-c.c-index c.c-item.result c.loop-c-test.true) in
    width_more c.args.n c.args.cones.now c.loop-c.c-index x c.loop-c-test.true c.c-item.is
    (subst (λ m. AreRows m x.inequalities) e (subst (AreRows x.ambient) c.inequalities.ensures.value c.inequalities.ensures.width))
    (subst (λ m. AreRows m x.equations) e (subst (AreRows x.ambient) c.equations.ensures.value c.equations.ensures.width)) c.loop-c.invariant

pub returns : goal.returns
returns c = entries_all c.args.n c.args.cones.now c.loop-c.c-index c.loop-c-test.false c.loop-c.invariant
