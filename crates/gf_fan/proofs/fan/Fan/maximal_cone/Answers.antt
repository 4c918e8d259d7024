use Rattle.std.proofs.Common.{sym, subst, List, arith, get_or}
use Rattle.gf_rays.specs.Cones.{RowsAndRays}
use Rattle.gf_fan.specs.ConeParts.{HasRowsAndRaysOf}
use Rattle.gf_fan.specs.FanLists.{FanLists}
use Rattle.gf_fan.specs.MaximalCones.{no_cone, maximal_of}
use Rattle.gf_fan.specs.WholeCones.{AreWholeCones}
use Rattle.gf_fan.proofs.WholeLaws.{whole_at}
use Rattle.gf_fan.proofs.fan.Fan.maximal_cone.Goals as goal

pub index-requires : goal.index-requires
index-requires c =
    let w = subst (λ (z : FanLists). AreWholeCones z.cones z.maximal c.self.inside.members.whole.items) c.self.view_is c.self.invariant.2 in
    let long = w.long in
    omega (arith, c.self.inside.members.whole.ok.0, long, c.requires)

pub returns : goal.returns
returns c =
    let f : FanLists = c.args.self.now in
    let whole : List RowsAndRays = c.self.inside.members.whole.items in
    let w = subst (λ (z : FanLists). AreWholeCones z.cones z.maximal whole) c.self.view_is c.self.invariant.2 in
    subst (λ (z : RowsAndRays). HasRowsAndRaysOf z (get_or (maximal_of f) c.args.i no_cone).cone) (sym c.as_rays.ensures)
    (whole_at f whole c.args.i c.index.result.now w c.requires c.index.ensures)
