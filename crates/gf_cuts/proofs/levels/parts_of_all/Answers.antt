use Rattle.std.proofs.Common.{◌≡◌, ◌∷◌, [], map, All, subst}
use Rattle.gf_rays.specs.Cones.{RowsAndRays, rows_of}
use Rattle.gf_levels_theory.specs.Levels.{IsLevel}
use Rattle.gf_cuts.proofs.LevelLaws.{level_next, all_joined}
use Rattle.gf_cuts.proofs.OuterLaws.{taken, taken_ambient}
use Rattle.gf_cuts.proofs.DrawnLaws.{drawn_next}
use Rattle.gf_cuts.proofs.levels.parts_of_all.Goals as goal

pub loop-cone-preserved : goal.loop-cone-preserved
loop-cone-preserved c =
    let n = c.args.n in
    let v = c.loop-cone.yielded in
    let rest = c.loop-cone.cone-iterator.rest.items in
    let new = c.next.new.self.rest.items in
    let x = c.in-Some.cone in
    let e = c.in-Some.ensures.steps.0 in
    let own : x.ambient ≡ n = taken_ambient n v rest new c.args.cones.items x e c.loop-cone.invariant.whole c.requires.ambient in
    record {
      ambient = all_joined n c.loop-cone.out.items c.in_ok-parts.parts.items c.in_ok-out.out.items c.in_ok-out.ensures c.loop-cone.invariant.ambient
          (subst (λ m. All (λ (p : RowsAndRays). p.ambient ≡ m) c.in_ok-parts.parts.items) own c.in_ok-parts.ensures.ambient);
      level = level_next c.args.members n c.args.points.now v x c.loop-cone.out.items c.in_ok-parts.parts.items c.in_ok-out.out.items
          (subst (λ m. IsLevel c.args.members m c.args.points.now (rows_of x ∷ []) (map rows_of c.in_ok-parts.parts.items)) own c.in_ok-parts.ensures.level)
          c.in_ok-out.ensures c.loop-cone.invariant.level;
      rows = drawn_next c.args.points.now v x c.loop-cone.out.items c.in_ok-parts.parts.items c.in_ok-out.out.items c.in_ok-out.ensures
          c.loop-cone.invariant.rows c.in_ok-parts.ensures.rows;
      whole = taken v rest new c.args.cones.items x e c.loop-cone.invariant.whole;
    }
