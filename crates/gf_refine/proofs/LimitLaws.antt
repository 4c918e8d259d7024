-- Where bounds on the rows of two fans have room, no operation of finding their common refinement leaves the range.
use Rattle.std.proofs.Common.{◌∙◌, ◌+◌, [], length, length-append, subst, inl, inr}
use Rattle.gf_duality_theory.specs.Faces.{Rows}
use Rattle.gf_rays.specs.Reached.{IsRaysStep}
use Rattle.gf_fans_theory.specs.Fans.{meet}
use Rattle.gf_rays.specs.Cones.{rows_of}
use Rattle.gf_fan.specs.FaceSystems.{IsFaceSystem}
use Rattle.gf_fan.proofs.LimitLaws.{small_meet, small_face, face_long, no_system_step, no_none_step}
use Rattle.gf_refine.specs.Limits.{RefinementsWithRoomStayWithinLimits}

pub refinements_with_room_stay_within_limits : RefinementsWithRoomStayWithinLimits
refinements_with_room_stay_within_limits n b f g hn hb e wf wg room none s (inl x) =
    let c : Rows = rows_of x.c.cone in let d : Rows = rows_of x.d.cone in
    let small = small_meet n b c d (wf x.c x.first) (wg x.d x.second) in
    let long = length-append x.c.cone.inequalities x.d.cone.inequalities in
    let has = room x.c x.d x.first x.second in
    elim x.step [
      | inl y ↦ no_system_step n b (length x.c.cone.inequalities + length x.d.cone.inequalities) (meet c d) s hn hb small long has
          (subst (λ k. IsRaysStep k (meet c d).inequalities (meet c d).equations s) e y)
      | inr y ↦
          let face : IsFaceSystem n (meet c d) y.face = subst (λ k. IsFaceSystem k (meet c d) y.face) e y.is_face in
          no_system_step n b (length x.c.cone.inequalities + length x.d.cone.inequalities) y.face s hn hb (small_face n b (meet c d) y.face small face)
          (face_long n (meet c d) y.face face ∙ long) has (subst (λ k. IsRaysStep k y.face.inequalities y.face.equations s) e y.step)
    ]
refinements_with_room_stay_within_limits n b f g hn hb e wf wg room none s (inr x) = no_none_step n b s hn hb none (subst (λ k. IsRaysStep k [] [] s) e x.1)
