use Rattle.std.proofs.Common.{arith}
use Rattle.std.proofs.lemmas.Result.{err_from_is_err_and}
use Rattle.gf_gordan.proofs.SystemLaws.{Failed-weaker}
use Rattle.gf_rays.specs.Cones.{RowsAndRays}
use Rattle.gf_fan.proofs.ListingLaws.{zero_wide}
use Rattle.gf_fan.proofs.WholeLaws.{zero_as, rays_of_part, whole_part, part_as, step_as}
use Rattle.gf_fan.proofs.cone_part.ConePart.whole.Goals as goal

pub part-requires-clause-width : goal.part-requires-clause-width
part-requires-clause-width c =
    let x : RowsAndRays = c.as_rays-cone.result.now in
    zero_wide x _ c.deref.result.now c.has_its_rays.ensures.inequalities_width (zero_as x c.in_ok-zero.zero.items c.deref.result.now c.as_slice.result.now
    c.as_slice-2.result.now c.self.inside.numbers c.in_ok-zero.ensures c.deref.ensures.value c.as_slice.ensures c.as_slice-2.ensures)

pub part-requires-clause-part : goal.part-requires-clause-part
part-requires-clause-part c =
    let x : RowsAndRays = c.as_rays-cone.result.now in
    rays_of_part x c.self.inside.cone c.as_slice-2.result.now c.self.inside.numbers c.deref.result.now c.has_its_rays.ensures c.self.invariant
    c.as_rays-cone.ensures c.as_slice-2.ensures (zero_as x c.in_ok-zero.zero.items c.deref.result.now c.as_slice.result.now c.as_slice-2.result.now
    c.self.inside.numbers c.in_ok-zero.ensures c.deref.ensures.value c.as_slice.ensures c.as_slice-2.ensures)

pub returns-then-len-eq0-clause-ok : goal.returns-then-len-eq0-clause-ok
returns-then-len-eq0-clause-ok c =
    let x : RowsAndRays = c.as_rays-cone.result.now in
    whole_part x c.self.inside.cone c.in_ok-again.field-0 c.args.self.now c.as_slice.result.now c.self.inside.numbers c.in_ok-zero.zero.items
    c.has_its_rays.ensures c.self.invariant c.as_rays-cone.ensures c.as_slice.ensures c.in_ok-zero.ensures
    (omega (arith, c.if-len-eq0.true, c.len.ensures)) c.in_ok-again.ensures c.self.view_is

pub returns-in_err-part-clause-err : goal.returns-in_err-part-clause-err
returns-in_err-part-clause-err c =
    let x : RowsAndRays = c.as_rays-cone.result.now in
    let p = err_from_is_err_and c.from_residual-in_err-part.result c.from_residual-in_err-part.ensures.1 in
    rw (p.1, p.2) (Failed-weaker _ _ (λ s step. step_as x c.self.inside.cone c.args.self.now c.as_slice-2.result.now c.self.inside.numbers c.deref.result.now s
    c.as_rays-cone.ensures c.as_slice-2.ensures (zero_as x c.in_ok-zero.zero.items c.deref.result.now c.as_slice.result.now c.as_slice-2.result.now
    c.self.inside.numbers c.in_ok-zero.ensures c.deref.ensures.value c.as_slice.ensures c.as_slice-2.ensures) c.self.view_is step) _ c.in_err-part.ensures.err)

pub returns-clause-ok : goal.returns-clause-ok
returns-clause-ok c =
    let x : RowsAndRays = c.as_rays-cone.result.now in
    part_as x c.self.inside.cone c.in_ok-part.part c.in_ok-of.field-0 c.args.self.now c.as_slice-2.result.now c.self.inside.numbers c.deref.result.now
    c.as_rays-cone.ensures c.as_slice-2.ensures (zero_as x c.in_ok-zero.zero.items c.deref.result.now c.as_slice.result.now c.as_slice-2.result.now
    c.self.inside.numbers c.in_ok-zero.ensures c.deref.ensures.value c.as_slice.ensures c.as_slice-2.ensures)
    c.in_ok-part.ensures.rows c.in_ok-part.ensures.rays
    c.in_ok-of.ensures c.self.view_is
