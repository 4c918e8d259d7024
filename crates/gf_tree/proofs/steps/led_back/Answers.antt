use Rattle.std.proofs.Common.{arith, sym, subst}
use Rattle.std.proofs.lemmas.Result.{err_from_is_err_and}
use Rattle.gf_poly.specs.Marking.{MarkedPolynomials}
use Rattle.gf_cone.specs.Cones.{IsConeOf}
use Rattle.gf_reverse_theory.specs.Upward.{IsWayUp}
use Rattle.gf_facets_theory.specs.Normals.{Ascends}
use Rattle.gf_tree.specs.Indices.{IsVectorIndex}
use Rattle.gf_tree.proofs.RefusalLaws.{cone_at}
use Rattle.gf_tree.proofs.WayLaws.{no_way, index_read, missing_read, told_way, not_told}
use Rattle.gf_tree.proofs.steps.led_back.Goals as goal

pub index_of-requires : goal.index_of-requires
index_of-requires c = subst Ascends (sym c.normals.ensures.value) c.in_ok-cone.ensures.normals.rises

pub returns-in-None-clause-ok : goal.returns-in-None-clause-ok
returns-in-None-clause-ok c =
    let k = c.args.tree.now.region in
    let v = c.args.neighbour in
    let cone = c.in_ok-cone.cone in
    let shown = subst (λ (w : MarkedPolynomials). IsConeOf w.variables k w.items cone) c.neighbour.view_is c.in_ok-cone.ensures in
    let is = shown in
    no_way v.variables k v.items cone is c.args.back.now
    (missing_read v.variables k v.items cone is c.normals.result.now c.args.back.now c.normals.ensures.value
    (subst (IsVectorIndex c.normals.result.now c.args.back.now) c.in-None.is c.index_of.ensures))

pub returns-in_err-is_way_up-clause-cause : goal.returns-in_err-is_way_up-clause-cause
returns-in_err-is_way_up-clause-cause c =
    let k = c.args.tree.now.region in
    let v = c.args.neighbour in
    let cone = c.in_ok-cone.cone in
    let shown = subst (λ (w : MarkedPolynomials). IsConeOf w.variables k w.items cone) c.neighbour.view_is c.in_ok-cone.ensures in
    let is = shown in
    let at = index_read v.variables k v.items cone is c.normals.result.now c.args.back.now c.in-Some.index c.normals.ensures.value
    (subst (IsVectorIndex c.normals.result.now c.args.back.now) c.in-Some.is c.index_of.ensures) in
    let p = err_from_is_err_and c.from_residual-in_err-is_way_up.result c.from_residual-in_err-is_way_up.ensures.1 in
    rw p.1 (cone_at k c.args.tree.now.pairs v cone _ c.in_err-is_way_up.field-0.0 p.0 is (let l = at.0 in omega (arith, l)) c.in_err-is_way_up.ensures.err p.2)

pub returns-in-true-clause-ok : goal.returns-in-true-clause-ok
returns-in-true-clause-ok c =
    let k = c.args.tree.now.region in
    let v = c.args.neighbour in
    let cone = c.in_ok-cone.cone in
    let shown = subst (λ (w : MarkedPolynomials). IsConeOf w.variables k w.items cone) c.neighbour.view_is c.in_ok-cone.ensures in
    let is = shown in
    let at = index_read v.variables k v.items cone is c.normals.result.now c.args.back.now c.in-Some.index c.normals.ensures.value
    (subst (IsVectorIndex c.normals.result.now c.args.back.now) c.in-Some.is c.index_of.ensures) in (
      c.neighbour.view_is,
      (told_way v.variables k v.items cone is c.args.back.now c.in-Some.index c.in_ok-is_way_up.field-0 at c.in_ok-is_way_up.ensures.ok).0
          c.in-true.is,
    )

pub returns-clause-ok : goal.returns-clause-ok
returns-clause-ok c =
    let k = c.args.tree.now.region in
    let v = c.args.neighbour in
    let cone = c.in_ok-cone.cone in
    let shown = subst (λ (w : MarkedPolynomials). IsConeOf w.variables k w.items cone) c.neighbour.view_is c.in_ok-cone.ensures in
    let is = shown in
    let at = index_read v.variables k v.items cone is c.normals.result.now c.args.back.now c.in-Some.index c.normals.ensures.value
    (subst (IsVectorIndex c.normals.result.now c.args.back.now) c.in-Some.is c.index_of.ensures) in
    not_told c.in_ok-is_way_up.field-0 (IsWayUp v.variables k v.items c.args.back.now)
    (told_way v.variables k v.items cone is c.args.back.now c.in-Some.index c.in_ok-is_way_up.field-0 at c.in_ok-is_way_up.ensures.ok) c.in-false.is
