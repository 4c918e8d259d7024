use Rattle.std.proofs.Common.{arith, refl, subst}
use Rattle.std.proofs.lemmas.Result.{err_from_is_err_and}
use Rattle.gf_known_cone.specs.Ways.{IsWayShown}
use Rattle.gf_tree.proofs.RefusalLaws.{cone_refused, cone_at}
use Rattle.gf_tree.proofs.WayLaws.{way_none, way_read}
use Rattle.gf_tree.proofs.steps.way_in.Goals as goal

pub returns-in_err-way-clause-cause : goal.returns-in_err-way-clause-cause
returns-in_err-way-clause-cause c =
    let k = c.args.tree.now.region in
    let v = c.args.set.now in
    let is = c.requires.cone in
    let p = err_from_is_err_and c.from_residual.result c.from_residual.ensures.1 in
    rw p.1 (cone_refused k c.args.tree.now.pairs v c.args.cone.now _ c.in_err-way.field-0.0 p.0 c.requires.node is (omega arith) c.in_err-way.ensures.err p.2)

pub returns-in_err-way-clause-at : goal.returns-in_err-way-clause-at
returns-in_err-way-clause-at c =
    let k = c.args.tree.now.region in
    let v = c.args.set.now in
    let p = err_from_is_err_and c.from_residual.result c.from_residual.ensures.1 in
    rw p.1 (cone_at k c.args.tree.now.pairs v c.args.cone.now _ c.in_err-way.field-0.0 p.0 c.requires.cone (omega arith) c.in_err-way.ensures.err p.2)

pub returns-in-None-clause-ok : goal.returns-in-None-clause-ok
returns-in-None-clause-ok c =
    let k = c.args.tree.now.region in
    let v = c.args.set.now in
    let cone = c.args.cone.now in
    way_none v.variables k v.items cone c.requires.cone (subst (IsWayShown k.root cone) c.in-None.is c.in_ok-way.ensures.ok)

pub returns-clause-ok : goal.returns-clause-ok
returns-clause-ok c =
    let k = c.args.tree.now.region in
    let v = c.args.set.now in
    let cone = c.args.cone.now in
    way_read v.variables k v.items cone c.requires.cone c.normals.result.now cone c.in-Some.way.index c.index-normals-way.result c.in_ok-normal.normal
    c.normals.ensures.value refl c.index-normals-way.is c.in_ok-normal.ensures (subst (IsWayShown k.root cone) c.in-Some.is c.in_ok-way.ensures.ok).0
