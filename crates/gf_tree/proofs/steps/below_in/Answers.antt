use Rattle.std.proofs.Common.{sym, subst}
use Rattle.std.proofs.lemmas.Result.{err_from_is_err_and}
use Rattle.gf_facets_theory.specs.Normals.{Ascends}
use Rattle.gf_tree.specs.Indices.{IsVectorIndex}
use Rattle.gf_tree.proofs.LabelLaws.{child_none, child_upward}
use Rattle.gf_tree.proofs.RefusalLaws.{index_at}
use Rattle.gf_tree.proofs.WayLaws.{no_crossing, index_read, missing_read, shown_crossing, refuted_crossing, negative_read, wide_at, small_at}
use Rattle.gf_tree.proofs.steps.below_in.Goals as goal

pub index_of-requires : goal.index_of-requires
index_of-requires c = subst Ascends (sym c.normals-list.ensures.value) c.requires.cone.normals.rises

pub returns-in-None-clause-ok : goal.returns-in-None-clause-ok
returns-in-None-clause-ok c =
    let k = c.args.tree.now.region in
    let v = c.args.set.now in
    let cone = c.args.cone.now in
    let is = c.requires.cone in
    child_none k v c.args.normal.now (no_crossing v.variables k v.items cone is c.args.normal.now
    (missing_read v.variables k v.items cone is c.normals-list.result.now c.args.normal.now c.normals-list.ensures.value
    (subst (IsVectorIndex c.normals-list.result.now c.args.normal.now) c.in-None.is c.index_of.ensures)))

pub sign-requires-clause-small : goal.sign-requires-clause-small
sign-requires-clause-small c =
    let k = c.args.tree.now.region in
    let v = c.args.set.now in
    let cone = c.args.cone.now in
    let is = c.requires.cone in
    let at = index_read v.variables k v.items cone is c.normals-list.result.now c.args.normal.now c.in-Some.index c.normals-list.ensures.value
    (subst (IsVectorIndex c.normals-list.result.now c.args.normal.now) c.in-Some.is c.index_of.ensures) in
    small_at v.variables k v.items cone is c.normals-list.result.now c.args.normal.now c.index-list-index.result c.in-Some.index c.normals-list.ensures.value
    c.normals-list.ensures.small at c.index-list-index.is

pub sign-requires-clause-width : goal.sign-requires-clause-width
sign-requires-clause-width c =
    let k = c.args.tree.now.region in
    let v = c.args.set.now in
    let cone = c.args.cone.now in
    let is = c.requires.cone in
    let at = index_read v.variables k v.items cone is c.normals-list.result.now c.args.normal.now c.in-Some.index c.normals-list.ensures.value
    (subst (IsVectorIndex c.normals-list.result.now c.args.normal.now) c.in-Some.is c.index_of.ensures) in
    wide_at v.variables k v.items cone is c.normals-list.result.now c.index-list-index.result c.in-Some.index c.normals-list.ensures.value
    c.normals-list.ensures.widths at.0 c.index-list-index.is c.requires.node.fan.region

pub returns-in-Less-clause-ok : goal.returns-in-Less-clause-ok
returns-in-Less-clause-ok c =
    let k = c.args.tree.now.region in
    let v = c.args.set.now in
    let cone = c.args.cone.now in
    let is = c.requires.cone in
    let at = index_read v.variables k v.items cone is c.normals-list.result.now c.args.normal.now c.in-Some.index c.normals-list.ensures.value
    (subst (IsVectorIndex c.normals-list.result.now c.args.normal.now) c.in-Some.is c.index_of.ensures) in
    child_upward k v c.args.normal.now (negative_read v.variables k v.items cone is c.normals-list.result.now c.args.normal.now c.index-list-index.result
    c.in-Some.index c.sign.result c.normals-list.ensures.value at c.index-list-index.is c.sign.ensures.negative c.in-Less.is)

pub returns-in_err-crossing-clause-cause : goal.returns-in_err-crossing-clause-cause
returns-in_err-crossing-clause-cause c =
    let k = c.args.tree.now.region in
    let v = c.args.set.now in
    let cone = c.args.cone.now in
    let is = c.requires.cone in
    let at = index_read v.variables k v.items cone is c.normals-list.result.now c.args.normal.now c.in-Some.index c.normals-list.ensures.value
    (subst (IsVectorIndex c.normals-list.result.now c.args.normal.now) c.in-Some.is c.index_of.ensures) in
    let p = err_from_is_err_and c.from_residual.result c.from_residual.ensures.1 in
    rw p.1 (index_at k c.args.tree.now.pairs v cone c.in-Some.index c.in_err-crossing.field-0.0 p.0 is at.0 c.in_err-crossing.ensures.err p.2)

pub returns-in-None-crossing : goal.returns-in-None-crossing
returns-in-None-crossing c =
    let k = c.args.tree.now.region in
    let v = c.args.set.now in
    let cone = c.args.cone.now in
    let is = c.requires.cone in
    let at = index_read v.variables k v.items cone is c.normals-list.result.now c.args.normal.now c.in-Some.index c.normals-list.ensures.value
    (subst (IsVectorIndex c.normals-list.result.now c.args.normal.now) c.in-Some.is c.index_of.ensures) in
    record {
      ok = child_none k v c.args.normal.now (refuted_crossing v.variables k v.items cone is c.args.normal.now c.in-Some.index c.in_ok-crossing.crossing at
          c.in_ok-crossing.ensures.told c.in-None-crossing.is);
      cause = tt;
    }

pub crossed-requires-clause-flippable : goal.crossed-requires-clause-flippable
crossed-requires-clause-flippable c =
    let k = c.args.tree.now.region in
    let v = c.args.set.now in
    let cone = c.args.cone.now in
    let is = c.requires.cone in
    let at = index_read v.variables k v.items cone is c.normals-list.result.now c.args.normal.now c.in-Some.index c.normals-list.ensures.value
    (subst (IsVectorIndex c.normals-list.result.now c.args.normal.now) c.in-Some.is c.index_of.ensures) in
    shown_crossing v.variables k v.items cone is c.args.normal.now c.in-Some.index c.in-Some-crossing.witness c.in_ok-crossing.crossing at
    c.in_ok-crossing.ensures.told c.in-Some-crossing.is
