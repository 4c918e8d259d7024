use Rattle.std.proofs.Common.{subst, sym, length, List, ℤ, ◌<◌}
use Rattle.gf_facets_theory.specs.Normals.{Ascends}
use Rattle.gf_cone.proofs.CrossingLaws.{small_read}
use Rattle.gf_cone.proofs.SmallLaws.{small_for_sign}
use Rattle.gf_tree.proofs.LabelLaws.{down_none, down_past, down_more, down_end}
use Rattle.gf_tree.proofs.WayLaws.{wide_at}
use Rattle.gf_tree.proofs.steps.downward_in.Goals as goal

pub normals-init : goal.normals-init
normals-init c = down_none c.args.tree.now.region.root c.normals-list.result.now c.in_ok-out.out.items c.in_ok-out.ensures.items

pub sign-requires-clause-small : goal.sign-requires-clause-small
sign-requires-clause-small c = small_for_sign c.index-list-i.result (small_read c.args.cone.now c.normals-list.result.now c.normals.i c.index-list-i.result
    c.normals-list.ensures.value c.normals-list.ensures.small
    (subst (λ (z : List (List ℤ)). c.normals.i < length z) c.normals-list.ensures.value c.normals-test.true) c.index-list-i.is)

pub sign-requires-clause-width : goal.sign-requires-clause-width
sign-requires-clause-width c = wide_at c.args.set.now.variables c.args.tree.now.region c.args.set.now.items c.args.cone.now c.requires.cone
    c.normals-list.result.now c.index-list-i.result c.normals.i c.normals-list.ensures.value c.normals-list.ensures.widths
    (subst (λ (z : List (List ℤ)). c.normals.i < length z) c.normals-list.ensures.value c.normals-test.true) c.index-list-i.is c.requires.node.fan.region

pub normals-preserved-in-Less : goal.normals-preserved-in-Less
normals-preserved-in-Less c = down_past c.args.tree.now.region.root c.normals-list.result.now c.normals.out.items c.normals.i c.index-list-i.result
    c.normals-test.true c.index-list-i.is (c.sign.ensures.negative.0 c.in-Less.is) c.normals.invariant

pub normals-preserved : goal.normals-preserved
normals-preserved c = down_more c.args.tree.now.region.root c.normals-list.result.now c.normals.out.items c.push.new.self.items c.normals.i
    c.index-list-i.result c.in_ok-normal.normal
    (subst Ascends (sym c.normals-list.ensures.value) c.requires.cone.normals.rises) c.normals-test.true c.index-list-i.is c.in_ok-normal.ensures
    (λ n. c.in_default.not-Less (c.sign.ensures.negative.1 n)) c.in_ok-push.ensures.items c.normals.invariant

pub returns : goal.returns
returns c = down_end c.args.tree.now.region.root c.args.set.now.items c.args.cone.now.normals c.normals-list.result.now c.normals.out.items c.normals.i
    c.requires.cone.normals c.normals-list.ensures.value c.normals-test.false c.normals.invariant
