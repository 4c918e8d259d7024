use Rattle.std.proofs.Common.{length, refl, sym, subst, ◌∙◌, rules, FitsSigned}
use Rattle.std.specs.Int.{w128}
use Rattle.std.proofs.lemmas.Int.{to_z-of_z}
use Rattle.gf_cone.specs.Small.{IsSmall}
use Rattle.gf_known_cone.proofs.NearLaws.{seen_next}
use Rattle.gf_known_cone.proofs.near.seen_by.Goals as goal

pub values_by-requires-clause-small : goal.values_by-requires-clause-small
values_by-requires-clause-small c = subst IsSmall (sym c.index-normals-k.is) (c.requires.small c.loop-k.k c.index-normals-k.result c.loop-k-test.true)

pub loop-k-preserved : goal.loop-k-preserved
loop-k-preserved c =
    let fits : FitsSigned w128 c.in_ok-value.value = search rules in
    seen_next c.args.normals.now c.args.near.now c.index-normals-k.result (length c.args.normals.now) c.loop-k.k _ c.loop-k.zero
    c.zero_with-zero.result refl c.loop-k-test.true c.index-normals-k.is (to_z-of_z w128 c.in_ok-value.value fits ∙ c.in_ok-value.ensures)
    c.zero_with-zero.ensures c.loop-k.invariant
