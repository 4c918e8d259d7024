use Rattle.std.proofs.Common.{arith, []}
use Rattle.gf_cone.proofs.AnswerLaws.{cone_of, kept_of}
use Rattle.gf_cone.proofs.cone.made.Goals as goal

pub invariant_of-result : goal.invariant_of-result
invariant_of-result c = kept_of c.args.set.now.variables c.variables-variables.result c.len-count.result c.args.rows.now c.args.set.now.items
    c.in_ok-normals.normals.items c.in_ok-vectors.vectors.items c.variables-variables.ensures (omega (arith, c.len-count.ensures, c.in_ok-normals.normals.ok.0))
    c.in_ok-vectors.ensures c.in_ok-normals.ensures.canonical c.in_ok-normals.ensures.normals c.in_ok-normals.ensures.small c.requires

pub returns : goal.returns
returns c = cone_of c.args.set.now.variables c.variables-variables.result c.len-count.result (record { rows = c.args.rows.now; root = [] })
    c.args.set.now.items c.in_ok-normals.normals.items c.in_ok-vectors.vectors.items c.variables-variables.ensures
    (omega (arith, c.len-count.ensures, c.in_ok-normals.normals.ok.0)) c.in_ok-vectors.ensures c.in_ok-normals.ensures.canonical c.in_ok-normals.ensures.normals
