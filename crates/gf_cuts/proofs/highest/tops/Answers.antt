use Rattle.std.proofs.Common.{length, refl}
use Rattle.std.proofs.lemmas.Result.{IfOk-weaker}
use Rattle.gf_cuts.proofs.HeightLaws.{tops_of, tops_inside, thinned_as}
use Rattle.gf_cuts.proofs.highest.tops.Goals as goal

pub returns-clause-inside : goal.returns-clause-inside
returns-clause-inside c =
    let rows = c.args.rows.now in
    IfOk-weaker c.thinned.result _ _
    (λ out t. tops_inside c.args.cone.now c.args.points.now rows (length rows) c.in_ok-all.all.items out.items c.requires.rows refl c.in_ok-all.ensures.below
    (thinned_as rows rows c.deref.result.now c.in_ok-all.all.items out.items refl c.deref.ensures.value t)) c.thinned.ensures

pub returns-clause-tops : goal.returns-clause-tops
returns-clause-tops c =
    let rows = c.args.rows.now in
    IfOk-weaker c.thinned.result _ _
    (λ out t. tops_of c.args.cone.now c.args.points.now rows (length rows) c.in_ok-all.all.items out.items c.requires.rays c.requires.wide c.requires.rows refl
    c.in_ok-all.ensures.below c.in_ok-all.ensures.every
    (thinned_as rows rows c.deref.result.now c.in_ok-all.all.items out.items refl c.deref.ensures.value t)) c.thinned.ensures
