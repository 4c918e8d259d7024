use Rattle.std.proofs.lemmas.Result.{IfOk-weaker}
use Rattle.gf_rays.specs.Cones.{rows_of}
use Rattle.gf_initial_monomials.proofs.CutLaws.{cutting_rows, more_cut, anew_cut}
use Rattle.gf_initial_monomials.proofs.cones.cut_by.Goals as goal

pub with_more-requires : goal.with_more-requires
with_more-requires c =
    cutting_rows c.args.cone.now.ambient (rows_of c.args.cone.now) c.args.rows.now c.args.more.now c.requires.rows c.requires.more

pub returns-in-Ok-clause-ok : goal.returns-in-Ok-clause-ok
returns-in-Ok-clause-ok c =
    more_cut (rows_of c.args.cone.now) c.args.cone.now.ambient c.args.rows.now c.args.more.now c.in-Ok.cut c.requires.more c.in-Ok.ensures.rows

pub returns-in-Err-clause-ok : goal.returns-in-Err-clause-ok
returns-in-Err-clause-ok c = IfOk-weaker c.cut_anew.result _ _ (λ d k. anew_cut (rows_of c.args.cone.now) c.args.cone.now.ambient c.args.rows.now d k)
    c.cut_anew.ensures.ok
