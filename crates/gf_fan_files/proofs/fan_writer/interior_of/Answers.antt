use Rattle.std.proofs.Common.{◌∙◌, ap₂, subst, IfErr, get_or, List, ℤ}
use Rattle.std.proofs.lemmas.Result.{IfOk-weaker}
use Rattle.gf_vec.specs.Vector.{zeros}
use Rattle.gf_vec.specs.Steps.{IsFirstWide, IfWide}
use Rattle.gf_duality_theory.specs.Faces.{sum_of}
use Rattle.gf_rays.specs.Cones.{RowsAndRays}
use Rattle.gf_rays.specs.Sums.{adding_steps}
use Rattle.gf_fan.specs.MaximalCones.{no_cone, maximal_of}
use Rattle.gf_fan_files.proofs.fan_writer.interior_of.Goals as goal

pub returns-clause-ok : goal.returns-clause-ok
returns-clause-ok c = let q = c.maximal_cone.ensures in IfOk-weaker c.interior.result _ _ (λ v e. e ∙ ap₂ sum_of q.ambient q.rays) c.interior.ensures.value

pub returns-clause-wide : goal.returns-clause-wide
returns-clause-wide c =
    let q = c.maximal_cone.ensures in
    let w : RowsAndRays = c.maximal_cone.result.now in
    let d : RowsAndRays = (get_or (maximal_of c.args.fan.now) c.args.i no_cone).cone in
    subst (λ (xs : List (List ℤ)). IfErr c.interior.result (IfWide (λ e. IsFirstWide e (adding_steps (zeros d.ambient) xs)))) q.rays
    (subst (λ n. IfErr c.interior.result (IfWide (λ e. IsFirstWide e (adding_steps (zeros n) w.rays)))) q.ambient c.interior.ensures.wide)
