use Rattle.std.proofs.Common.{◌≡◌, ◌⊎◌, List, sym, subst}
use Rattle.std.specs.List.{AllZip}
use Rattle.gf_poly.specs.Marking.{MarkedPolynomials}
use Rattle.gf_gordan.specs.Steps.{Failed}
use Rattle.gf_reduced.specs.declared.error.CheckError.TheVariants as check_errors
use Rattle.gfan_common.specs.ReducedSets.{AreReducedAsRead, IsRefusedFrom}
use Rattle.gfan_fans.specs.ToPolyhedralFan.{IsConeOfSet, IsConeStepOfSets}
use Rattle.gfan_fans.proofs.ToPolyhedralFanLaws.{set_no_fan, cone_no_fan}
use Rattle.gfan_fans.proofs.to_polyhedral_fan.cones_of_bases.Goals as goal

pub returns-in-Err-clause-err : goal.returns-in-Err-clause-err
returns-in-Err-clause-err c = λ n. set_no_fan c.args.cut n c.args.sets.items c.in-Err.error c.of_check.result
    (subst (λ (ss : List MarkedPolynomials). IsRefusedFrom 0 ss c.in-Err.error ⊎ (c.in-Err.error ≡ check_errors.Memory)) c.as_slice.ensures.value
    c.in-Err.ensures.err) c.of_check.ensures

pub returns-in-Ok-cones_of-clause-reduced : goal.returns-in-Ok-cones_of-clause-reduced
returns-in-Ok-cones_of-clause-reduced c = subst AreReducedAsRead c.as_slice.ensures.value c.in-Ok.ensures.ok

pub returns-in-Ok-cones_of-clause-cones : goal.returns-in-Ok-cones_of-clause-cones
returns-in-Ok-cones_of-clause-cones c = subst (λ (ss : List MarkedPolynomials). AllZip (IsConeOfSet c.args.cut) ss c.in-Ok-cones_of.cones.items)
    c.as_slice-2.ensures.value c.in-Ok-cones_of.ensures.ok

pub returns-clause-err : goal.returns-clause-err
returns-clause-err c = λ n. cone_no_fan c.args.cut n c.args.sets.items c.in-Err-cones_of.error c.of_gordan.result
    (subst AreReducedAsRead c.as_slice.ensures.value c.in-Ok.ensures.ok)
    (subst (λ (ss : List MarkedPolynomials). Failed (IsConeStepOfSets c.args.cut ss) c.in-Err-cones_of.error) c.as_slice-2.ensures.value
    c.in-Err-cones_of.ensures.err) c.of_gordan.ensures
