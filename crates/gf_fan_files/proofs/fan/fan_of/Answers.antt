use Rattle.std.proofs.lemmas.Result.{err_from_is_err_and}
use Rattle.std.proofs.Common.{List, inl, subst}
use Rattle.gf_rays.specs.Cones.{RowsAndRays}
use Rattle.gf_fan_files.specs.Certificates.{AreCertified}
use Rattle.gf_fan_files.proofs.FilesFansLaws.{cones_of_ambient, cones_refused, fan_refused}
use Rattle.gf_fan_files.proofs.fan.fan_of.Goals as goal

pub returns-in_err-cones-clause-err : goal.returns-in_err-cones-clause-err
returns-in_err-cones-clause-err c =
    let p = err_from_is_err_and c.from_residual.result c.from_residual.ensures.1 in
    rw p.1 (cones_refused c.args.file.now c.in_err-cones.field-0.0 p.0 c.in_err-cones.ensures.err p.2)

pub from_cones-requires-clause-cones : goal.from_cones-requires-clause-cones
from_cones-requires-clause-cones c = cones_of_ambient c.args.file.now c.in_ok-cones.cones.items c.in_ok-cones.ensures.ok

pub returns-in_err-fan-clause-err : goal.returns-in_err-fan-clause-err
returns-in_err-fan-clause-err c =
    let p = err_from_is_err_and c.from_residual-in_err-fan.result c.from_residual-in_err-fan.ensures.1 in
    rw p.1 (fan_refused c.args.file.now c.in_ok-cones.cones.items c.in_err-fan.field-0.0 p.0 c.in_ok-cones.ensures.ok
    (subst (λ (ks : List RowsAndRays). AreCertified c.args.file.now.ambient ks c.args.file.now.interiors)
    c.deref.ensures.value c.in_ok-check_interiors.ensures.ok) c.in_err-fan.ensures.err p.2)

pub returns-in_err-check_interiors-clause-err : goal.returns-in_err-check_interiors-clause-err
returns-in_err-check_interiors-clause-err c =
    let p = err_from_is_err_and c.from_residual-in_err-check_interiors.result c.from_residual-in_err-check_interiors.ensures.1 in
    rw (p.1, p.2) (inl c.in_err-check_interiors.ensures.err)
