use Rattle.std.proofs.Common.{◌↔◌, IsTrue, List, ℤ, pos, ◌<ℤ◌, All, subst}
use Rattle.gf_vec.specs.Vector.{dot}
use Rattle.gf_fan_files.proofs.CertificateLaws.{row_refutes}
use Rattle.gf_fan_files.proofs.certificates.is_inside.Goals as goal

pub returns-then-not-branch-clause-ok : goal.returns-then-not-branch-clause-ok
returns-then-not-branch-clause-ok c =
    let v = c.args.v.now in
    let all = c.in_ok-all_positive.field-0 in
    row_refutes c.args.c.now v all c.requires.proper (subst (λ (rows : List (List ℤ)). IsTrue all ↔ All (λ h. pos 0 <ℤ dot h v) rows)
    c.inequalities.ensures.value c.in_ok-all_positive.ensures.ok) c.if-not-branch.true
