use Rattle.gf_fan_files.proofs.FilesFansLaws.{cones_of_ambient, certificate_fault}
use Rattle.gf_fan_files.proofs.CertificateLaws.{proper_cones}
use Rattle.gf_fan_files.proofs.fan.check_interiors.Goals as goal

pub check_certificates-requires-clause-ambient : goal.check_certificates-requires-clause-ambient
check_certificates-requires-clause-ambient c = cones_of_ambient c.args.file.now c.args.cones.now c.requires.cones

pub check_certificates-requires-clause-proper : goal.check_certificates-requires-clause-proper
check_certificates-requires-clause-proper c = proper_cones c.args.file.now c.args.cones.now c.requires.sound c.requires.cones

pub returns-in-Some-clause-err : goal.returns-in-Some-clause-err
returns-in-Some-clause-err c = certificate_fault c.args.file.now c.args.cones.now c.in-Some.rows c.as_slice.result.now c.check_certificates.result
    c.requires.cones c.in-Some.is c.as_slice.ensures c.check_certificates.ensures
