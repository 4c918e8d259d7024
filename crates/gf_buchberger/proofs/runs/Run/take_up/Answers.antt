use Rattle.std.proofs.Common.{refl}
use Rattle.gf_buchberger.proofs.runs.Run.take_up.Goals as goal

pub returns-in-Some-clause-ok : goal.returns-in-Some-clause-ok
returns-in-Some-clause-ok c = rw c.in-Some.is c.append.ensures.ok

pub returns-in-None-clause-ok : goal.returns-in-None-clause-ok
returns-in-None-clause-ok c = rw c.in-None.is refl
