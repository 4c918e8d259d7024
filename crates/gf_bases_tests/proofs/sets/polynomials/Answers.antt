use Rattle.std.proofs.Common.{refl}
use Rattle.gf_buchberger.proofs.TaskLaws.{ring_of_each}
use Rattle.gf_bases_tests.proofs.sets.polynomials.Goals as goal

pub returns : goal.returns
returns c = ring_of_each c.args.n c.in_ok-set.set.items c.in_ok-set.set.items refl c.in_ok-set.ensures
