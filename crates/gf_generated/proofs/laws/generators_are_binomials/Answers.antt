use Rattle.gf_generated.proofs.GeneratedLaws.{generators_are_binomials as law}
use Rattle.gf_generated.proofs.laws.generators_are_binomials.Goals as goal

pub returns : goal.returns
returns c = law
