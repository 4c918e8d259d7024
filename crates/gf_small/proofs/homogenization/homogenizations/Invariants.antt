use Rattle.gf_small.proofs.HomogenizationLaws.{DoneSoFar}
use Rattle.gf_small.proofs.homogenization.homogenizations.Given as goal

abbrev pub invariant-polynomials : goal.invariant-polynomials
invariant-polynomials l = DoneSoFar l.n l.set l.all.items l.f-index
