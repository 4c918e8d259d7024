use Rattle.gf_small.specs.Keys.{AreKeyed}
use Rattle.gf_small.proofs.UnionsLaws.{SeenSoFar}
use Rattle.gf_small.proofs.unions.add_new.Given as goal

abbrev pub invariant-polynomials : goal.invariant-polynomials
invariant-polynomials l = SeenSoFar l.initial.kept.items l.set l.kept.items l.i × AreKeyed l.kept.items l.keys.keys
