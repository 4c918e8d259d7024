use Rattle.gf_strands.specs.Strands.{NoneDividesTo}
use Rattle.gf_strands.proofs.forms.monomial_below.Given as goal

abbrev pub invariant-marks : goal.invariant-marks
invariant-marks l = NoneDividesTo l.marks l.j l.x
