use Rattle.std.proofs.Common.{FitsSigned, rules}
use Rattle.std.specs.Int.{w128}
use Rattle.gf_frac.proofs.PartsLaws.{through, numerator_is}
use Rattle.gf_frac.proofs.fractions.Frac.numer.Goals as goal

pub returns-clause-value : goal.returns-clause-value
returns-clause-value c =
    let f : FitsSigned w128 c.self.inside.numerator = search rules in
    through _ _ f (numerator_is _ _ _ c.self.invariant c.self.view_is)
