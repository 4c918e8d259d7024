use Rattle.std.proofs.Common.{pos, ◌∙◌, ap}
use Rattle.std.specs.Int.{w128}
use Rattle.std.proofs.lemmas.Int.{to_z_pos}
use Rattle.gf_frac.proofs.PartsLaws.{denominator_is}
use Rattle.gf_frac.proofs.fractions.Frac.denom.Goals as goal

pub returns-clause-value : goal.returns-clause-value
returns-clause-value c = to_z_pos w128 c.self.inside.denominator c.self.invariant.denominator ∙ ap pos (denominator_is _ _ _ c.self.invariant c.self.view_is)
