use Rattle.std.proofs.Common.{slice_index_or, ap, ◌∙◌}
use Rattle.gf_exponents_theory.specs.Exponents.{Exponents}
use Rattle.gf_exponents_theory.proofs.ExponentsLaws.{entry-get_or}
use Rattle.gf_saturate.proofs.graded.exponent.Goals as goal

pub returns : goal.returns
returns c = ap (λ (x : Exponents). slice_index_or x c.args.k 0) c.exponents.ensures.value ∙ entry-get_or c.args.x.now c.args.k
