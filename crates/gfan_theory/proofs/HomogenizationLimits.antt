-- Homogenizations of polynomials of total degrees below 2^31 stay within the limit of exponents.
-- To cite: homogenizations_fit.
use Rattle.std.proofs.Common.{Contains, arith}
use Rattle.gf_int_theory.proofs.ListLaws.{all_by}
use Rattle.gf_small.specs.Homogenization.{IsHomogenizedWithinLimit}
use Rattle.gf_text.specs.declared.written.Written.{Written}
use Rattle.gf_text.specs.declared.written.Written.TheVariants as written
use Rattle.gfan_theory.specs.Homogenizations.{HomogenizationsFit}

pub homogenizations_fit : HomogenizationsFit
homogenizations_fit ring ws name low = all_by IsHomogenizedWithinLimit ws at
  where
    at : (w : Written) → Contains ws w → IsHomogenizedWithinLimit w
    at written.Zero c = tt
    at (written.Nonzero b) c = λ k d i. let p = low b c in omega (arith, p)
