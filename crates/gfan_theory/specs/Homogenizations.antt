-- Polynomials whose homogenizations stay within the limit of exponents. Law: proofs/HomogenizationLimits.antt.
use Rattle.std.specs.Prelude.{ℕ, ◌^◌, ◌<◌, List, Contains}
use Rattle.gf_poly.specs.Marking.{MarkedPolynomial}
use Rattle.gf_small.specs.Degrees.{total_degree}
use Rattle.gf_text.specs.declared.written.Written.{Written}
use Rattle.gf_text.specs.declared.written.Written.TheVariants as written
use Rattle.gfan_sets.specs.Homogenize.{homogenize_command}

-- the premise of completeness of `_homogenize` is met by polynomials of total degrees below 2^31, in any number of variables
abbrev pub HomogenizationsFit : Type 0
HomogenizationsFit = (ring : List (List ℕ)) (ws : List Written) (name : List ℕ) →
    ((b : MarkedPolynomial) → Contains ws (written.Nonzero b) → total_degree b.poly < 2 ^ 31) → homogenize_command.IsWithin (ring, (ws, name))
