-- Variables that are units modulo an ideal. Laws: proofs/UnitLaws.antt.
use Rattle.std.specs.Prelude.{ℕ, [], ◌∷◌}
use Rattle.gf_frac.specs.Fraction.{one_ℚ}
use Rattle.gf_poly.specs.Polynomial.{Terms}
use Rattle.gf_saturate.specs.Widening.{variable_at}

-- the variable at index k, from 0, of n, as a polynomial
abbrev pub variable_terms : ℕ → ℕ → Terms
variable_terms n k = record { coef = one_ℚ; mono = variable_at n k } ∷ []
