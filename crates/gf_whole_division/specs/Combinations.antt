-- Polynomials that are added up: terms above an index, and those below it, which are to be multiplied still.
-- Laws: proofs/CombinationLaws.antt.
use Rattle.std.specs.Prelude.{◌≡◌, [], ◌∷◌, ◌++◌}
use Rattle.gf_frac.specs.Fraction.{Fraction, ◌+ℚ◌, ◌*ℚ◌}
use Rattle.gf_exponents_theory.specs.Exponents.{Exponents}
use Rattle.gf_poly.specs.declared.Term.{Term}
use Rattle.gf_poly.specs.Polynomial.{coefficient}
use Rattle.gf_whole_division.specs.declared.combinations.Halves.{Halves}
use Rattle.gf_whole_division.specs.Values.{whole_terms}

-- the coefficient at e of what is above the index and k times what is below it
abbrev pub total_at : Fraction → Halves → Exponents → Fraction
total_at k h e = coefficient (whole_terms h.above.items) e +ℚ k *ℚ coefficient (whole_terms h.below.items) e

-- they make the same polynomial
abbrev pub IsMoved : Fraction → Halves → Halves → Type 0
IsMoved k old new = (e : Exponents) → total_at k new e ≡ total_at k old e

-- one term more
abbrev pub IsSumWith : Fraction → Halves → Halves → Term → Type 0
IsSumWith k old new t = (e : Exponents) → total_at k new e ≡ total_at k old e +ℚ coefficient (t ∷ []) e

-- the terms of both parts of the new one, as they are, make that polynomial
abbrev pub IsTotal : Fraction → Halves → Halves → Type 0
IsTotal k old new = (e : Exponents) → coefficient (whole_terms new.above.items ++ whole_terms new.below.items) e ≡ total_at k old e
