-- The marked terms of a set.
-- Laws: proofs/LeadingTermsLaws.antt.
use Rattle.std.specs.Prelude.{[], ◌∷◌, map}
use Rattle.gf_poly.specs.Polynomial.{coefficient}
use Rattle.gf_poly.specs.Marking.{MarkedPolynomial, MarkedPolynomials}

-- the marked term of a polynomial, with its coefficient, as a polynomial
abbrev pub leading_of : MarkedPolynomial → MarkedPolynomial
leading_of b = record { poly = record { coef = coefficient b.poly b.head; mono = b.head } ∷ []; head = b.head }

-- the marked term of each polynomial of a set, in the order of the set
abbrev pub leading_set : MarkedPolynomials → MarkedPolynomials
leading_set s = record { variables = s.variables; items = map leading_of s.items }
