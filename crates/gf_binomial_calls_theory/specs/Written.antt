-- Polynomials that are written as a monomial, or as the difference of two, without numbers before them.
-- Laws: proofs/WrittenLaws.antt, proofs/SetLaws.antt.
use Rattle.std.specs.Prelude.{◌≡◌, ◌≢◌, List, [], ◌∷◌, map}
use Rattle.gf_poly.specs.Polynomial.{Terms}
use Rattle.gf_poly.specs.Marking.{Each}
use Rattle.gf_text.specs.declared.tree.WrittenTerm.{WrittenTerm}
use Rattle.gf_text.specs.declared.written.Written.{Written}
use Rattle.gf_text.specs.declared.written.Written.TheVariants as written

-- no number stands before the powers of the term, or the number is 1
pub record HasNoNumber (u : WrittenTerm) : Type 0 where
  pub numerator : u.numer ≡ 1
  pub denominator : u.denom ≡ 1

-- a single such term, of either sign, or two of different signs
abbrev pub IsPlainlyWritten : List WrittenTerm → Type 0
IsPlainlyWritten [] = ⊥
IsPlainlyWritten (u ∷ []) = HasNoNumber u
IsPlainlyWritten (u ∷ v ∷ []) = HasNoNumber u × HasNoNumber v × (u.minus ≢ v.minus)
IsPlainlyWritten (u ∷ v ∷ w ∷ us) = ⊥

-- each polynomial of the list is written so: as a single term, or as two of different signs, without numbers
abbrev pub ArePlainlyWritten : List (List WrittenTerm) → Type 0
ArePlainlyWritten qs = Each IsPlainlyWritten qs

-- the polynomial that is the sum of the written terms
abbrev pub written_polynomial : Written → Terms
written_polynomial written.Zero = []
written_polynomial (written.Nonzero m) = m.poly

-- the polynomials of a list
abbrev pub written_polynomials : List Written → List Terms
written_polynomials ws = map written_polynomial ws
