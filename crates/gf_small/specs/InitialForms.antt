-- The initial forms of polynomials by a weight, with their marks.
-- Laws: proofs/InitialFormsLaws.antt.
use Rattle.std.specs.Prelude.{◌≡◌, ◌≢◌, List, ℤ}
use Rattle.std.specs.List.{AllZip}
use Rattle.gf_frac.specs.Fraction.{zero_ℚ}
use Rattle.gf_poly.specs.Polynomial.{coefficient, IsDescending, KeepsVariables}
use Rattle.gf_poly.specs.InitialForms.{IsInitialForm}
use Rattle.gf_poly.specs.Marking.{MarkedPolynomial, head_of}
use Rattle.gf_text.specs.declared.written.Written.{Written}
use Rattle.gf_text.specs.declared.written.Written.TheVariants as written

-- c is the initial form of b by the weight w. The mark of c is the mark of b if c has this term, and else the deglex greatest term of c
pub record IsMarkedInitialForm (w : List ℤ) (b c : MarkedPolynomial) : Type 0 where
  pub form : IsInitialForm w b.poly c.poly
  pub descending : IsDescending c.poly
  pub variables : KeepsVariables b.poly c.poly
  pub kept : coefficient c.poly b.head ≢ zero_ℚ → c.head ≡ b.head
  pub lost : coefficient c.poly b.head ≡ zero_ℚ → c.head ≡ head_of c.poly 0

-- the second is the initial form of the first, where either may be zero: the initial form of zero is zero
abbrev pub IsWrittenInitialForm : List ℤ → Written → Written → Type 0
IsWrittenInitialForm w written.Zero written.Zero = Unit {0}
IsWrittenInitialForm w written.Zero (written.Nonzero c) = ⊥
IsWrittenInitialForm w (written.Nonzero b) written.Zero = ⊥
IsWrittenInitialForm w (written.Nonzero b) (written.Nonzero c) = IsMarkedInitialForm w b c

-- gs has the initial form of each polynomial of fs, in their order
abbrev pub AreInitialForms : List ℤ → List Written → List Written → Type 0
AreInitialForms w fs gs = AllZip (IsWrittenInitialForm w) fs gs
