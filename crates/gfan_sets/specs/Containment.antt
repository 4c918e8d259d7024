-- `_doesidealcontain`: its input, its output, and why it is refused.
use Rattle.std.specs.Prelude.{◌≡◌, ℕ, List, [], Contains, ◌∷◌}
use Rattle.gf_poly.specs.declared.error.PolyError.{PolyError}
use Rattle.gf_poly.specs.Polynomial.{Terms}
use Rattle.gf_poly.specs.Marking.{MarkedPolynomials, HaveVariables, polys, IsArranged}
use Rattle.gf_ideal_theory.specs.Membership.{IsMember}
use Rattle.gf_reduced.specs.declared.error.CheckError.{CheckError}
use Rattle.gf_reduced.specs.Forms.{monic_set}
use Rattle.gf_reduced.specs.Markings.{IsMarkedGroebnerBasis}
use Rattle.gf_reduced.specs.Refusals.{of_poly, IsReducedBasisRefusal, AreChecksWithinLimits, IsReductionWithinLimits}
use Rattle.gf_text.specs.declared.written.Written.{Written}
use Rattle.gf_items.specs.Sources.{ring_marked_set_and_set}
use Rattle.gf_frame.specs.Loading.{Origin}
use Rattle.gf_frame.specs.Readings.{of_one}
use Rattle.gf_frame.specs.Commands.{Writing, Command}
use Rattle.gfan_common.specs.Forms.{generators_of}
use Rattle.gfan_common.specs.Printing.{IsVerdictText}
use Rattle.gfan_common.specs.CheckedSets.{of_check, IsSomeReductionRefusal}

-- ---- what is written

-- each of the polynomials fs is in the ideal that gs generates in n variables
abbrev pub AllAreMembers : ℕ → List Terms → List Terms → Type 0
AllAreMembers n gs fs = (f : Terms) → Contains fs f → IsMember n gs f

-- the set is a Gröbner basis for its marking. The text is that of 1 if its ideal contains each of the polynomials, and that of 0 if it
-- doesn't
pub record IsContainmentText (s : MarkedPolynomials) (fs : List Terms) (text : List ℕ) : Type 0 where
  pub basis : IsMarkedGroebnerBasis s.variables s.items
  pub verdict : IsVerdictText (AllAreMembers s.variables (polys s.items) fs) text

-- ---- why it is refused

-- the set is refused as a basis; or it is one, t has its members made monic and arranged, and the reduction of a polynomial by t is refused
pub data IsContainmentRefusal (s : MarkedPolynomials) (fs : List Terms) (e : CheckError) : Type 0 where
  at_basis : IsReducedBasisRefusal 0 s e → IsContainmentRefusal s fs e
  at_member : (t : MarkedPolynomials) (d : PolyError) → IsMarkedGroebnerBasis s.variables s.items → IsArranged (monic_set s) t →
      IsSomeReductionRefusal t.items fs d → e ≡ of_poly d → IsContainmentRefusal s fs e

-- the members of the set are in its variables, the set is a basis, no operation of its checks leaves its limits, nor does one of the
-- reduction of a polynomial by its members made monic and arranged
pub record IsContainmentWithin (s : MarkedPolynomials) (fs : List Terms) : Type 0 where
  pub variables : HaveVariables s.variables s.items
  pub basis : IsMarkedGroebnerBasis s.variables s.items
  pub checks : AreChecksWithinLimits s
  pub members : (t : MarkedPolynomials) (f : Terms) → IsArranged (monic_set s) t → Contains fs f → IsReductionWithinLimits t.items f

-- ---- the command

-- the command `_doesidealcontain`
abbrev pub containment_command : Command
containment_command = record {
  Value = List (List ℕ) × (MarkedPolynomials × List Written);
  reads = Origin.the_input ∷ [];
  reading = of_one ring_marked_set_and_set;
  checks = λ v. [];
  IsAnswer = λ v text. IsContainmentText v.1.0 (generators_of v.1.1) text;
  IsCause = λ v r. (e : CheckError) × (r ≡ of_check e) × IsContainmentRefusal v.1.0 (generators_of v.1.1) e;
  IsWithin = λ v. IsContainmentWithin v.1.0 (generators_of v.1.1);
  writing = Writing.at_end;
}
