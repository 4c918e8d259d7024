-- Lists of marked sets that are read as reduced bases.
use Rattle.std.specs.Prelude.{ℕ, ◌+◌, List, [], ◌∷◌, ◌⊎◌, Contains}
use Rattle.gf_poly.specs.Marking.{MarkedPolynomials, HaveVariables, IsArranged}
use Rattle.gf_reduced.specs.declared.error.CheckError.{CheckError}
use Rattle.gf_reduced.specs.Forms.{monic_set}
use Rattle.gf_reduced.specs.Terms.{AreReduced}
use Rattle.gf_reduced.specs.Markings.{IsMarkedGroebnerBasis, IsReducedBasisOf}
use Rattle.gf_reduced.specs.Refusals.{IsReducedRefusal, AreChecksWithinLimits}

-- no term of s is divisible by a mark, except the marks by themselves. t has the members of s made monic and arranged, and is the reduced
-- Gröbner basis of the ideal of s for its marking
pub record IsReducedAsRead (s t : MarkedPolynomials) : Type 0 where
  pub terms : AreReduced s.items
  pub arranged : IsArranged (monic_set s) t
  pub basis : IsReducedBasisOf s t

-- each of the sets is a reduced basis in this sense
abbrev pub AreReducedAsRead : List MarkedPolynomials → Type 0
AreReducedAsRead sets = (s : MarkedPolynomials) → Contains sets s → (t : MarkedPolynomials) × IsReducedAsRead s t

-- e is the refusal of the first of the sets that isn't a reduced basis, or whose check fails; the sets are numbered from k
abbrev pub IsRefusedFrom : ℕ → List MarkedPolynomials → CheckError → Type 0
IsRefusedFrom k [] e = ⊥
IsRefusedFrom k (s ∷ sets) e = IsReducedRefusal k s e ⊎ (((t : MarkedPolynomials) × IsReducedAsRead s t) × IsRefusedFrom (k + 1) sets e)

-- the members of the set are in its variables, the set is a reduced basis, and no operation of its checks leaves its limits
pub record IsCheckedWithin (s : MarkedPolynomials) : Type 0 where
  pub variables : HaveVariables s.variables s.items
  pub basis : IsMarkedGroebnerBasis s.variables s.items
  pub terms : AreReduced s.items
  pub checks : AreChecksWithinLimits s
